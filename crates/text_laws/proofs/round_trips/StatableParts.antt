-- Each part that an item states is one that its field can have.
use Rattle.std.proofs.Common.{◌≡◌, ℕ, ◌*◌, ◌%◌, ◌<◌, ◌≤◌, ◌^◌, inl, inr, Bool, true, false, cond, List, refl, sym, subst, ap, ◌∙◌, arith, bit_and, Option, Some, None}
use Rattle.std.specs.Prelude.{◌==◌, codes, bytes_eq}
use Rattle.std.specs.Option.{option_map, option_or, option_and_then}
use Rattle.std.specs.Int.Bits.{and_self}
use Rattle.std.proofs.lemmas.Bool.{both_ways}
use Rattle.std.proofs.lemmas.Nat.{and_assoc, and_le_l, and_mask}
use Rattle.spec_base.specs.Bits.{all_bits}
use Rattle.spec_keys.specs.declared.field_id.FieldId.TheVariants as key
use Rattle.spec_actions.specs.declared.named_field.NamedField.{NamedField}
use Rattle.spec_actions.specs.declared.named_field.NamedField.TheVariants as field
use Rattle.spec_actions.specs.Named.{named, dscp_bits}
use Rattle.spec_actions.specs.Sound.{last_vid}
use Rattle.spec_flow_text.specs.Numbers.{number_upto, last_port}
use Rattle.spec_flow_text.specs.declared.part.MatchPrerequisite.TheVariants as needs
use Rattle.spec_flow_text.specs.declared.part.TagPart.TheVariants as tag
use Rattle.spec_flow_text.specs.declared.part.Part.{Part}
use Rattle.spec_flow_text.specs.declared.shorthand.Shorthand.{Shorthand}
use Rattle.spec_flow_text.specs.Names.{type_stated}
use Rattle.spec_flow_text.specs.Values.{Bits, bits, most_of, value_of, needs_of, tag_part_of, part, raised, with_tag, dscp_of, bits_stated, field_stated, vlan_bits, vlan_stated, no_vlan, type_part, protocol_part}
use Rattle.text_laws.proofs.values.WithinLaws.{chained, mapped}
use Rattle.text_laws.proofs.ItemTexts.{IsInText}
use Rattle.text_laws.proofs.matches.Blocks.{raised_none}
use Rattle.text_laws.proofs.round_trips.PartsRead.{ReadRanges, IsStatable, IsValue, value_read, in_port_read}

-- ---- the bits of a part

pub and_twice : (v m : ℕ) → bit_and (bit_and v m) m ≡ bit_and v m
and_twice v m = and_assoc m v m ∙ ap (bit_and v) (and_self m)

same_port : (v : ℕ) → v ≤ last_port → bit_and v (all_bits 16) ≡ v
same_port v le = let small : v % 2 ^ 16 ≡ v = omega arith in and_mask v 16 ∙ small

-- ---- names of flow text that stand for all of a field

abbrev IsWholeName : NamedField → Type 0
IsWholeName field.VlanPcp = ⊥
IsWholeName field.NwTos = ⊥
IsWholeName field.IpDscp = ⊥
IsWholeName field.NwEcn = ⊥
IsWholeName field.IpFrag = ⊥
IsWholeName field.InPort = ⊥
IsWholeName field.VlanTpid = ⊥
IsWholeName field.VlanTci2 = ⊥
IsWholeName field.VlanTpid2 = ⊥
IsWholeName a = Unit {0}

abbrev part_of : NamedField → Bits → Part
part_of a b = part (named a).field b (needs_of a) (tag_part_of a)

icmp_value : (a : NamedField) (b : Bits) → IsValue a b → most_of a ≡ 255 → bit_and b.value b.mask ≤ 255
icmp_value a b h most = omega (arith, and_le_l b.value b.mask, h.value, most)

wide : (a : NamedField) (b : Bits) → IsValue a b → (named a).bits ≡ 13 → b.mask ≤ all_bits 16
wide a b h bits = let le = subst (λ w. b.mask ≤ all_bits w) bits h.mask in omega (arith, le)

whole_name : (a : NamedField) (b : Bits) → IsWholeName a → IsValue a b → IsStatable (part_of a b)
whole_name field.VlanPcp b other h = absurd other
whole_name field.NwTos b other h = absurd other
whole_name field.IpDscp b other h = absurd other
whole_name field.NwEcn b other h = absurd other
whole_name field.IpFrag b other h = absurd other
whole_name field.InPort b other h = absurd other
whole_name field.VlanTpid b other h = absurd other
whole_name field.VlanTci2 b other h = absurd other
whole_name field.VlanTpid2 b other h = absurd other
whole_name field.DlType b other h = record { within = and_twice b.value b.mask; suits = h.exact refl; needed = refl; tagged = refl }
whole_name field.NwProto b other h = record { within = and_twice b.value b.mask; suits = h.exact refl; needed = tt; tagged = refl }
whole_name field.ArpOp b other h = record { within = and_twice b.value b.mask; suits = h.exact refl; needed = tt; tagged = refl }
whole_name field.NwTtl b other h = record { within = and_twice b.value b.mask; suits = h.exact refl; needed = refl; tagged = refl }
whole_name field.IcmpType b other h = record { within = and_twice b.value b.mask; suits = (h.exact refl, icmp_value field.IcmpType b h refl); needed = tt; tagged = refl }
whole_name field.IcmpCode b other h = record { within = and_twice b.value b.mask; suits = (h.exact refl, icmp_value field.IcmpCode b h refl); needed = tt; tagged = refl }
whole_name field.Icmpv6Type b other h = record { within = and_twice b.value b.mask; suits = (h.exact refl, icmp_value field.Icmpv6Type b h refl); needed = tt; tagged = refl }
whole_name field.Icmpv6Code b other h = record { within = and_twice b.value b.mask; suits = (h.exact refl, icmp_value field.Icmpv6Code b h refl); needed = tt; tagged = refl }
whole_name field.TpSrc b other h = record { within = and_twice b.value b.mask; suits = h.mask; needed = tt; tagged = refl }
whole_name field.TpDst b other h = record { within = and_twice b.value b.mask; suits = h.mask; needed = tt; tagged = refl }
whole_name field.TcpSrc b other h = record { within = and_twice b.value b.mask; suits = h.mask; needed = tt; tagged = refl }
whole_name field.TcpDst b other h = record { within = and_twice b.value b.mask; suits = h.mask; needed = tt; tagged = refl }
whole_name field.UdpSrc b other h = record { within = and_twice b.value b.mask; suits = h.mask; needed = tt; tagged = refl }
whole_name field.UdpDst b other h = record { within = and_twice b.value b.mask; suits = h.mask; needed = tt; tagged = refl }
whole_name field.NwSrc b other h = record { within = and_twice b.value b.mask; suits = h.mask; needed = tt; tagged = refl }
whole_name field.NwDst b other h = record { within = and_twice b.value b.mask; suits = h.mask; needed = tt; tagged = refl }
whole_name field.ArpSpa b other h = record { within = and_twice b.value b.mask; suits = h.mask; needed = tt; tagged = refl }
whole_name field.ArpTpa b other h = record { within = and_twice b.value b.mask; suits = h.mask; needed = tt; tagged = refl }
whole_name field.VlanVid b other h = record { within = and_twice b.value b.mask; suits = wide field.VlanVid b h refl; needed = refl; tagged = tt }
whole_name field.VlanTci b other h = record { within = and_twice b.value b.mask; suits = h.mask; needed = refl; tagged = tt }
whole_name a b other h = record { within = and_twice b.value b.mask; suits = h.mask; needed = refl; tagged = refl }

-- what such a name states
whole_stated : (a : NamedField) (b s : Bits) → IsWholeName a → bits_stated a b ≡ Some s → b ≡ s
unfolding bits_stated
whole_stated field.VlanPcp b s other h = absurd other
whole_stated field.NwTos b s other h = absurd other
whole_stated field.IpDscp b s other h = absurd other
whole_stated field.NwEcn b s other h = absurd other
whole_stated field.IpFrag b s other h = absurd other
whole_stated field.InPort b s other h = absurd other
whole_stated field.VlanTpid b s other h = absurd other
whole_stated field.VlanTci2 b s other h = absurd other
whole_stated field.VlanTpid2 b s other h = absurd other
whole_stated a b s other h = let same : raised 0 b ≡ s = cc in sym (raised_none b.value b.mask) ∙ same

-- ---- other names

in_port_part : (b : Bits) → IsValue field.InPort b → (0 < b.value) × (b.value ≤ last_port) → IsStatable (part_of field.InPort b)
in_port_part b h port =
    let mask : b.mask ≡ all_bits 16 = h.exact refl in
    let same : bit_and b.value b.mask ≡ b.value = ap (bit_and b.value) mask ∙ same_port b.value port.1 in
    record {
      within = and_twice b.value b.mask;
      suits = (mask, (subst (λ v. 0 < v) (sym same) port.0, subst (λ v. v ≤ last_port) (sym same) port.1));
      needed = refl;
      tagged = refl;
    }

priority_part : (b : Bits) → IsValue field.VlanPcp b → IsStatable (part_of field.VlanPcp (with_tag (raised 13 b)))
priority_part b h =
    let s = with_tag (raised 13 b) in
    let mask : b.mask ≡ 7 = h.exact refl in
    record { within = and_twice s.value s.mask; suits = omega (arith, mask); needed = refl; tagged = tt }

dscp_part : (b : Bits) → IsValue field.IpDscp b → IsStatable (part_of field.IpDscp (raised 2 b))
dscp_part b h =
    let s = raised 2 b in
    record { within = and_twice s.value s.mask; suits = inl (ap (λ m. m * 2 ^ 2) (h.exact refl)); needed = refl; tagged = refl }

ecn_part : (b : Bits) → IsValue field.NwEcn b → IsStatable (part_of field.NwEcn (raised 0 b))
ecn_part b h =
    let s = raised 0 b in
    record { within = and_twice s.value s.mask; suits = inr (ap (λ m. m * 2 ^ 0) (h.exact refl)); needed = refl; tagged = refl }

service_part : (b s : Bits) → dscp_of b ≡ Some s → IsStatable (part_of field.NwTos s)
service_part b s h = by_test (bit_and b.value dscp_bits == b.value) h
  where
    by_test : (t : Bool) → cond t (Some (bits b.value dscp_bits)) None ≡ Some s → IsStatable (part_of field.NwTos s)
    by_test true h =
        let same : bits b.value dscp_bits ≡ s = cc in
        subst (λ x. IsStatable (part_of field.NwTos x)) same (record { within = and_twice b.value dscp_bits; suits = inl refl; needed = refl; tagged = refl })
    by_test false h = cc

fragment_part : (text : List ℕ) (b : Bits) → value_of field.IpFrag text ≡ Some b → IsStatable (part_of field.IpFrag (raised 0 b))
unfolding value_of
fragment_part text b h =
    by_tests (bytes_eq (codes "no") text) (bytes_eq (codes "first") text) (bytes_eq (codes "later") text) (bytes_eq (codes "yes") text) (bytes_eq (codes "not_later") text) h
  where
    these : (x : Bits) → Some x ≡ Some b → IsStatable (part_of field.IpFrag (raised 0 x)) → IsStatable (part_of field.IpFrag (raised 0 b))
    these x e s = let same : x ≡ b = cc in subst (λ y. IsStatable (part_of field.IpFrag (raised 0 y))) same s

    by_tests : (t1 t2 t3 t4 t5 : Bool)
        → option_map (λ (row : List ℕ × Bits). row.1) (cond t1 (Some (codes "no", bits 0 3)) (cond t2 (Some (codes "first", bits 1 3)) (cond t3 (Some (codes "later", bits 3 3)) (cond t4 (Some (codes "yes", bits 1 1)) (cond t5 (Some (codes "not_later", bits 0 2)) None))))) ≡ Some b
        → IsStatable (part_of field.IpFrag (raised 0 b))
    by_tests true t2 t3 t4 t5 h = these (bits 0 3) h (record { within = refl; suits = refl; needed = refl; tagged = refl })
    by_tests false true t3 t4 t5 h = these (bits 1 3) h (record { within = refl; suits = refl; needed = refl; tagged = refl })
    by_tests false false true t4 t5 h = these (bits 3 3) h (record { within = refl; suits = refl; needed = refl; tagged = refl })
    by_tests false false false true t5 h = these (bits 1 1) h (record { within = refl; suits = refl; needed = refl; tagged = refl })
    by_tests false false false false true h = these (bits 0 2) h (record { within = refl; suits = refl; needed = refl; tagged = refl })
    by_tests false false false false false h = cc

-- ---- items

stated_part : ReadRanges → (a : NamedField) (text : List ℕ) (b s : Bits) → IsInText a → value_of a text ≡ Some b → bits_stated a b ≡ Some s → IsStatable (part_of a s)
unfolding bits_stated
stated_part r field.InPort text b s in_text v h =
    let same : raised 0 b ≡ s = cc in
    subst (λ x. IsStatable (part_of field.InPort x)) (sym (raised_none b.value b.mask) ∙ same) (in_port_part b (value_read r field.InPort text b tt v) (in_port_read r text b v))
stated_part r field.VlanPcp text b s in_text v h =
    let same : with_tag (raised 13 b) ≡ s = cc in
    subst (λ x. IsStatable (part_of field.VlanPcp x)) same (priority_part b (value_read r field.VlanPcp text b tt v))
stated_part r field.NwTos text b s in_text v h = service_part b s h
stated_part r field.IpDscp text b s in_text v h =
    let same : raised 2 b ≡ s = cc in
    subst (λ x. IsStatable (part_of field.IpDscp x)) same (dscp_part b (value_read r field.IpDscp text b tt v))
stated_part r field.NwEcn text b s in_text v h =
    let same : raised 0 b ≡ s = cc in
    subst (λ x. IsStatable (part_of field.NwEcn x)) same (ecn_part b (value_read r field.NwEcn text b tt v))
stated_part r field.IpFrag text b s in_text v h =
    let same : raised 0 b ≡ s = cc in
    subst (λ x. IsStatable (part_of field.IpFrag x)) same (fragment_part text b v)
stated_part r field.VlanTpid text b s in_text v h = absurd (both_ways false refl in_text)
stated_part r field.VlanTci2 text b s in_text v h = absurd (both_ways false refl in_text)
stated_part r field.VlanTpid2 text b s in_text v h = absurd (both_ways false refl in_text)
stated_part r a text b s in_text v h = subst (λ x. IsStatable (part_of a x)) (whole_stated a b s tt h) (whole_name a b tt (value_read r a text b tt v))

pub field_statable : ReadRanges → (a : NamedField) (text : List ℕ) (p : Part) → IsInText a → field_stated a text ≡ Some p → IsStatable p
unfolding field_stated
field_statable r a text p in_text h =
    let b = chained (value_of a text) _ p h in
    let s = chained (bits_stated a b.0) (λ s. Some (part_of a s)) p b.2 in
    let same : part_of a s.0 ≡ p = cc in
    subst IsStatable same (stated_part r a text b.0 s.0 in_text b.1 s.1)

-- ---- VLANs and shorthands

vlan_part : (b : Bits) → b.mask ≤ all_bits 16 → IsStatable (part key.VlanTci b needs.Nothing tag.Identifier)
vlan_part b le = record { within = and_twice b.value b.mask; suits = le; needed = refl; tagged = tt }

no_vlan_mask : (n : ℕ) (b : Bits) → vlan_bits n ≡ Some b → b.mask ≤ all_bits 16
no_vlan_mask n b h = by_test (n == no_vlan) h
  where
    by_test : (t : Bool) → cond t (Some (bits 0 (all_bits 16))) None ≡ Some b → b.mask ≤ all_bits 16
    by_test true h = let same : bits 0 (all_bits 16) ≡ b = cc in subst (λ (x : Bits). x.mask ≤ all_bits 16) same (omega arith)
    by_test false h = cc

pub vlan_statable : (text : List ℕ) (p : Part) → vlan_stated text ≡ Some p → IsStatable p
unfolding vlan_stated
vlan_statable text p h =
    let b = mapped (option_or (option_map (λ n. with_tag (bits n last_vid)) (number_upto last_vid text)) (option_and_then vlan_bits (number_upto no_vlan text))) _ p h in
    subst IsStatable b.2 (vlan_part b.0 (by_number (number_upto last_vid text) b.0 b.1))
  where
    by_number : (o : Option ℕ) (b : Bits) → option_or (option_map (λ n. with_tag (bits n last_vid)) o) (option_and_then vlan_bits (number_upto no_vlan text)) ≡ Some b → b.mask ≤ all_bits 16
    by_number (Some n) b h = let same : with_tag (bits n last_vid) ≡ b = cc in subst (λ (x : Bits). x.mask ≤ all_bits 16) same (omega arith)
    by_number None b h = let n = chained (number_upto no_vlan text) vlan_bits b h in no_vlan_mask n.0 b n.2

pub type_statable : (h : Shorthand) → IsStatable (type_part (type_stated h))
type_statable h = record { within = and_twice (type_stated h) (all_bits 16); suits = refl; needed = refl; tagged = refl }

pub protocol_statable : (n : ℕ) → IsStatable (protocol_part n)
protocol_statable n = record { within = and_twice n (all_bits 8); suits = refl; needed = tt; tagged = refl }
