-- What a value states of a field is something that the field can be said to be.
use Rattle.std.proofs.Common.{◌≡◌, ℕ, ◌<◌, ◌≤◌, ◌^◌, ◌⊎◌, Bool, true, false, cond, List, refl, sym, subst, ◌∙◌, arith, bit_and, Option, Some, None}
use Rattle.std.specs.Prelude.{◌==◌, is_some}
use Rattle.std.specs.Option.{option_and_then}
use Rattle.std.proofs.lemmas.Bool.{both_ways}
use Rattle.std.proofs.lemmas.Bool.Decides.{nat_tests}
use Rattle.spec_base.specs.Bits.{all_bits}
use Rattle.spec_keys.specs.declared.field_id.FieldId.{FieldId}
use Rattle.spec_keys.specs.declared.field_id.FieldId.TheVariants as key
use Rattle.spec_keys.specs.Fields.{width_of}
use Rattle.spec_actions.specs.declared.named_field.NamedField.{NamedField}
use Rattle.spec_actions.specs.declared.named_field.NamedField.TheVariants as field
use Rattle.spec_actions.specs.Named.{named}
use Rattle.spec_flow_text.specs.Characters.{slash}
use Rattle.spec_flow_text.specs.Numbers.{where_found, split_once, number_upto, last_port, nonzero, mac}
use Rattle.spec_flow_text.specs.Addresses.{ipv4, ipv6, ipv4_mask, ipv6_mask}
use Rattle.spec_flow_text.specs.declared.part.ValueForm.{ValueForm}
use Rattle.spec_flow_text.specs.declared.part.ValueForm.TheVariants as form
use Rattle.spec_flow_text.specs.declared.part.MatchPrerequisite.{MatchPrerequisite}
use Rattle.spec_flow_text.specs.declared.part.MatchPrerequisite.TheVariants as needs
use Rattle.spec_flow_text.specs.declared.part.TagPart.{TagPart}
use Rattle.spec_flow_text.specs.declared.part.TagPart.TheVariants as tag
use Rattle.spec_flow_text.specs.declared.part.Part.{Part}
use Rattle.spec_flow_text.specs.Values.{Bits, bits, form_of, most_of, value_in, mask_in, whole_value, masked_value, value_of, needs_of}
use Rattle.spec_flow_text.specs.Printed.{fragment_word, own_name}
use Rattle.text_laws.proofs.values.WithinLaws.{chained, mapped}
use Rattle.text_laws.proofs.matches.NamesBack.{most_room}

-- what is known of values that are read
pub record ReadRanges : Type 0 where
  pub numbers : (most : ℕ) (text : List ℕ) (n : ℕ) → number_upto most text ≡ Some n → n ≤ most
  pub macs : (text : List ℕ) (n : ℕ) → mac text ≡ Some n → n < 2 ^ 48
  pub ipv4s : (text : List ℕ) (n : ℕ) → ipv4 text ≡ Some n → n < 2 ^ 32
  pub ipv6s : (text : List ℕ) (n : ℕ) → ipv6 text ≡ Some n → n < 2 ^ 128
  pub ipv4_masks : (text : List ℕ) (n : ℕ) → ipv4_mask text ≡ Some n → n < 2 ^ 32
  pub ipv6_masks : (text : List ℕ) (n : ℕ) → ipv6_mask text ≡ Some n → n < 2 ^ 128

-- ---- parts that a field can have

abbrev pub IsAddressNeed : MatchPrerequisite → Type 0
IsAddressNeed needs.Ipv4OrArp = Unit {0}
IsAddressNeed needs.Arp = Unit {0}
IsAddressNeed n = ⊥

abbrev pub IsProtocolNeed : MatchPrerequisite → Type 0
IsProtocolNeed needs.Ip = Unit {0}
IsProtocolNeed needs.IpOrArp = Unit {0}
IsProtocolNeed needs.Arp = Unit {0}
IsProtocolNeed n = ⊥

abbrev pub IsPortNeed : MatchPrerequisite → Type 0
IsPortNeed needs.Tcp = Unit {0}
IsPortNeed needs.Udp = Unit {0}
IsPortNeed needs.TcpOrUdp = Unit {0}
IsPortNeed needs.AnyIcmp = Unit {0}
IsPortNeed needs.Icmp6 = Unit {0}
IsPortNeed n = ⊥

abbrev pub MayNeed : FieldId → MatchPrerequisite → Type 0
MayNeed key.NwSrc n = IsAddressNeed n
MayNeed key.NwDst n = IsAddressNeed n
MayNeed key.NwProto n = IsProtocolNeed n
MayNeed key.TpSrc n = IsPortNeed n
MayNeed key.TpDst n = IsPortNeed n
MayNeed f n = n ≡ needs_of (own_name f)

-- types and codes of ICMP are stated whole
abbrev pub SuitsPort : MatchPrerequisite → (value mask : ℕ) → Type 0
SuitsPort needs.AnyIcmp value mask = (mask ≡ all_bits 16) × (value ≤ 255)
SuitsPort needs.Icmp6 value mask = (mask ≡ all_bits 16) × (value ≤ 255)
SuitsPort n value mask = mask ≤ all_bits 16

-- how much of a field is stated at once: of the type of a tag, and of an inner tag, nothing
abbrev pub Suits : FieldId → MatchPrerequisite → (value mask : ℕ) → Type 0
Suits key.InPort n value mask = (mask ≡ all_bits 16) × ((0 < value) × (value ≤ last_port))
Suits key.DlType n value mask = mask ≡ all_bits 16
Suits key.NwProto n value mask = mask ≡ all_bits 8
Suits key.NwTtl n value mask = mask ≡ all_bits 8
Suits key.NwTos n value mask = (mask ≡ 252) ⊎ (mask ≡ 3)
Suits key.IpFrag n value mask = is_some (fragment_word (bits value mask)) ≡ true
Suits key.TpSrc n value mask = SuitsPort n value mask
Suits key.TpDst n value mask = SuitsPort n value mask
Suits key.VlanTpid n value mask = ⊥
Suits key.VlanTci2 n value mask = ⊥
Suits key.VlanTpid2 n value mask = ⊥
Suits f n value mask = mask ≤ all_bits (width_of f)

abbrev pub IsTagged : FieldId → TagPart → Type 0
IsTagged key.VlanTci t = Unit {0}
IsTagged f t = t ≡ tag.Neither

pub record IsStatable (p : Part) : Type 0 where
  pub within : bit_and p.value p.mask ≡ p.value
  pub suits : Suits p.field p.needs p.value p.mask
  pub needed : MayNeed p.field p.needs
  pub tagged : IsTagged p.field p.tag

-- ---- values

abbrev limit : ValueForm → ℕ → ℕ
limit form.Port most = last_port
limit form.Number most = most
limit form.Mac most = all_bits 48
limit form.Ipv4 most = all_bits 32
limit form.Ipv6 most = all_bits 128
limit form.Fragment most = 0

nonzero_same : (n v : ℕ) → nonzero n ≡ Some v → (n ≡ v) × (0 < v)
nonzero_same n v h = by_test (n == 0) refl h
  where
    by_test : (t : Bool) → (n == 0) ≡ t → cond t None (Some n) ≡ Some v → (n ≡ v) × (0 < v)
    by_test true e h = cc
    by_test false e h = let same : n ≡ v = cc in (same, subst (λ k. 0 < k) same (grind (arith, nat_tests)))

port_read : ReadRanges → (text : List ℕ) (v : ℕ) → option_and_then nonzero (number_upto last_port text) ≡ Some v → (0 < v) × (v ≤ last_port)
port_read r text v h =
    let n = chained (number_upto last_port text) nonzero v h in
    let same = nonzero_same n.0 v n.2 in
    (same.1, subst (λ k. k ≤ last_port) same.0 (r.numbers last_port text n.0 n.1))

value_limit : ReadRanges → (f : ValueForm) (most : ℕ) (text : List ℕ) (v : ℕ) → value_in f most text ≡ Some v → v ≤ limit f most
unfolding value_in
value_limit r form.Port most text v h = (port_read r text v h).1
value_limit r form.Number most text v h = r.numbers most text v h
value_limit r form.Mac most text v h = omega (arith, r.macs text v h)
value_limit r form.Ipv4 most text v h = omega (arith, r.ipv4s text v h)
value_limit r form.Ipv6 most text v h = omega (arith, r.ipv6s text v h)
value_limit r form.Fragment most text v h = cc

mask_limit : ReadRanges → (f : ValueForm) (most : ℕ) (text : List ℕ) (m : ℕ) → mask_in f most text ≡ Some m → m ≤ limit f most
unfolding mask_in
mask_limit r form.Port most text m h = cc
mask_limit r form.Number most text m h = r.numbers most text m h
mask_limit r form.Mac most text m h = omega (arith, r.macs text m h)
mask_limit r form.Ipv4 most text m h = omega (arith, r.ipv4_masks text m h)
mask_limit r form.Ipv6 most text m h = omega (arith, r.ipv6_masks text m h)
mask_limit r form.Fragment most text m h = cc

limit_most : (a : NamedField) (n : ℕ) → n ≤ limit (form_of a) (most_of a) → n ≤ most_of a
limit_most field.InPort n le = omega arith
limit_most field.IpFrag n le = omega arith
limit_most a n le = le

-- bits that a value states of a named field
pub record IsValue (a : NamedField) (b : Bits) : Type 0 where
  pub value : b.value ≤ most_of a
  pub mask : b.mask ≤ all_bits (named a).bits
  pub exact : (named a).maskable ≡ false → b.mask ≡ all_bits (named a).bits

abbrev pub IsNoFragment : NamedField → Type 0
IsNoFragment field.IpFrag = ⊥
IsNoFragment a = Unit {0}

cut_at_slash : (a : NamedField) (text : List ℕ) → IsNoFragment a → value_of a text ≡ where_found (split_once slash text) (masked_value a) (whole_value a text)
unfolding value_of
cut_at_slash field.IpFrag text h = absurd h
cut_at_slash a text h = refl

all_le : (n : ℕ) → n ≤ n
all_le n = omega arith

pub whole_read : ReadRanges → (a : NamedField) (text : List ℕ) (b : Bits) → whole_value a text ≡ Some b → IsValue a b
unfolding whole_value
whole_read r a text b h =
    let v = mapped (value_in (form_of a) (most_of a) text) _ b h in
    subst (IsValue a) v.2 (record {
      value = limit_most a v.0 (value_limit r (form_of a) (most_of a) text v.0 v.1);
      mask = all_le (all_bits (named a).bits);
      exact = λ e. refl;
    })

masked_read : ReadRanges → (a : NamedField) (parts : List ℕ × List ℕ) (b : Bits) → masked_value a parts ≡ Some b → IsValue a b
unfolding masked_value
masked_read r a parts b h =
    let v = chained (value_in (form_of a) (most_of a) parts.0) _ b h in
    let m = chained (mask_in (form_of a) (most_of a) parts.1) _ b v.2 in
    by_test v.0 m.0 (limit_most a v.0 (value_limit r (form_of a) (most_of a) parts.0 v.0 v.1)) (most_room a m.0 (limit_most a m.0 (mask_limit r (form_of a) (most_of a) parts.1 m.0 m.1))) (named a).maskable refl m.2
  where
    by_test : (v m : ℕ) → v ≤ most_of a → m ≤ all_bits (named a).bits → (t : Bool) → (named a).maskable ≡ t → cond t (Some (bits v m)) None ≡ Some b → IsValue a b
    by_test v m value mask true e h =
        let same : bits v m ≡ b = cc in
        subst (IsValue a) same (record { value = value; mask = mask; exact = λ other. absurd (both_ways (named a).maskable other e) })
    by_test v m value mask false e h = cc

pub value_read : ReadRanges → (a : NamedField) (text : List ℕ) (b : Bits) → IsNoFragment a → value_of a text ≡ Some b → IsValue a b
value_read r a text b other h = by_cut (split_once slash text) (sym (cut_at_slash a text other) ∙ h)
  where
    by_cut : (o : Option (List ℕ × List ℕ)) → where_found o (masked_value a) (whole_value a text) ≡ Some b → IsValue a b
    by_cut None h = whole_read r a text b h
    by_cut (Some parts) h = masked_read r a parts b h

pub in_port_read : ReadRanges → (text : List ℕ) (b : Bits) → value_of field.InPort text ≡ Some b → (0 < b.value) × (b.value ≤ last_port)
unfolding value_of whole_value masked_value value_in mask_in
in_port_read r text b h = by_cut (split_once slash text) h
  where
    by_cut : (o : Option (List ℕ × List ℕ)) → where_found o (masked_value field.InPort) (whole_value field.InPort text) ≡ Some b → (0 < b.value) × (b.value ≤ last_port)
    by_cut None h =
        let v = mapped (option_and_then nonzero (number_upto last_port text)) _ b h in
        let p = port_read r text v.0 v.1 in
        subst (λ (x : Bits). (0 < x.value) × (x.value ≤ last_port)) v.2 p
    by_cut (Some parts) h = let v = chained (option_and_then nonzero (number_upto last_port parts.0)) _ b h in cc (v.2)
