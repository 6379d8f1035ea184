-- What flow actions write into a key: numbers within the widths, and only in fields that an action can write.
use Rattle.std.proofs.Common.{◌≡◌, ℕ, ◌^◌, ◌<◌, ◌≤◌, Bool, true, false, ◌&&◌, ◌||◌, ◌==◌, if◌then◌else◌, List, length, set, get_or, bit_and, bit_xor, ◌⊎◌, inl, inr, refl, sym, ap, ap₂, ◌∙◌, subst, arith, eqb-true, lt_of_le_of_lt, length-set, get_or-set_same, get_or-set_other}
use Rattle.std.specs.Int.Bits.{and_zero_r}
use Rattle.std.proofs.lemmas.Bool.{cond-true, eqb-false, eq-eqb}
use Rattle.std.proofs.lemmas.Nat.{xor_lt, and_le_r}
use Rattle.std.proofs.Math.Nat.{zero-mul, mul-le-mul_right}
use Rattle.spec_keys.specs.declared.field_id.FieldId.{FieldId}
use Rattle.spec_keys.specs.declared.field_id.FieldId.TheVariants as field
use Rattle.spec_keys.specs.Fields.{place_of, width_of, widths, fields}
use Rattle.spec_keys.specs.Keys.{number_at, value_of, IsKey}
use Rattle.spec_actions.specs.declared.named_field.NamedField.{NamedField}
use Rattle.spec_actions.specs.declared.named_field.NamedField.TheVariants as name
use Rattle.spec_actions.specs.declared.named_field.Prerequisite.TheVariants as needs
use Rattle.spec_actions.specs.Named.{named}
use Rattle.spec_xlate.specs.Tags.{VlanTag, is_tag, is_tag_field, outer_tag, inner_tag, no_tag, with_tags, popped, pushed, type_of_written, tagged}
use Rattle.spec_xlate.specs.Needs.{is_ip, is_unfragmented, is_protocol, is_met}
use Rattle.spec_base.specs.Bits.{merged}
use Rattle.spec_xlate.specs.Translation.{with_value, written, in_field, written_bits}
use Rattle.spec_keys.specs.Protocols.{tag_bit, customer_tag, ipv4_type, ipv6_type, arp_type, tcp_protocol, udp_protocol}
use Rattle.table_laws.proofs.CommitLaws.{place_of-lt}
use Rattle.exec_laws.specs.Made.{can_change}

-- ---- fields

-- its width as its place has it
width-place : (f : FieldId) → width_of f ≡ number_at widths (place_of f)
unfolding widths
width-place field.InPort = refl
width-place f = refl

field-there : (f : FieldId) → get_or fields (place_of f) field.InPort ≡ f
field-there field.InPort = refl
field-there f = refl

-- no two fields have one place
same-field : (f g : FieldId) → place_of f ≡ place_of g → f ≡ g
same-field f g e = sym (field-there f) ∙ ap (λ (p : ℕ). get_or fields p field.InPort) e ∙ field-there g

-- ---- what actions can write

-- What is asked of a packet says its type, its protocol and whether it is a fragment; those stay.
record AlikeKinds (a b : List ℕ) : Type 0 where
  type : value_of a field.DlType ≡ value_of b field.DlType
  protocol : value_of a field.NwProto ≡ value_of b field.NwProto
  part : value_of a field.IpFrag ≡ value_of b field.IpFrag

can_change-alike : (a b : List ℕ) → AlikeKinds a b → (f : FieldId) → can_change a f ≡ can_change b f
unfolding is_met
can_change-alike a b h field.InPort = refl
can_change-alike a b h field.NwSrc = ap (λ (x : ℕ). (x == ipv4_type) || (x == arp_type)) h.type
can_change-alike a b h field.NwDst = ap (λ (x : ℕ). (x == ipv4_type) || (x == arp_type)) h.type
can_change-alike a b h field.Ipv6Src = ap (λ (x : ℕ). x == ipv6_type) h.type
can_change-alike a b h field.Ipv6Dst = ap (λ (x : ℕ). x == ipv6_type) h.type
can_change-alike a b h field.NwTos = ap (λ (x : ℕ). (x == ipv4_type) || (x == ipv6_type)) h.type
can_change-alike a b h field.NwTtl = ap (λ (x : ℕ). (x == ipv4_type) || (x == ipv6_type)) h.type
can_change-alike a b h field.ArpSha = ap (λ (x : ℕ). x == arp_type) h.type
can_change-alike a b h field.ArpTha = ap (λ (x : ℕ). x == arp_type) h.type
can_change-alike a b h field.TpSrc = ap₂ (λ (t u : Bool). t && u) (ap (λ (x : ℕ). (x == ipv4_type) || (x == ipv6_type)) h.type) (ap₂ (λ (x y : ℕ). ((x == tcp_protocol) || (x == udp_protocol)) && (y == 0)) h.protocol h.part)
can_change-alike a b h field.TpDst = ap₂ (λ (t u : Bool). t && u) (ap (λ (x : ℕ). (x == ipv4_type) || (x == ipv6_type)) h.type) (ap₂ (λ (x y : ℕ). ((x == tcp_protocol) || (x == udp_protocol)) && (y == 0)) h.protocol h.part)
can_change-alike a b h f = refl

pub or-left : (t u : Bool) → t ≡ true → (t || u) ≡ true
or-left true u e = refl
or-left false u e = absurd cc

pub or-right : (t u : Bool) → u ≡ true → (t || u) ≡ true
or-right true u e = refl
or-right false u e = e

and-true : (q : Bool) → q ≡ true → (q && true) ≡ true
and-true true e = refl
and-true false e = e

either-port : (i p q u : Bool) → (p ≡ true → q ≡ true) → (i && (p && u)) ≡ true → (i && (q && u)) ≡ true
either-port true true q true h e = and-true q (h refl)
either-port false p q u h e = absurd cc
either-port true false q u h e = absurd cc
either-port true true q false h e = absurd cc

-- where a packet is what a write to a named field needs, some action can write the field, or the write changes no bit
can-write : (n : NamedField) (key : List ℕ) → is_met (named n).write_needs key ≡ true → (can_change key (named n).field ≡ true) ⊎ ((named n).writable ≡ 0)
unfolding is_met
can-write name.InPort key e = inr refl
can-write name.DlType key e = inr refl
can-write name.NwSrc key e = inl (or-left (value_of key field.DlType == ipv4_type) (value_of key field.DlType == arp_type) e)
can-write name.NwDst key e = inl (or-left (value_of key field.DlType == ipv4_type) (value_of key field.DlType == arp_type) e)
can-write name.ArpSpa key e = inl (or-right (value_of key field.DlType == ipv4_type) (value_of key field.DlType == arp_type) e)
can-write name.ArpTpa key e = inl (or-right (value_of key field.DlType == ipv4_type) (value_of key field.DlType == arp_type) e)
can-write name.Ipv6Src key e = inl e
can-write name.Ipv6Dst key e = inl e
can-write name.NwProto key e = inr refl
can-write name.ArpOp key e = inr refl
can-write name.NwTos key e = inl e
can-write name.IpDscp key e = inl e
can-write name.NwEcn key e = inl e
can-write name.NwTtl key e = inl e
can-write name.IpFrag key e = inr refl
can-write name.ArpSha key e = inl e
can-write name.ArpTha key e = inl e
can-write name.TpSrc key e = inl e
can-write name.TpDst key e = inl e
can-write name.TcpSrc key e = inl (either-port (is_ip key) (is_protocol tcp_protocol key) _ (is_unfragmented key) (or-left (is_protocol tcp_protocol key) (is_protocol udp_protocol key)) e)
can-write name.TcpDst key e = inl (either-port (is_ip key) (is_protocol tcp_protocol key) _ (is_unfragmented key) (or-left (is_protocol tcp_protocol key) (is_protocol udp_protocol key)) e)
can-write name.UdpSrc key e = inl (either-port (is_ip key) (is_protocol udp_protocol key) _ (is_unfragmented key) (or-right (is_protocol tcp_protocol key) (is_protocol udp_protocol key)) e)
can-write name.UdpDst key e = inl (either-port (is_ip key) (is_protocol udp_protocol key) _ (is_unfragmented key) (or-right (is_protocol tcp_protocol key) (is_protocol udp_protocol key)) e)
can-write name.IcmpType key e = inr refl
can-write name.IcmpCode key e = inr refl
can-write name.Icmpv6Type key e = inr refl
can-write name.Icmpv6Code key e = inr refl
can-write n key e = inl refl

-- the bits that a write may change lie within the field
writable-fits : (n : NamedField) → in_field n (named n).writable < 2 ^ width_of (named n).field
writable-fits name.InPort = omega arith
writable-fits n = omega arith

written_bits-lt : (n : NamedField) (bits : ℕ) → written_bits n bits < 2 ^ width_of (named n).field
written_bits-lt n bits = lt_of_le_of_lt (mul-le-mul_right (2 ^ (named n).low) (and_le_r bits (named n).writable)) (writable-fits n)

written_bits-none : (n : NamedField) (bits : ℕ) → (named n).writable ≡ 0 → written_bits n bits ≡ 0
written_bits-none n bits e = ap (λ (z : ℕ). in_field n z) (ap (bit_and bits) e ∙ and_zero_r bits) ∙ zero-mul (2 ^ (named n).low)

-- ---- keys

-- A key with the packet's numbers where no action can write, and under a premise within the widths: that what is pushed are
-- tags.
pub record Fits (P : Type 0) (packet key : List ℕ) : Type 0 where
  pub is_key : P → IsKey key
  pub others_stay : (f : FieldId) → can_change packet f ≡ false → value_of key f ≡ value_of packet f

pub value-lt : (key : List ℕ) → IsKey key → (f : FieldId) → value_of key f < 2 ^ width_of f
value-lt key is f = subst (λ (w : ℕ). value_of key f < 2 ^ w) (sym (width-place f)) (is.fit (place_of f))

set-is_key : (f : FieldId) (x : ℕ) (key : List ℕ) → x < 2 ^ width_of f → IsKey key → IsKey (set key (place_of f) x)
set-is_key f x key l is = record { fields = length-set key (place_of f) x ∙ is.fields; fit = λ q. at q (q == place_of f) refl }
  where
    at : (q : ℕ) (t : Bool) → (q == place_of f) ≡ t → number_at (set key (place_of f) x) q < 2 ^ number_at widths q
    at q true e =
        let i = eqb-true q (place_of f) e in
        let there : place_of f < length key = subst (λ (n : ℕ). place_of f < n) (sym is.fields) (place_of-lt f) in
        subst (λ (z : ℕ). number_at (set key (place_of f) x) z < 2 ^ number_at widths z) (sym i)
        (subst (λ (z : ℕ). z < 2 ^ number_at widths (place_of f)) (sym (get_or-set_same key (place_of f) x 0 there)) (subst (λ (w : ℕ). x < 2 ^ w) (width-place f) l))
    at q false e = subst (λ (z : ℕ). z < 2 ^ number_at widths q) (sym (get_or-set_other key (place_of f) q x 0 (eqb-false q (place_of f) e))) (is.fit q)

module _ (P : Type 0) where
  pub set-fits : (packet : List ℕ) (f : FieldId) (x : ℕ) (key : List ℕ) → can_change packet f ≡ true → (P → x < 2 ^ width_of f) → Fits P packet key → Fits P packet (set key (place_of f) x)
  set-fits packet f x key can l h = record {
    is_key = λ p. set-is_key f x key (l p) (h.is_key p);
    others_stay = λ g no. get_or-set_other key (place_of f) (place_of g) x 0 (λ e. clash (sym can ∙ ap (can_change packet) (sym (same-field g f e)) ∙ no)) ∙ h.others_stay g no;
  }
    where
      clash : true ≡ false → ⊥
      clash e = cc

  -- tags that are written
  with_tags-fits : (packet : List ℕ) (o i : VlanTag) (key : List ℕ) → (P → o.tci < 65536) → (P → o.tpid < 65536) → (P → i.tci < 65536) → (P → i.tpid < 65536)
      → Fits P packet key → Fits P packet (with_tags o i key)
  with_tags-fits packet o i key a b c d h =
      let one = set-fits packet field.VlanTci o.tci key refl a h in
      let two = set-fits packet field.VlanTpid o.tpid _ refl b one in
      let three = set-fits packet field.VlanTci2 i.tci _ refl c two in
      set-fits packet field.VlanTpid2 i.tpid _ refl d three

  pub popped-fits : (packet : List ℕ) (key : List ℕ) → Fits P packet key → Fits P packet (popped key)
  popped-fits packet key h =
      with_tags-fits packet (inner_tag key) no_tag key (λ p. value-lt key (h.is_key p) field.VlanTci2) (λ p. value-lt key (h.is_key p) field.VlanTpid2)
      (λ p. omega arith) (λ p. omega arith) h

  pub pushed-fits : (packet : List ℕ) (tpid : ℕ) (key : List ℕ) → (P → tpid < 65536) → Fits P packet key → Fits P packet (pushed tpid key)
  pushed-fits packet tpid key l h =
      with_tags-fits packet (record { tpid = tpid; tci = tag_bit }) (outer_tag key) key (λ p. omega arith) l
      (λ p. value-lt key (h.is_key p) field.VlanTci) (λ p. value-lt key (h.is_key p) field.VlanTpid) h

  type_of_written-lt : (tpid : ℕ) → tpid < 65536 → type_of_written tpid < 65536
  type_of_written-lt tpid l = at (tpid == 0)
    where
      at : (t : Bool) → (if t then customer_tag else tpid) < 65536
      at true = omega arith
      at false = l

  pub tagged-fits : (packet : List ℕ) (tci : ℕ) (key : List ℕ) → (P → tci < 65536) → Fits P packet key → Fits P packet (tagged tci key)
  tagged-fits packet tci key l h = at (is_tag tci)
    where
      at : (t : Bool) → Fits P packet (if t then with_tags (record { tpid = type_of_written (outer_tag key).tpid; tci = tci }) (inner_tag key) key else popped key)
      at true =
          with_tags-fits packet (record { tpid = type_of_written (outer_tag key).tpid; tci = tci }) (inner_tag key) key l
          (λ p. type_of_written-lt (outer_tag key).tpid (value-lt key (h.is_key p) field.VlanTpid))
          (λ p. value-lt key (h.is_key p) field.VlanTci2) (λ p. value-lt key (h.is_key p) field.VlanTpid2) h
      at false = popped-fits packet key h

  merged-lt : (width number value mask : ℕ) → number < 2 ^ width → mask < 2 ^ width → merged number value mask < 2 ^ width
  merged-lt width number value mask l m = xor_lt width number (bit_and (bit_xor number value) mask) l (lt_of_le_of_lt (and_le_r (bit_xor number value) mask) m)

  pub written-fits : (packet : List ℕ) (f : FieldId) (v m : ℕ) (key : List ℕ) → can_change packet f ≡ true → m < 2 ^ width_of f → Fits P packet key → Fits P packet (written f v m key)
  written-fits packet f v m key can l h = at (m == 0) (is_tag_field f) refl
    where
      number : ℕ
      number = merged (value_of key f) v m

      small : P → number < 2 ^ width_of f
      small p = merged-lt (width_of f) (value_of key f) v m (value-lt key (h.is_key p) f) l

      width : (g : FieldId) → is_tag_field g ≡ true → number < 2 ^ width_of g → number < 65536
      width field.VlanTci e s = s
      width g e s = absurd cc

      at : (z u : Bool) → is_tag_field f ≡ u → Fits P packet (if z then key else (if u then tagged number key else set key (place_of f) number))
      at true u e = h
      at false true e = tagged-fits packet number key (λ p. width f e (small p)) h
      at false false e = set-fits packet f number key can small h

  -- a write to a named field
  pub write-fits : (packet : List ℕ) (n : NamedField) (v bits : ℕ) (key : List ℕ) → is_met (named n).write_needs key ≡ true → Fits P packet key
      → Fits P packet (written (named n).field (in_field n v) (written_bits n bits) key)
  write-fits packet n v bits key met h = at (can-write n key met)
    where
      alike : AlikeKinds key packet
      alike = record { type = h.others_stay field.DlType refl; protocol = h.others_stay field.NwProto refl; part = h.others_stay field.IpFrag refl }

      at : (can_change key (named n).field ≡ true) ⊎ ((named n).writable ≡ 0) → Fits P packet (written (named n).field (in_field n v) (written_bits n bits) key)
      at (inl e) = written-fits packet (named n).field (in_field n v) (written_bits n bits) key (sym (can_change-alike key packet alike (named n).field) ∙ e) (written_bits-lt n bits) h
      at (inr e) =
          let none = cond-true (written_bits n bits == 0) key (with_value (named n).field (merged (value_of key (named n).field) (in_field n v) (written_bits n bits)) key) (eq-eqb (written_bits n bits) 0 (written_bits-none n bits e)) in
          subst (Fits P packet) (sym none) h

  -- the TTL lowered
  pub ttl-fits : (packet : List ℕ) (key : List ℕ) (x : ℕ) → is_met needs.Ip key ≡ true → x ≤ value_of key field.NwTtl → Fits P packet key
      → Fits P packet (set key (place_of field.NwTtl) x)
  unfolding is_met
  ttl-fits packet key x met le h =
      set-fits packet field.NwTtl x key (sym (ap (λ (y : ℕ). (y == ipv4_type) || (y == ipv6_type)) (h.others_stay field.DlType refl)) ∙ met)
      (λ p. lt_of_le_of_lt le (value-lt key (h.is_key p) field.NwTtl)) h
