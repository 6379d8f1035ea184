-- What parts that are kept state of a field together is what the field's name can state.
use Rattle.std.proofs.Common.{◌≡◌, ℕ, ◌<◌, ◌≤◌, ◌⊎◌, inl, inr, Bool, true, false, List, refl, sym, subst, ◌∙◌, arith, bit_and, bit_or, Option, Some, None, eq-eqb, le-leb, lt-ltb}
use Rattle.std.specs.Prelude.{◌||◌, ◌==◌}
use Rattle.std.proofs.lemmas.Bool.{both_ways}
use Rattle.std.proofs.lemmas.Nat.{and_le_r}
use Rattle.spec_base.specs.Bits.{all_bits}
use Rattle.spec_keys.specs.declared.field_id.FieldId.{FieldId}
use Rattle.spec_keys.specs.declared.field_id.FieldId.TheVariants as key
use Rattle.spec_keys.specs.Fields.{place_of, width_of}
use Rattle.spec_keys.specs.Protocols.{ipv4_type, ipv6_type, icmp_protocol, icmp6_protocol}
use Rattle.spec_actions.specs.declared.named_field.NamedField.{NamedField}
use Rattle.spec_actions.specs.declared.named_field.NamedField.TheVariants as field
use Rattle.spec_actions.specs.Named.{named}
use Rattle.spec_flow_text.specs.Numbers.{last_port}
use Rattle.spec_flow_text.specs.declared.part.MatchPrerequisite.{MatchPrerequisite}
use Rattle.spec_flow_text.specs.declared.part.MatchPrerequisite.TheVariants as needs
use Rattle.spec_flow_text.specs.declared.part.TagPart.TheVariants as tag
use Rattle.spec_flow_text.specs.declared.part.Part.{Part}
use Rattle.spec_flow_text.specs.declared.shorthand.Shorthand.{Shorthand}
use Rattle.spec_flow_text.specs.declared.shorthand.Shorthand.TheVariants as short
use Rattle.spec_flow_text.specs.Values.{Bits, bits, most_of, is_met}
use Rattle.spec_flow_text.specs.Printed.{own_name, name_after_arp, name_after_icmp, name_after}
use Rattle.text_laws.specs.SpelledMatches.{is_in_range, can_state, is_stated}
use Rattle.text_laws.proofs.matches.PartsAt.{stated_at, the_value, the_mask, are_off, stated-off}
use Rattle.text_laws.proofs.matches.NamesBack.{fragment_bits}
use Rattle.text_laws.proofs.matches.Services.{whole_or_none, masks}
use Rattle.text_laws.proofs.round_trips.PartsRead.{IsPortNeed, MayNeed, SuitsPort, Suits, IsTagged, IsStatable}
use Rattle.text_laws.proofs.round_trips.Gathered.{AllOf, AreApart, IsWholePart, IsOne, one_or_none, gather, or_within, or_room, IsFragment, more_fragment}
use Rattle.text_laws.proofs.round_trips.KeptNumbers.{IsKept}
use Rattle.text_laws.proofs.round_trips.Needs.{IsSaid, HasOneName, one_name}

-- what parts state of a field together
abbrev pub value_by : FieldId → List Part → ℕ
value_by f ps = stated_at the_value (place_of f) 0 ps

abbrev pub mask_by : FieldId → List Part → ℕ
mask_by f ps = stated_at the_mask (place_of f) 0 ps

abbrev pub IsStated : NamedField → FieldId → List Part → Type 0
IsStated n f ps = is_stated n (bits (value_by f ps) (mask_by f ps)) ≡ true

within_le : (v m : ℕ) → bit_and v m ≡ v → v ≤ m
within_le v m h = omega (arith, and_le_r v m, h)

suits_of : (f : FieldId) (q : Part) → IsStatable q → q.field ≡ f → Suits f q.needs q.value q.mask
suits_of f q s e = subst (λ x. Suits x q.needs q.value q.mask) e s.suits

tag_of : (f : FieldId) (q : Part) → IsStatable q → q.field ≡ f → IsTagged f q.tag
tag_of f q s e = subst (λ x. IsTagged x q.tag) e s.tagged

-- ---- fields that are stated whole

exact_spelled : (f : FieldId) (n : NamedField) (full : ℕ) (t p : Option ℕ) (ps : List Part) → (full == 0) ≡ false → bit_and full full ≡ full → ((q : Part) → IsKept t p q → q.field ≡ f → IsWholePart full q)
    → ((q : Part) → IsKept t p q → q.field ≡ f → is_stated n (bits q.value full) ≡ true) → AllOf (IsKept t p) ps → AreApart ps → IsStated n f ps
exact_spelled f n full t p ps some again whole spell all apart = by_count (one_or_none f full (IsKept t p) ps some again whole all apart)
  where
    by_count : (are_off (place_of f) ps ≡ true) ⊎ ((q : Part) × IsOne f (IsKept t p) ps q) → IsStated n f ps
    by_count (inl off) = rw (stated-off the_value (place_of f) 0 ps off, stated-off the_mask (place_of f) 0 ps off) refl
    by_count (inr one) =
        let o = one.1 in
        let mask = o.mask ∙ (whole one.0 o.fact o.field).0 in
        rw (o.value, mask) (spell one.0 o.fact o.field)

-- the number of a field of 16 bits, or of 8
type_number : (v : ℕ) → bit_and v (all_bits 16) ≡ v → is_stated field.DlType (bits v (all_bits 16)) ≡ true
type_number v within = rw (eq-eqb (bit_and v (all_bits 16)) v within, le-leb v (all_bits 16) (within_le v (all_bits 16) within)) refl

ttl_number : (v : ℕ) → bit_and v (all_bits 8) ≡ v → is_stated field.NwTtl (bits v (all_bits 8)) ≡ true
ttl_number v within = rw (eq-eqb (bit_and v (all_bits 8)) v within, le-leb v (all_bits 8) (within_le v (all_bits 8) within)) refl

protocol_number : (h : Option Shorthand) (v : ℕ) → bit_and v (all_bits 8) ≡ v → is_stated (name_after h key.NwProto) (bits v (all_bits 8)) ≡ true
protocol_number None v within = rw (eq-eqb (bit_and v (all_bits 8)) v within, le-leb v (all_bits 8) (within_le v (all_bits 8) within)) refl
protocol_number (Some short.Arp) v within = rw (eq-eqb (bit_and v (all_bits 8)) v within, le-leb v (all_bits 8) (within_le v (all_bits 8) within)) refl
protocol_number (Some short.Icmp) v within = rw (eq-eqb (bit_and v (all_bits 8)) v within, le-leb v (all_bits 8) (within_le v (all_bits 8) within)) refl
protocol_number (Some short.Icmp6) v within = rw (eq-eqb (bit_and v (all_bits 8)) v within, le-leb v (all_bits 8) (within_le v (all_bits 8) within)) refl
protocol_number (Some s) v within = rw (eq-eqb (bit_and v (all_bits 8)) v within, le-leb v (all_bits 8) (within_le v (all_bits 8) within)) refl

port_number : (v : ℕ) → bit_and v (all_bits 16) ≡ v → 0 < v → v ≤ last_port → is_stated field.InPort (bits v (all_bits 16)) ≡ true
port_number v within some le = rw (eq-eqb (bit_and v (all_bits 16)) v within, lt-ltb 0 v some, le-leb v last_port le) refl

-- types and codes of ICMP
icmp_number : (n : NamedField) (v : ℕ) → (n ≡ field.IcmpType) ⊎ (n ≡ field.IcmpCode) → bit_and v (all_bits 16) ≡ v → v ≤ 255 → is_stated n (bits v (all_bits 16)) ≡ true
icmp_number n v (inl e) within le = subst (λ x. is_stated x (bits v (all_bits 16)) ≡ true) (sym e) (rw (eq-eqb (bit_and v (all_bits 16)) v within, le-leb v 255 le) refl)
icmp_number n v (inr e) within le = subst (λ x. is_stated x (bits v (all_bits 16)) ≡ true) (sym e) (rw (eq-eqb (bit_and v (all_bits 16)) v within, le-leb v 255 le) refl)

-- the mask of a whole part, in what is known of its value
kept_within : (full : ℕ) (q : Part) → IsStatable q → q.mask ≡ full → bit_and q.value full ≡ q.value
kept_within full q s e = subst (λ m. bit_and q.value m ≡ q.value) e s.within

-- ---- fields that may be masked

record IsMaskable (n : NamedField) (w : ℕ) : Type 0 where
  maskable : (named n).maskable ≡ true
  width : (named n).bits ≡ w
  most : most_of n ≡ all_bits w
  can : (b : Bits) → can_state n b ≡ is_in_range n b

masked_stated : (n : NamedField) (w v k : ℕ) → IsMaskable n w → bit_and v k ≡ v → k ≤ all_bits w → is_stated n (bits v k) ≡ true
masked_stated n w v k h within le = rw (eq-eqb (bit_and v k) v within) (by_test (k == 0))
  where
    range : is_in_range n (bits v k) ≡ true
    range =
        let less : v ≤ all_bits w = omega (arith, within_le v k within) in
        rw (h.maskable, h.most, h.width, le-leb v (all_bits w) less, le-leb k (all_bits w) le) refl

    by_test : (t : Bool) → (t || can_state n (bits v k)) ≡ true
    by_test true = refl
    by_test false = h.can (bits v k) ∙ range

abbrev AreMasked : ℕ → ℕ → ℕ → Type 0
AreMasked w v k = (bit_and v k ≡ v) × (k ≤ all_bits w)

masked_spelled : (f : FieldId) (n : NamedField) (w : ℕ) (t p : Option ℕ) (ps : List Part) → IsMaskable n w → ((q : Part) → IsKept t p q → q.field ≡ f → q.mask ≤ all_bits w) → AllOf (IsKept t p) ps → IsStated n f ps
masked_spelled f n w t p ps h room all =
    let step : (v k : ℕ) (q : Part) → IsKept t p q → q.field ≡ f → AreMasked w v k → AreMasked w (bit_or v q.value) (bit_or k q.mask) =
    λ v k q g e r. (or_within v k q.value q.mask r.0 g.0.within, or_room w k q.mask r.1 (room q g e)) in
    let start : AreMasked w 0 0 = (refl, omega arith) in
    let r = gather (AreMasked w) f (IsKept t p) step ps all 0 0 start in
    masked_stated n w (value_by f ps) (mask_by f ps) h r.0 r.1

abbrev IsMaskedField : FieldId → Type 0
IsMaskedField key.InPort = ⊥
IsMaskedField key.DlType = ⊥
IsMaskedField key.NwProto = ⊥
IsMaskedField key.NwTos = ⊥
IsMaskedField key.NwTtl = ⊥
IsMaskedField key.IpFrag = ⊥
IsMaskedField key.TpSrc = ⊥
IsMaskedField key.TpDst = ⊥
IsMaskedField key.VlanTpid = ⊥
IsMaskedField key.VlanTci2 = ⊥
IsMaskedField key.VlanTpid2 = ⊥
IsMaskedField f = Unit {0}

own_masked : (f : FieldId) → IsMaskedField f → IsMaskable (own_name f) (width_of f)
own_masked key.InPort h = absurd h
own_masked key.DlType h = absurd h
own_masked key.NwProto h = absurd h
own_masked key.NwTos h = absurd h
own_masked key.NwTtl h = absurd h
own_masked key.IpFrag h = absurd h
own_masked key.TpSrc h = absurd h
own_masked key.TpDst h = absurd h
own_masked key.VlanTpid h = absurd h
own_masked key.VlanTci2 h = absurd h
own_masked key.VlanTpid2 h = absurd h
own_masked f h = record { maskable = refl; width = refl; most = refl; can = λ b. refl }

arp_masked : (f : FieldId) → IsMaskedField f → IsMaskable (name_after_arp f) (width_of f)
arp_masked key.NwSrc h = record { maskable = refl; width = refl; most = refl; can = λ b. refl }
arp_masked key.NwDst h = record { maskable = refl; width = refl; most = refl; can = λ b. refl }
arp_masked key.NwProto h = absurd h
arp_masked f h = own_masked f h

icmp_masked : (f : FieldId) → IsMaskedField f → IsMaskable (name_after_icmp f) (width_of f)
icmp_masked key.TpSrc h = absurd h
icmp_masked key.TpDst h = absurd h
icmp_masked f h = own_masked f h

masked_name : (s : Option Shorthand) (f : FieldId) → IsMaskedField f → IsMaskable (name_after s f) (width_of f)
masked_name (Some short.Arp) f h = arp_masked f h
masked_name (Some short.Icmp) f h = icmp_masked f h
masked_name (Some short.Icmp6) f h = icmp_masked f h
masked_name s f h = own_masked f h

-- ---- ports

icmp_only : (n : MatchPrerequisite) (v m : ℕ) → IsPortNeed n → is_met n (Some ipv4_type) (Some icmp_protocol) ≡ true → SuitsPort n v m → (m ≡ all_bits 16) × (v ≤ 255)
icmp_only needs.Tcp v m a h s = absurd (both_ways false refl h)
icmp_only needs.Udp v m a h s = absurd (both_ways false refl h)
icmp_only needs.TcpOrUdp v m a h s = absurd (both_ways false refl h)
icmp_only needs.AnyIcmp v m a h s = s
icmp_only needs.Icmp6 v m a h s = s
icmp_only n v m a h s = absurd a

icmp6_only : (n : MatchPrerequisite) (v m : ℕ) → IsPortNeed n → is_met n (Some ipv6_type) (Some icmp6_protocol) ≡ true → SuitsPort n v m → (m ≡ all_bits 16) × (v ≤ 255)
icmp6_only needs.Tcp v m a h s = absurd (both_ways false refl h)
icmp6_only needs.Udp v m a h s = absurd (both_ways false refl h)
icmp6_only needs.TcpOrUdp v m a h s = absurd (both_ways false refl h)
icmp6_only needs.AnyIcmp v m a h s = s
icmp6_only needs.Icmp6 v m a h s = s
icmp6_only n v m a h s = absurd a

port_room : (n : MatchPrerequisite) (v m : ℕ) → IsPortNeed n → SuitsPort n v m → m ≤ all_bits 16
port_room needs.Tcp v m a s = s
port_room needs.Udp v m a s = s
port_room needs.TcpOrUdp v m a s = s
port_room needs.AnyIcmp v m a s = omega (arith, s.0)
port_room needs.Icmp6 v m a s = omega (arith, s.0)
port_room n v m a s = absurd a

-- a field of ports, whose parts need one of its protocols
record IsPort (f : FieldId) : Type 0 where
  suits : (n : MatchPrerequisite) (v m : ℕ) → Suits f n v m → SuitsPort n v m
  needed : (n : MatchPrerequisite) → MayNeed f n → IsPortNeed n
  untagged : (q : Part) → IsTagged f q.tag → q.tag ≡ tag.Neither

source : IsPort key.TpSrc
source = record { suits = λ n v m s. s; needed = λ n a. a; untagged = λ q e. e }

target : IsPort key.TpDst
target = record { suits = λ n v m s. s; needed = λ n a. a; untagged = λ q e. e }

needed_by : (f : FieldId) → IsPort f → (q : Part) → IsStatable q → q.field ≡ f → IsPortNeed q.needs
needed_by f port q s e = port.needed q.needs (subst (λ x. MayNeed x q.needs) e s.needed)

masked_port : (f : FieldId) (n : NamedField) (t p : Option ℕ) (ps : List Part) → IsPort f → IsMaskable n 16 → AllOf (IsKept t p) ps → IsStated n f ps
masked_port f n t p ps port h all =
    masked_spelled f n 16 t p ps h (λ q g e. port_room q.needs q.value q.mask (needed_by f port q g.0 e) (port.suits q.needs q.value q.mask (suits_of f q g.0 e))) all

icmp_port : (f : FieldId) (n : NamedField) (t p : Option ℕ) (ps : List Part) → IsPort f → (n ≡ field.IcmpType) ⊎ (n ≡ field.IcmpCode)
    → ((x : MatchPrerequisite) (v m : ℕ) → IsPortNeed x → is_met x t p ≡ true → SuitsPort x v m → (m ≡ all_bits 16) × (v ≤ 255)) → AllOf (IsKept t p) ps → AreApart ps → IsStated n f ps
icmp_port f n t p ps port name only all apart =
    let known : (q : Part) → IsKept t p q → q.field ≡ f → (q.mask ≡ all_bits 16) × (q.value ≤ 255) =
    λ q g e. only q.needs q.value q.mask (needed_by f port q g.0 e) g.1 (port.suits q.needs q.value q.mask (suits_of f q g.0 e)) in
    exact_spelled f n (all_bits 16) t p ps refl refl (λ q g e. ((known q g e).0, port.untagged q (tag_of f q g.0 e))) (λ q g e. icmp_number n q.value name (kept_within (all_bits 16) q g.0 (known q g e).0) (known q g e).1) all apart

abbrev TheOnly : Option ℕ → Option ℕ → Type 0
TheOnly t p = (x : MatchPrerequisite) (v m : ℕ) → IsPortNeed x → is_met x t p ≡ true → SuitsPort x v m → (m ≡ all_bits 16) × (v ≤ 255)

the_only : (t p u x : Option ℕ) → t ≡ u → p ≡ x → TheOnly u x → TheOnly t p
the_only t p u x e f h = subst (λ a. TheOnly a p) (sym e) (subst (λ b. TheOnly u b) (sym f) h)

source_stated : (s : Option Shorthand) (t p : Option ℕ) (ps : List Part) → IsSaid t p s → AllOf (IsKept t p) ps → AreApart ps → IsStated (name_after s key.TpSrc) key.TpSrc ps
source_stated (Some short.Icmp) t p ps said all apart = icmp_port key.TpSrc field.IcmpType t p ps source (inl refl) (the_only t p (Some ipv4_type) (Some icmp_protocol) said.0 (said.1 refl) icmp_only) all apart
source_stated (Some short.Icmp6) t p ps said all apart = icmp_port key.TpSrc field.IcmpType t p ps source (inl refl) (the_only t p (Some ipv6_type) (Some icmp6_protocol) said.0 (said.1 refl) icmp6_only) all apart
source_stated (Some short.Arp) t p ps said all apart = masked_port key.TpSrc field.TpSrc t p ps source (record { maskable = refl; width = refl; most = refl; can = λ b. refl }) all
source_stated s t p ps said all apart = masked_port key.TpSrc field.TpSrc t p ps source (record { maskable = refl; width = refl; most = refl; can = λ b. refl }) all

target_stated : (s : Option Shorthand) (t p : Option ℕ) (ps : List Part) → IsSaid t p s → AllOf (IsKept t p) ps → AreApart ps → IsStated (name_after s key.TpDst) key.TpDst ps
target_stated (Some short.Icmp) t p ps said all apart = icmp_port key.TpDst field.IcmpCode t p ps target (inr refl) (the_only t p (Some ipv4_type) (Some icmp_protocol) said.0 (said.1 refl) icmp_only) all apart
target_stated (Some short.Icmp6) t p ps said all apart = icmp_port key.TpDst field.IcmpCode t p ps target (inr refl) (the_only t p (Some ipv6_type) (Some icmp6_protocol) said.0 (said.1 refl) icmp6_only) all apart
target_stated (Some short.Arp) t p ps said all apart = masked_port key.TpDst field.TpDst t p ps target (record { maskable = refl; width = refl; most = refl; can = λ b. refl }) all
target_stated s t p ps said all apart = masked_port key.TpDst field.TpDst t p ps target (record { maskable = refl; width = refl; most = refl; can = λ b. refl }) all

-- ---- services and fragments

abbrev IsServiceBits : ℕ → ℕ → Type 0
IsServiceBits v k = (bit_and v k ≡ v) × (whole_or_none k ≡ true)

more_service : (k m : ℕ) → whole_or_none k ≡ true → (m ≡ 252) ⊎ (m ≡ 3) → whole_or_none (bit_or k m) ≡ true
more_service k m h (inl e) = subst (λ x. whole_or_none (bit_or k x) ≡ true) (sym e) (masks (λ j. whole_or_none (bit_or j 252) ≡ true) refl refl refl refl k h)
more_service k m h (inr e) = subst (λ x. whole_or_none (bit_or k x) ≡ true) (sym e) (masks (λ j. whole_or_none (bit_or j 3) ≡ true) refl refl refl refl k h)

service_stated : (t p : Option ℕ) (ps : List Part) → AllOf (IsKept t p) ps → IsStated field.NwTos key.NwTos ps
service_stated t p ps all =
    let step : (v k : ℕ) (q : Part) → IsKept t p q → q.field ≡ key.NwTos → IsServiceBits v k → IsServiceBits (bit_or v q.value) (bit_or k q.mask) =
    λ v k q g e r. (or_within v k q.value q.mask r.0 g.0.within, more_service k q.mask r.1 (suits_of key.NwTos q g.0 e)) in
    let r = gather IsServiceBits key.NwTos (IsKept t p) step ps all 0 0 (refl, refl) in
    rw (eq-eqb (bit_and (value_by key.NwTos ps) (mask_by key.NwTos ps)) (value_by key.NwTos ps) r.0) r.1

fragment_stated : (t p : Option ℕ) (ps : List Part) → AllOf (IsKept t p) ps → IsStated field.IpFrag key.IpFrag ps
fragment_stated t p ps all =
    let step : (v k : ℕ) (q : Part) → IsKept t p q → q.field ≡ key.IpFrag → IsFragment v k → IsFragment (bit_or v q.value) (bit_or k q.mask) =
    λ v k q g e r. more_fragment v k q.value q.mask r (suits_of key.IpFrag q g.0 e) in
    fragment_spelled (value_by key.IpFrag ps) (mask_by key.IpFrag ps) (gather IsFragment key.IpFrag (IsKept t p) step ps all 0 0 (inl (refl, refl)))
  where
    fragment_spelled : (v k : ℕ) → IsFragment v k → is_stated field.IpFrag (bits v k) ≡ true
    fragment_spelled v k (inl none) = rw (none.0, none.1) refl
    fragment_spelled v k (inr some) = fragment_bits (λ (b : Bits). is_stated field.IpFrag b ≡ true) refl refl refl refl refl v k some

-- ---- fields that are never stated

never_stated : (f : FieldId) (n : NamedField) (t p : Option ℕ) (ps : List Part) → ((q : Part) → IsKept t p q → q.field ≡ f → ⊥) → AllOf (IsKept t p) ps → AreApart ps → IsStated n f ps
never_stated f n t p ps never all apart = exact_spelled f n (all_bits 16) t p ps refl refl (λ q g e. absurd (never q g e)) (λ q g e. absurd (never q g e)) all apart

-- ---- all fields

by_own_name : (s : Option Shorthand) (f : FieldId) (ps : List Part) → HasOneName f → IsStated (own_name f) f ps → IsStated (name_after s f) f ps
by_own_name s f ps one h = subst (λ n. IsStated n f ps) (sym (one_name s f one)) h

pub stated_together : (s : Option Shorthand) (t p : Option ℕ) (ps : List Part) → IsSaid t p s → AllOf (IsKept t p) ps → AreApart ps → (f : FieldId) → IsStated (name_after s f) f ps
stated_together s t p ps said all apart key.InPort =
    by_own_name s key.InPort ps tt (
    exact_spelled key.InPort field.InPort (all_bits 16) t p ps refl refl (λ q g e. ((suits_of key.InPort q g.0 e).0, tag_of key.InPort q g.0 e))
    (λ q g e. let k = suits_of key.InPort q g.0 e in port_number q.value (kept_within (all_bits 16) q g.0 k.0) k.1.0 k.1.1) all apart
    )
stated_together s t p ps said all apart key.DlType =
    by_own_name s key.DlType ps tt (
    exact_spelled key.DlType field.DlType (all_bits 16) t p ps refl refl (λ q g e. (suits_of key.DlType q g.0 e, tag_of key.DlType q g.0 e))
    (λ q g e. type_number q.value (kept_within (all_bits 16) q g.0 (suits_of key.DlType q g.0 e))) all apart
    )
stated_together s t p ps said all apart key.NwTtl =
    by_own_name s key.NwTtl ps tt (
    exact_spelled key.NwTtl field.NwTtl (all_bits 8) t p ps refl refl (λ q g e. (suits_of key.NwTtl q g.0 e, tag_of key.NwTtl q g.0 e))
    (λ q g e. ttl_number q.value (kept_within (all_bits 8) q g.0 (suits_of key.NwTtl q g.0 e))) all apart
    )
stated_together s t p ps said all apart key.NwProto =
    exact_spelled key.NwProto (name_after s key.NwProto) (all_bits 8) t p ps refl refl (λ q g e. (suits_of key.NwProto q g.0 e, tag_of key.NwProto q g.0 e))
    (λ q g e. protocol_number s q.value (kept_within (all_bits 8) q g.0 (suits_of key.NwProto q g.0 e))) all apart
stated_together s t p ps said all apart key.NwTos = by_own_name s key.NwTos ps tt (service_stated t p ps all)
stated_together s t p ps said all apart key.IpFrag = by_own_name s key.IpFrag ps tt (fragment_stated t p ps all)
stated_together s t p ps said all apart key.TpSrc = source_stated s t p ps said all apart
stated_together s t p ps said all apart key.TpDst = target_stated s t p ps said all apart
stated_together s t p ps said all apart key.VlanTpid = never_stated key.VlanTpid (name_after s key.VlanTpid) t p ps (λ q g e. suits_of key.VlanTpid q g.0 e) all apart
stated_together s t p ps said all apart key.VlanTci2 = never_stated key.VlanTci2 (name_after s key.VlanTci2) t p ps (λ q g e. suits_of key.VlanTci2 q g.0 e) all apart
stated_together s t p ps said all apart key.VlanTpid2 = never_stated key.VlanTpid2 (name_after s key.VlanTpid2) t p ps (λ q g e. suits_of key.VlanTpid2 q g.0 e) all apart
stated_together s t p ps said all apart f = masked_spelled f (name_after s f) (width_of f) t p ps (masked_name s f tt) (λ q g e. suits_of f q g.0 e) all
