-- Each action keeps two translations alike, where the first keys agree on what it consults.
use Rattle.std.proofs.Common.{◌≡◌, ℕ, ◌+◌, ◌-◌, ◌*◌, ◌/◌, ◌^◌, Bool, true, false, ◌&&◌, ◌||◌, ◌==◌, nat_le, if◌then◌else◌, List, [], ◌∷◌, ◌++◌, map, set, bit_and, ◌⊎◌, inl, inr, refl, sym, ap, ap₂, ◌∙◌, subst, eqb-true, eq-eqb, zero-mul}
use Rattle.std.specs.List.{list_any}
use Rattle.spec_keys.specs.declared.field_id.FieldId.{FieldId}
use Rattle.spec_keys.specs.declared.field_id.FieldId.TheVariants as field
use Rattle.spec_keys.specs.Fields.{place_of}
use Rattle.spec_keys.specs.Keys.{number_at, value_of, masked, only_at, IsKey}
use Rattle.spec_actions.specs.declared.named_field.NamedField.{NamedField}
use Rattle.spec_actions.specs.declared.named_field.NamedField.TheVariants as name
use Rattle.spec_actions.specs.declared.named_field.Prerequisite.{Prerequisite}
use Rattle.spec_actions.specs.declared.named_field.Prerequisite.TheVariants.{Nothing, Ipv4, Ipv6, Ip, Arp, Tcp, Udp, TcpOrUdp, Icmp, Icmp6, Tag}
use Rattle.spec_actions.specs.declared.action.Slice.{Slice}
use Rattle.spec_actions.specs.declared.action.OfAction.{OfAction}
use Rattle.spec_actions.specs.declared.action.OfAction.TheVariants.{Output, OutputField, InPort, All, Flood, Resubmit, Goto, Set, Move, DecTtl, PushVlan, PopVlan, SetVid, SetPcp}
use Rattle.spec_actions.specs.Named.{named}
use Rattle.spec_keys.specs.Protocols.{tag_bit}
use Rattle.spec_xlate.specs.Tags.{VlanTag, tag_fields, is_tag, is_tag_field, outer_tag, inner_tag, no_tag, with_tags, popped, pushed, type_of_written, tagged, is_full}
use Rattle.spec_keys.specs.Protocols.{ipv4_type, ipv6_type, arp_type, icmp_protocol, tcp_protocol, udp_protocol, icmp6_protocol}
use Rattle.spec_xlate.specs.Needs.{is_met, fields_needed}
use Rattle.spec_base.specs.Bits.{merged}
use Rattle.spec_xlate.specs.Translation.{Switch, State, Mode, in_field, slice_bits, slice_of, written, written_bits, write, vid_bits, pcp_bits, pcp_unit, write_tag, lower_ttl, act}
use Rattle.spec_xlate.specs.Lookup.{when}
use Rattle.spec_xlate.specs.Consulted.{whole, bits_written, slice_read, under, write_bits, act_bits}
use Rattle.table_laws.proofs.KeyLaws.{SameBits, and_zero, only_at-same, SameBits-append}
use Rattle.table_laws.proofs.KeysAlike.{KeysAlike, is_tag_place, and-alike, set-alike, merged-alike}
use Rattle.table_laws.proofs.StatesAlike.{Alike, whole-same, if-alike, mode-alike, current-alike, current-same, output-alike, output_back-alike, output_all-alike}

-- A write of these bits changes nothing of the field, or the field is written as those of tags are exactly where it is one of them.
abbrev pub IsWritable : FieldId → ℕ → Type 0
IsWritable f m = (m ≡ 0) ⊎ (is_tag_field f ≡ is_tag_place (place_of f))

unwritten : (n : NamedField) (bits : ℕ) → (named n).writable ≡ 0 → written_bits n bits ≡ 0
unwritten n bits none = ap (λ (w : ℕ). in_field n (bit_and bits w)) none ∙ (ap (in_field n) (and_zero bits) ∙ zero-mul (2 ^ (named n).low))

pub writable : (n : NamedField) (bits : ℕ) → IsWritable (named n).field (written_bits n bits)
writable name.VlanTpid bits = inl (unwritten name.VlanTpid bits refl)
writable name.VlanTci2 bits = inl (unwritten name.VlanTci2 bits refl)
writable name.VlanTpid2 bits = inl (unwritten name.VlanTpid2 bits refl)
writable n bits = inr refl

-- the first keys have the same tags
abbrev pub TagsSame : List ℕ → List ℕ → Type 0
TagsSame a b = (q : ℕ) → is_tag_place q ≡ true → number_at a q ≡ number_at b q

module _ (a b : List ℕ) (ka : IsKey a) (kb : IsKey b) where
  same : (f : FieldId) → masked a (whole f) ≡ masked b (whole f) → value_of a f ≡ value_of b f
  same = whole-same a b ka kb

  fields-same : (fs : List FieldId) → SameBits a b (map whole fs) → (q : ℕ) → list_any (λ f. q == place_of f) fs ≡ true
      → number_at a q ≡ number_at b q
  fields-same [] s q h = absurd (cc)
  fields-same (f ∷ fs) s q h = at (q == place_of f) refl h (fields-same fs s.1 q)
    where
      at : (t : Bool) → (q == place_of f) ≡ t → (t || list_any (λ g. q == place_of g) fs) ≡ true
          → (list_any (λ g. q == place_of g) fs ≡ true → number_at a q ≡ number_at b q) → number_at a q ≡ number_at b q
      at true e h ih = let i = eqb-true q (place_of f) e in ap (number_at a) i ∙ same f s.0 ∙ sym (ap (number_at b) i)
      at false e h ih = ih h

  tags-same : SameBits a b (map whole tag_fields) → TagsSame a b
  tags-same s q h = fields-same tag_fields s q h

  -- ---- prerequisites

  value-same : (s t : State) → Alike a b s t → (f : FieldId) → masked a (whole f) ≡ masked b (whole f)
      → value_of t.current f ≡ value_of s.current f
  value-same s t h f e = current-same a b s t h (place_of f) (same f e)

  -- with a test of the protocol of an IP packet that is no fragment
  transport-alike : (test : ℕ → Bool) (s t : State) → Alike a b s t
      → SameBits a b (whole field.DlType ∷ whole field.NwProto ∷ whole field.IpFrag ∷ [])
      → (((value_of t.current field.DlType == ipv4_type) || (value_of t.current field.DlType == ipv6_type)) && (test (value_of t.current field.NwProto) && (value_of t.current field.IpFrag == 0)))
      ≡ (((value_of s.current field.DlType == ipv4_type) || (value_of s.current field.DlType == ipv6_type)) && (test (value_of s.current field.NwProto) && (value_of s.current field.IpFrag == 0)))
  transport-alike test s t h e =
      ap₂ (λ (x : ℕ) (y : Bool). ((x == ipv4_type) || (x == ipv6_type)) && y) (value-same s t h field.DlType e.0)
      (ap₂ (λ (y z : ℕ). test y && (z == 0)) (value-same s t h field.NwProto e.1.0) (value-same s t h field.IpFrag e.1.1.0))

  is_met-alike : (need : Prerequisite) (s t : State) → Alike a b s t → SameBits a b (map whole (fields_needed need))
      → is_met need t.current ≡ is_met need s.current
  unfolding is_met fields_needed
  is_met-alike Nothing s t h e = refl
  is_met-alike Ipv4 s t h e = ap (λ (z : ℕ). z == ipv4_type) (value-same s t h field.DlType e.0)
  is_met-alike Ipv6 s t h e = ap (λ (z : ℕ). z == ipv6_type) (value-same s t h field.DlType e.0)
  is_met-alike Ip s t h e = ap (λ (z : ℕ). (z == ipv4_type) || (z == ipv6_type)) (value-same s t h field.DlType e.0)
  is_met-alike Arp s t h e = ap (λ (z : ℕ). z == arp_type) (value-same s t h field.DlType e.0)
  is_met-alike Tcp s t h e = transport-alike (λ p. p == tcp_protocol) s t h e
  is_met-alike Udp s t h e = transport-alike (λ p. p == udp_protocol) s t h e
  is_met-alike TcpOrUdp s t h e = transport-alike (λ p. (p == tcp_protocol) || (p == udp_protocol)) s t h e
  is_met-alike Icmp s t h e = ap₂ (λ (x y : ℕ). (x == ipv4_type) && (y == icmp_protocol)) (value-same s t h field.DlType e.0) (value-same s t h field.NwProto e.1.0)
  is_met-alike Icmp6 s t h e = ap₂ (λ (x y : ℕ). (x == ipv6_type) && (y == icmp6_protocol)) (value-same s t h field.DlType e.0) (value-same s t h field.NwProto e.1.0)
  is_met-alike Tag s t h e = ap is_tag (value-same s t h field.VlanTci e.0)

  when-true : (t : Bool) (ms : List (List ℕ)) → t ≡ true → SameBits a b (when t ms) → SameBits a b ms
  when-true true ms e h = h
  when-true false ms e h = absurd (cc)

  -- an action under a prerequisite: what is under it, where it is met, and the same fields and bits
  under-alike : (need : Prerequisite) (ms : List (List ℕ)) (s t s' t' : State) → Alike a b s t
      → SameBits a b (under need s.current ms) → (SameBits a b ms → Alike a b s' t')
      → Alike a b (if is_met need s.current then s' else s) (if is_met need t.current then t' else t) × (under need t.current ms ≡ under need s.current ms)
  under-alike need ms s t s' t' h e then_ =
      let parts = SameBits-append a b (map whole (fields_needed need)) (when (is_met need s.current) ms) e in
      let met = is_met-alike need s t h parts.0 in (
        if-alike a b (is_met need s.current) (is_met need t.current) s' t' s t met (λ m. then_ (when-true _ ms m parts.1)) (λ _. h),
        ap (λ (m : Bool). map whole (fields_needed need) ++ when m ms) met,
      )

  -- ---- reads

  slice_of-alike : (slice : Slice) (s t : State) → Alike a b s t → SameBits a b (slice_read slice)
      → slice_of t.current slice ≡ slice_of s.current slice
  slice_of-alike slice s t h e = ap (λ (z : ℕ). z / in_field slice.name (2 ^ slice.low)) (at (bits == 0) refl (is_tag_field f) e)
    where
      f : FieldId
      f = (named slice.name).field

      bits : ℕ
      bits = in_field slice.name (slice_bits slice)

      none : (x : ℕ) → (bits == 0) ≡ true → bit_and x bits ≡ 0
      none x z = ap (bit_and x) (eqb-true _ _ z) ∙ and_zero x

      at : (z : Bool) → (bits == 0) ≡ z → (u : Bool)
          → SameBits a b (if z then [] else (if u then whole f else only_at (place_of f) bits) ∷ [])
          → bit_and (value_of t.current f) bits ≡ bit_and (value_of s.current f) bits
      at true z u e = none _ z ∙ sym (none _ z)
      at false z true e = ap (λ (x : ℕ). bit_and x bits) (value-same s t h f e.0)
      at false z false e = sym (and-alike a b s.current s.base t.current t.base h.keys (place_of f) bits (only_at-same a b (place_of f) bits e.0))

  -- ---- writes

  -- the tags of the current keys, where the first keys have the same
  outer-same : (s t : State) → Alike a b s t → TagsSame a b → outer_tag t.current ≡ outer_tag s.current
  outer-same s t h all =
      ap₂ (λ (p c : ℕ). record { tpid = p; tci = c }) (current-same a b s t h (place_of field.VlanTpid) (all (place_of field.VlanTpid) refl))
      (current-same a b s t h (place_of field.VlanTci) (all (place_of field.VlanTci) refl))

  inner-same : (s t : State) → Alike a b s t → TagsSame a b → inner_tag t.current ≡ inner_tag s.current
  inner-same s t h all =
      ap₂ (λ (p c : ℕ). record { tpid = p; tci = c }) (current-same a b s t h (place_of field.VlanTpid2) (all (place_of field.VlanTpid2) refl))
      (current-same a b s t h (place_of field.VlanTci2) (all (place_of field.VlanTci2) refl))

  -- the same tags are written
  with_same_tags-alike : (o i : VlanTag) (s t : State) → Alike a b s t → TagsSame a b
      → KeysAlike a b (with_tags o i s.current) s.base (with_tags o i t.current) t.base
  with_same_tags-alike o i s t h all =
      let place : FieldId → ℕ = place_of in
      let k1 = set-alike a b s.current s.base t.current t.base h.keys (place field.VlanTci) o.tci o.tci refl (all (place field.VlanTci) refl) (λ _. all) in
      let k2 = set-alike a b _ s.base _ t.base k1 (place field.VlanTpid) o.tpid o.tpid refl (all (place field.VlanTpid) refl) (λ _. all) in
      let k3 = set-alike a b _ s.base _ t.base k2 (place field.VlanTci2) i.tci i.tci refl (all (place field.VlanTci2) refl) (λ _. all) in
      set-alike a b _ s.base _ t.base k3 (place field.VlanTpid2) i.tpid i.tpid refl (all (place field.VlanTpid2) refl) (λ _. all)

  with_tags-alike : (o o' i i' : VlanTag) (s t : State) → o' ≡ o → i' ≡ i → Alike a b s t → TagsSame a b
      → KeysAlike a b (with_tags o i s.current) s.base (with_tags o' i' t.current) t.base
  with_tags-alike o o' i i' s t e f h all =
      subst (λ (x : VlanTag). KeysAlike a b (with_tags o i s.current) s.base (with_tags x i' t.current) t.base) (sym e)
      (subst (λ (x : VlanTag). KeysAlike a b (with_tags o i s.current) s.base (with_tags o x t.current) t.base) (sym f) (with_same_tags-alike o i s t h all))

  popped-alike : (s t : State) → Alike a b s t → TagsSame a b → KeysAlike a b (popped s.current) s.base (popped t.current) t.base
  popped-alike s t h all = with_tags-alike _ _ _ _ s t (inner-same s t h all) refl h all

  pushed-alike : (tpid : ℕ) (s t : State) → Alike a b s t → TagsSame a b → KeysAlike a b (pushed tpid s.current) s.base (pushed tpid t.current) t.base
  pushed-alike tpid s t h all = with_tags-alike _ _ _ _ s t refl (outer-same s t h all) h all

  tagged-alike : (x x' : ℕ) (s t : State) → x' ≡ x → Alike a b s t → TagsSame a b
      → KeysAlike a b (tagged x s.current) s.base (tagged x' t.current) t.base
  tagged-alike x x' s t e h all =
      subst (λ (z : ℕ). KeysAlike a b (tagged x s.current) s.base (tagged z t.current) t.base) (sym e) (at (is_tag x))
    where
      at : (u : Bool) → KeysAlike a b
          (if u then with_tags (record { tpid = type_of_written (outer_tag s.current).tpid; tci = x }) (inner_tag s.current) s.current else popped s.current) s.base
          (if u then with_tags (record { tpid = type_of_written (outer_tag t.current).tpid; tci = x }) (inner_tag t.current) t.current else popped t.current) t.base
      at true =
          with_tags-alike _ _ _ _ s t (ap (λ (o : VlanTag). record { tpid = type_of_written o.tpid; tci = x }) (outer-same s t h all)) (inner-same s t h all) h all
      at false = popped-alike s t h all

  written-alike : (f : FieldId) (v v' m : ℕ) (s t : State) → IsWritable f m → v' ≡ v → Alike a b s t → SameBits a b (bits_written f m)
      → KeysAlike a b (written f v m s.current) s.base (written f v' m t.current) t.base
  written-alike f v v' m s t ok e h w = at (m == 0) refl (is_tag_field f) refl ok w
    where
      at : (z : Bool) → (m == 0) ≡ z → (u : Bool) → is_tag_field f ≡ u → IsWritable f m
          → SameBits a b (if z then [] else (if u then map whole tag_fields else only_at (place_of f) m ∷ []))
          → KeysAlike a b
          (if z then s.current else (if u then tagged (merged (value_of s.current f) v m) s.current else set s.current (place_of f) (merged (value_of s.current f) v m)))
          s.base
          (if z then t.current else (if u then tagged (merged (value_of t.current f) v' m) t.current else set t.current (place_of f) (merged (value_of t.current f) v' m)))
          t.base
      at true z u i ok w = h.keys
      at false z u i (inl none) w = absurd (let n : false ≡ true = sym z ∙ eq-eqb m 0 none in cc)
      at false z true i (inr place) w =
          let all = tags-same w in
          let x = current-same a b s t h (place_of f) (all (place_of f) (sym place ∙ i)) in
          tagged-alike _ _ s t (ap₂ (λ (y z : ℕ). merged y z m) x e) h all
      at false z false i (inr place) w =
          subst (λ (z : ℕ). KeysAlike a b (set s.current (place_of f) (merged (value_of s.current f) v m)) s.base (set t.current (place_of f) (merged (value_of t.current f) z m)) t.base) (sym e)
          (merged-alike a b s.current s.base t.current t.base h.keys (place_of f) v m (sym place ∙ i) (only_at-same a b (place_of f) m w.0))

  write-alike : (name : NamedField) (v v' bits : ℕ) (from : List (List ℕ)) (s t : State) → (SameBits a b from → v' ≡ v)
      → Alike a b s t → SameBits a b (write_bits name bits from s.current)
      → Alike a b (write name v bits s) (write name v' bits t) × (write_bits name bits from t.current ≡ write_bits name bits from s.current)
  unfolding write
  write-alike name v v' bits from s t e h w =
      under-alike (named name).write_needs (from ++ bits_written (named name).field (written_bits name bits)) s t _ _ h w
      (λ all.
      let parts = SameBits-append a b from (bits_written (named name).field (written_bits name bits)) all in
      current-alike a b s t _ _ h (written-alike (named name).field (in_field name v) (in_field name v') (written_bits name bits) s t (writable name bits) (ap (in_field name) (e parts.0)) h parts.1))

  -- the tags are written as a whole
  write_tag-alike : (v bits : ℕ) (s t : State) → Alike a b s t → SameBits a b (map whole tag_fields)
      → Alike a b (write_tag v bits s) (write_tag v bits t)
  write_tag-alike v bits s t h e = current-alike a b s t _ _ h (at (bits + tag_bit == 0))
    where
      at : (z : Bool) → KeysAlike a b
          (if z then s.current else tagged (merged (value_of s.current field.VlanTci) (v + tag_bit) (bits + tag_bit)) s.current) s.base
          (if z then t.current else tagged (merged (value_of t.current field.VlanTci) (v + tag_bit) (bits + tag_bit)) t.current) t.base
      at true = h.keys
      at false = let all = tags-same e in tagged-alike _ _ s t (ap (λ (y : ℕ). merged y (v + tag_bit) (bits + tag_bit)) (current-same a b s t h (place_of field.VlanTci) (all (place_of field.VlanTci) refl))) h all

  lower_ttl-alike : (s t : State) → Alike a b s t → SameBits a b (whole field.NwTtl ∷ []) → Alike a b (lower_ttl s) (lower_ttl t)
  lower_ttl-alike s t h e =
      let first = same field.NwTtl e.0 in
      let x = value-same s t h field.NwTtl e.0 in
      if-alike a b (nat_le (value_of s.current field.NwTtl) 1) (nat_le (value_of t.current field.NwTtl) 1) _ _ _ _ (ap (λ (z : ℕ). nat_le z 1) x)
      (λ _. mode-alike a b Mode.ListEnded s t h)
      (λ _. current-alike a b s t _ _ h (set-alike a b s.current s.base t.current t.base h.keys (place_of field.NwTtl) _ _ (ap (λ (z : ℕ). z - 1) x) first (λ i. absurd (no i))))
    where
      no : is_tag_place (place_of field.NwTtl) ≡ true → ⊥
      no i = let e : false ≡ true = i in cc

  -- ---- one action

  -- A lookup, and what it consults, keeps translations alike.
  unfoldable pub LookKeeps : (ℕ → State → State) → (ℕ → State → List (List ℕ)) → Type 0
  LookKeeps sub bits = (table : ℕ) (s t : State) → Alike a b s t → SameBits a b (bits table s) → Alike a b (sub table s) (sub table t) × (bits table t ≡ bits table s)

  module _ (port : value_of a field.InPort ≡ value_of b field.InPort) where
    pub act-alike : (sw : Switch) (sub : ℕ → State → State) (bits : ℕ → State → List (List ℕ)) → LookKeeps sub bits
        → (action : OfAction) (s t : State) → Alike a b s t → SameBits a b (act_bits bits action s)
        → Alike a b (act sw sub action s) (act sw sub action t) × (act_bits bits action t ≡ act_bits bits action s)
    unfolding act act_bits LookKeeps
    act-alike sw sub bits keeps (Output n) s t h e = (output-alike a b port sw n n s t refl h, refl)
    act-alike sw sub bits keeps (OutputField slice) s t h e = (output-alike a b port sw (slice_of s.current slice) (slice_of t.current slice) s t (slice_of-alike slice s t h e) h, refl)
    act-alike sw sub bits keeps InPort s t h e = (output_back-alike a b port s t h, refl)
    act-alike sw sub bits keeps All s t h e = (output_all-alike a b port sw s t h, refl)
    act-alike sw sub bits keeps Flood s t h e = (output_all-alike a b port sw s t h, refl)
    act-alike sw sub bits keeps (Resubmit table) s t h e = keeps table s t h e
    act-alike sw sub bits keeps (Goto table) s t h e = keeps table s t h e
    act-alike sw sub bits keeps (Set name value mask) s t h e = write-alike name value value mask [] s t (λ _. refl) h e
    act-alike sw sub bits keeps (Move source target) s t h e =
        write-alike target.name (slice_of s.current source * 2 ^ target.low) (slice_of t.current source * 2 ^ target.low) (slice_bits target) (slice_read source) s t
        (λ from. ap (λ (z : ℕ). z * 2 ^ target.low) (slice_of-alike source s t h from)) h e
    act-alike sw sub bits keeps DecTtl s t h e = under-alike Ip (whole field.NwTtl ∷ []) s t _ _ h e (λ w. lower_ttl-alike s t h w)
    act-alike sw sub bits keeps (PushVlan tpid) s t h e =
        let all = tags-same e in (
          if-alike a b (is_full s.current) (is_full t.current) _ _ _ _ (ap (λ (i : VlanTag). is_tag i.tci) (inner-same s t h all))
              (λ _. mode-alike a b Mode.Stopped s t h)
              (λ _. current-alike a b s t _ _ h (pushed-alike tpid s t h all)),
          refl,
        )
    act-alike sw sub bits keeps PopVlan s t h e = (current-alike a b s t _ _ h (popped-alike s t h (tags-same e)), refl)
    act-alike sw sub bits keeps (SetVid vid) s t h e = (write_tag-alike vid vid_bits s t h e, refl)
    act-alike sw sub bits keeps (SetPcp pcp) s t h e = (write_tag-alike (pcp * pcp_unit) pcp_bits s t h e, refl)
