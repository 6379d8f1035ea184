-- Two translations side by side, of packets that agree on a mask: they carry out the same flow actions.
use Rattle.std.proofs.Common.{◌≡◌, ◌≢◌, ℕ, zero, suc, ◌+◌, ◌-◌, ◌*◌, ◌/◌, ◌^◌, ◌<◌, ◌≤◌, Bool, true, false, ◌&&◌, ◌||◌, not, ◌==◌, nat_le, if◌then◌else◌, List, [], ◌∷◌, ◌++◌, length, set, filter, fold, bit_and, Option, Some, None, ◌⊎◌, inl, inr, refl, sym, ap, ap₂, ◌∙◌, subst, arith, eq-eqb, eqb-true, leb-true}
use Rattle.std.specs.List.{list_any}
use Rattle.std.proofs.lemmas.Bool.{and_parts}
use Rattle.std.proofs.lemmas.Nat.{and_comm, and_assoc}
use Rattle.spec_keys.specs.declared.field_id.FieldId.{FieldId}
use Rattle.spec_keys.specs.declared.field_id.FieldId.TheVariants as field
use Rattle.spec_keys.specs.Fields.{place_of, field_count}
use Rattle.spec_keys.specs.Keys.{none as no_bits, number_at, value_of, masked, covers, only_at, IsKey}
use Rattle.spec_keys.specs.Protocols.{tag_bit, ipv4_type, ipv6_type, arp_type, icmp_protocol, tcp_protocol, udp_protocol, icmp6_protocol}
use Rattle.spec_actions.specs.declared.named_field.NamedField.{NamedField}
use Rattle.spec_actions.specs.declared.named_field.Prerequisite.{Prerequisite}
use Rattle.spec_actions.specs.declared.named_field.Prerequisite.TheVariants.{Nothing, Ipv4, Ipv6, Ip, Arp, Tcp, Udp, TcpOrUdp, Icmp, Icmp6, Tag}
use Rattle.spec_actions.specs.declared.action.Slice.{Slice}
use Rattle.spec_actions.specs.declared.action.OfAction.{OfAction}
use Rattle.spec_actions.specs.declared.action.OfAction.TheVariants.{Output, OutputField, InPort, All, Flood, Resubmit, Goto, Set, Move, DecTtl, PushVlan, PopVlan, SetVid, SetPcp}
use Rattle.spec_actions.specs.declared.action.DpAction.{DpAction}
use Rattle.spec_actions.specs.Named.{named}
use Rattle.spec_tables.specs.Rules.{Rule, winner}
use Rattle.spec_xlate.specs.Tags.{is_tag, is_full, is_tag_field, pushed}
use Rattle.spec_xlate.specs.Needs.{is_met, fields_needed}
use Rattle.spec_xlate.specs.Translation.{Switch, State, Mode, switch_of, deepest, lookup_limit, action_limit, kept as kept_actions, stopped, with_current, written, written_bits, in_port_of, is_other_port, other_ports, rising, in_field, slice_bits, slice_of, write, act, in_mode, run, mode_after, resumed, visited, follow, with_lookups_left, enter, look, start, last_state, translation_of, pipe}
use Rattle.spec_xlate.specs.Translation.Mode.{Going, ListEnded, Stopped}
use Rattle.spec_xlate.specs.Lookup.{added, union}
use Rattle.spec_xlate.specs.Consulted.{whole, slice_read}
use Rattle.table_laws.proofs.KeyLaws.{SameBits, and_zero, agree-masked, agree_from-masked, length_from-masked, places_from-masked, only_at-same}
use Rattle.table_laws.proofs.UnionLaws.{SameBits_from-union, agree-covers}
use Rattle.table_laws.proofs.StatesAlike.{whole-same}
use Rattle.table_laws.proofs.CommitLaws.{place_of-lt}
use Rattle.pipe_model.specs.Events.{Event, act_events, in_mode_events, run_events, follow_events, enter_events, look_events, events_of}
use Rattle.pipe_model.specs.Events.Event.{Looked}
use Rattle.table_laws.specs.Members.{Among}
use Rattle.xlate_pipeline.specs.Steps.{step_bits}
use Rattle.rule_changes.proofs.KeptLaws.{number_at-none}
use Rattle.rule_changes.proofs.LockstepLaws.{beside, act-beside, act-left, act-kept}
use Rattle.spec_tools.specs.Classes.{done, done_by, leads, no_lookup}
use Rattle.table_diff.specs.Sending.{ports_in, is_frame_field, number_after}
use Rattle.table_diff.specs.Ways.{IsFollowed, number_sent}
use Rattle.table_diff.specs.Deciding.{tells_winner}
use Rattle.table_diff.specs.Following.{Path, is_own, are_own, is_known_write, writes, forgotten, is_known, known_after, high_bits, is_ttl_told, are_known, is_slice_known, is_decided, sends, used_after, dirty_after, is_left_out, has_room, with_action, followed, sent_bits}
use Rattle.table_diff.proofs.EmitLaws.{is_output, one_port, ports_of}
use Rattle.table_diff.proofs.KnownLaws.{AreSame, forgotten-zero, forgotten-known, untouched-stays, set-known}
use Rattle.table_diff.proofs.TellLaws.{told-winner}
use Rattle.table_diff.proofs.SendLaws.{few-ports, output-emits}
use Rattle.table_diff.proofs.PlainLaws.{fine-back}

-- ---- one more action of a straight list

run-snoc : (sw : Switch) (sub : ℕ → State → State) (xs : List OfAction) (x : OfAction) (s : State) → s.mode ≡ Going → (run sw sub xs s).mode ≡ Going
    → run sw sub (xs ++ x ∷ []) s ≡ act sw sub x (run sw sub xs s)
unfolding run
run-snoc sw sub [] x s begun going = alone (act sw sub x s).mode (act sw sub x s)
  where
    alone : (m : Mode) (u : State) → in_mode m (run sw sub []) u ≡ u
    alone Going u = refl
    alone ListEnded u = refl
    alone Stopped u = refl
run-snoc sw sub (y ∷ xs) x s begun going = at (act sw sub y s).mode refl (run-snoc sw sub xs x (act sw sub y s)) going
  where
    at : (m : Mode) → (act sw sub y s).mode ≡ m
        → ((act sw sub y s).mode ≡ Going → (run sw sub xs (act sw sub y s)).mode ≡ Going
        → run sw sub (xs ++ x ∷ []) (act sw sub y s) ≡ act sw sub x (run sw sub xs (act sw sub y s)))
        → (in_mode m (run sw sub xs) (act sw sub y s)).mode ≡ Going
        → in_mode m (run sw sub (xs ++ x ∷ [])) (act sw sub y s) ≡ act sw sub x (in_mode m (run sw sub xs) (act sw sub y s))
    at Going e ih h = ih e h
    at ListEnded e ih h = let clash : ListEnded ≡ Going = sym e ∙ h in absurd (cc clash)
    at Stopped e ih h = let clash : Stopped ≡ Going = sym e ∙ h in absurd (cc clash)

-- a state as that of a straight list which does the same
abbrev plainly : State → State
plainly s = record s { visits = []; lookups_left = lookup_limit; mode = Going }

-- keys that agree on a mask agree on one that it covers
covered : (x y known m : List ℕ) → masked x known ≡ masked y known → covers known (union (m ∷ [])) ≡ true → masked x m ≡ masked y m
covered x y known m e inside =
    (SameBits_from-union x y (m ∷ []) (agree-masked x y (union (m ∷ [])) (agree-covers x y known (union (m ∷ [])) inside (agree_from-masked x y known e)))).0

-- ---- two translations side by side

module _ (sw : Switch) (a b m : List ℕ) (ka : IsKey a) (kb : IsKey b) (agreed : masked a m ≡ masked b m) where
  -- what the actions so far do to the second packet
  abbrev straight : List OfAction → State
  straight actions = run (switch_of [] sw.ports) no_lookup actions (start b)

  -- The state of the first packet and that of the second one, where each step was decided.
  pub record Joined (p : Path) (s t : State) : Type 0 where
    pub ports : p.ports ≡ sw.ports
    pub mask : p.mask ≡ m
    pub mode : t.mode ≡ s.mode
    pub left : t.lookups_left ≡ s.lookups_left
    pub long : length s.current ≡ field_count
    pub known : masked s.current p.known ≡ masked t.current p.known
    pub own : (q : ℕ) → number_at p.touched q ≡ 0 → (number_at s.current q ≡ number_at a q) × (number_at t.current q ≡ number_at b q)
    pub sent : ports_in t.actions ≡ ports_in s.actions
    pub quiet : ports_in t.actions ≡ [] → t.actions ≡ []
    pub few : (length s.actions ≤ p.used) × (length t.actions ≤ p.used)
    pub clean : p.dirty ≡ false → (s.base ≡ s.current) × (t.base ≡ t.current)
    pub turned : (f : FieldId) → is_frame_field f ≡ true → (number_after f s.actions (value_of a f) ≡ value_of s.base f) × (number_after f t.actions (value_of b f) ≡ value_of t.base f)
    pub same : straight p.actions ≡ plainly t

  -- ---- fields that no action wrote

  own-same : (p : Path) (s t : State) → Joined p s t → (f : FieldId) → is_own p f ≡ true → value_of t.current f ≡ value_of s.current f
  own-same p s t h f is =
      let parts = and_parts (value_of p.touched f == 0) (covers p.mask (union (whole f ∷ []))) is in
      let stays = h.own (place_of f) (eqb-true (value_of p.touched f) 0 parts.0) in
      let inside : covers m (union (whole f ∷ [])) ≡ true = subst (λ (z : List ℕ). covers z (union (whole f ∷ [])) ≡ true) h.mask parts.1 in
      let first = whole-same a b ka kb f (covered a b m (whole f) agreed inside) in
      stays.1 ∙ sym first ∙ sym stays.0

  transport-same : (test : ℕ → Bool) (p : Path) (s t : State) → Joined p s t → are_own p (field.DlType ∷ field.NwProto ∷ field.IpFrag ∷ []) ≡ true
      → (((value_of t.current field.DlType == ipv4_type) || (value_of t.current field.DlType == ipv6_type)) && (test (value_of t.current field.NwProto) && (value_of t.current field.IpFrag == 0)))
      ≡ (((value_of s.current field.DlType == ipv4_type) || (value_of s.current field.DlType == ipv6_type)) && (test (value_of s.current field.NwProto) && (value_of s.current field.IpFrag == 0)))
  transport-same test p s t h own =
      let first = and_parts (is_own p field.DlType) _ own in
      let second = and_parts (is_own p field.NwProto) _ first.1 in
      let third = and_parts (is_own p field.IpFrag) _ second.1 in
      ap (λ (z : ℕ). ((z == ipv4_type) || (z == ipv6_type)) && (test (value_of t.current field.NwProto) && (value_of t.current field.IpFrag == 0))) (own-same p s t h field.DlType first.0)
      ∙ ap₂ (λ (y z : ℕ). ((value_of s.current field.DlType == ipv4_type) || (value_of s.current field.DlType == ipv6_type)) && (test y && (z == 0)))
      (own-same p s t h field.NwProto second.0) (own-same p s t h field.IpFrag third.0)

  met-same : (need : Prerequisite) (p : Path) (s t : State) → Joined p s t → are_own p (fields_needed need) ≡ true → is_met need t.current ≡ is_met need s.current
  unfolding is_met fields_needed
  met-same Nothing p s t h own = refl
  met-same Ipv4 p s t h own = ap (λ (z : ℕ). z == ipv4_type) (own-same p s t h field.DlType (and_parts (is_own p field.DlType) true own).0)
  met-same Ipv6 p s t h own = ap (λ (z : ℕ). z == ipv6_type) (own-same p s t h field.DlType (and_parts (is_own p field.DlType) true own).0)
  met-same Ip p s t h own = ap (λ (z : ℕ). (z == ipv4_type) || (z == ipv6_type)) (own-same p s t h field.DlType (and_parts (is_own p field.DlType) true own).0)
  met-same Arp p s t h own = ap (λ (z : ℕ). z == arp_type) (own-same p s t h field.DlType (and_parts (is_own p field.DlType) true own).0)
  met-same Tcp p s t h own = transport-same (λ n. n == tcp_protocol) p s t h own
  met-same Udp p s t h own = transport-same (λ n. n == udp_protocol) p s t h own
  met-same TcpOrUdp p s t h own = transport-same (λ n. (n == tcp_protocol) || (n == udp_protocol)) p s t h own
  met-same Icmp p s t h own =
      let first = and_parts (is_own p field.DlType) _ own in
      let second = and_parts (is_own p field.NwProto) true first.1 in
      ap₂ (λ (y z : ℕ). (y == ipv4_type) && (z == icmp_protocol)) (own-same p s t h field.DlType first.0) (own-same p s t h field.NwProto second.0)
  met-same Icmp6 p s t h own =
      let first = and_parts (is_own p field.DlType) _ own in
      let second = and_parts (is_own p field.NwProto) true first.1 in
      ap₂ (λ (y z : ℕ). (y == ipv6_type) && (z == icmp6_protocol)) (own-same p s t h field.DlType first.0) (own-same p s t h field.NwProto second.0)
  met-same Tag p s t h own = ap is_tag (own-same p s t h field.VlanTci (and_parts (is_own p field.VlanTci) _ own).0)

  needed-same : (p : Path) (s t : State) → Joined p s t → (fs : List FieldId) → are_own p fs ≡ true → AreSame fs s.current t.current
  needed-same p s t h [] own f among = absurd among
  needed-same p s t h (g ∷ fs) own f among = at among (needed-same p s t h fs parts.1 f)
    where
      parts : (is_own p g ≡ true) × (are_own p fs ≡ true)
      parts = and_parts (is_own p g) (are_own p fs) own

      at : Among f (g ∷ fs) → (Among f fs → value_of s.current f ≡ value_of t.current f) → value_of s.current f ≡ value_of t.current f
      at (inl is) rest = subst (λ (z : FieldId). value_of s.current z ≡ value_of t.current z) (sym is) (sym (own-same p s t h g parts.0))
      at (inr later) rest = rest later

  -- ---- keys after an action

  -- bits that are known are the same
  bits-known : (p : Path) (s t : State) → Joined p s t → (f : FieldId) (bits : ℕ) → are_known p f bits ≡ true → bit_and (value_of t.current f) bits ≡ bit_and (value_of s.current f) bits
  bits-known p s t h f bits inside =
      sym (only_at-same s.current t.current (place_of f) bits (covered s.current t.current p.known (only_at (place_of f) bits) h.known inside))

  set-after : (sub : ℕ → State → State) (p : Path) (s t : State) → Joined p s t → (name : NamedField) (value bits : ℕ)
      → masked (act sw sub (Set name value bits) s).current (if is_known_write p name then added p.known (step_bits (Set name value bits) s.current) else forgotten (Set name value bits) p.known)
      ≡ masked (act sw sub (Set name value bits) t).current (if is_known_write p name then added p.known (step_bits (Set name value bits) s.current) else forgotten (Set name value bits) p.known)
  unfolding act
  set-after sub p s t h name value bits = at (is_known_write p name) refl
    where
      plain : (u : Bool) → not u ≡ true → u ≡ false
      plain true e = absurd (cc e)
      plain false e = refl

      at : (u : Bool) → is_known_write p name ≡ u
          → masked (write name value bits s).current (if u then added p.known (step_bits (Set name value bits) s.current) else forgotten (Set name value bits) p.known)
          ≡ masked (write name value bits t).current (if u then added p.known (step_bits (Set name value bits) s.current) else forgotten (Set name value bits) p.known)
      at true e =
          let parts = and_parts (not (is_tag_field (named name).field)) (are_own p (fields_needed (named name).write_needs)) e in
          let long = h.long in
          let within : place_of (named name).field < length s.current = omega (arith, long, place_of-lt (named name).field) in
          set-known name value bits s t p.known (plain (is_tag_field (named name).field) parts.0) within (needed-same p s t h (fields_needed (named name).write_needs) parts.1) (met-same (named name).write_needs p s t h parts.1) h.known
      at false e = forgotten-known sw sub (Set name value bits) refl s t p.known h.known

  known-after : (sub : ℕ → State → State) (p : Path) (s t : State) → Joined p s t → (x : OfAction) → leads x ≡ false
      → masked (act sw sub x s).current (known_after p x s.current) ≡ masked (act sw sub x t).current (known_after p x s.current)
  unfolding is_known
  known-after sub p s t h (Set name value bits) plain = set-after sub p s t h name value bits
  known-after sub p s t h (Output n) plain = forgotten-known sw sub (Output n) plain s t p.known h.known
  known-after sub p s t h (OutputField slice) plain = forgotten-known sw sub (OutputField slice) plain s t p.known h.known
  known-after sub p s t h InPort plain = forgotten-known sw sub InPort plain s t p.known h.known
  known-after sub p s t h All plain = forgotten-known sw sub All plain s t p.known h.known
  known-after sub p s t h Flood plain = forgotten-known sw sub Flood plain s t p.known h.known
  known-after sub p s t h (Resubmit table) plain = absurd (cc plain)
  known-after sub p s t h (Goto table) plain = absurd (cc plain)
  known-after sub p s t h (Move source target) plain = forgotten-known sw sub (Move source target) plain s t p.known h.known
  known-after sub p s t h DecTtl plain = forgotten-known sw sub DecTtl plain s t p.known h.known
  known-after sub p s t h (PushVlan tpid) plain = forgotten-known sw sub (PushVlan tpid) plain s t p.known h.known
  known-after sub p s t h PopVlan plain = forgotten-known sw sub PopVlan plain s t p.known h.known
  known-after sub p s t h (SetVid vid) plain = forgotten-known sw sub (SetVid vid) plain s t p.known h.known
  known-after sub p s t h (SetPcp pcp) plain = forgotten-known sw sub (SetPcp pcp) plain s t p.known h.known

  long-after : (sub : ℕ → State → State) (x : OfAction) → leads x ≡ false → (s : State) → length s.current ≡ field_count → length (act sw sub x s).current ≡ field_count
  long-after sub x plain s long =
      let kept = forgotten x [] in
      sym (length_from-masked (act sw sub x s).current s.current kept (act-kept kept sw sub x plain (forgotten-zero x []) s)) ∙ long

  own-after : (sub : ℕ → State → State) (p : Path) (s t : State) → Joined p s t → (x : OfAction) → leads x ≡ false → (q : ℕ) → number_at (added p.touched (writes x)) q ≡ 0
      → (number_at (act sw sub x s).current q ≡ number_at a q) × (number_at (act sw sub x t).current q ≡ number_at b q)
  own-after sub p s t h x plain q none =
      let first = untouched-stays sw sub x plain s p.touched q none in
      let second = untouched-stays sw sub x plain t p.touched q none in
      let before = h.own q first.0 in
      (first.1 ∙ before.0, second.1 ∙ before.1)

  -- ---- one action

  -- What an action made of both states. The first says whether it is left out, the second whether keys may have changed.
  record Moved (p : Path) (s t u v : State) (out dirty : Bool) (used : ℕ) : Type 0 where
    mode : v.mode ≡ u.mode
    going : out ≡ false → v.mode ≡ Going
    stays : out ≡ true → plainly v ≡ plainly t
    sent : ports_in v.actions ≡ ports_in u.actions
    quiet : ports_in v.actions ≡ [] → v.actions ≡ []
    few : (length u.actions ≤ used) × (length v.actions ≤ used)
    clean : dirty ≡ false → (u.base ≡ u.current) × (v.base ≡ v.current)
    turned : (f : FieldId) → is_frame_field f ≡ true → (number_after f u.actions (value_of a f) ≡ value_of u.base f) × (number_after f v.actions (value_of b f) ≡ value_of v.base f)

  -- nothing but the current key or the mode is changed
  record Still (s u : State) : Type 0 where
    mode : u.mode ≡ s.mode
    actions : u.actions ≡ s.actions
    base : u.base ≡ s.base

  still-turned : (s u : State) (k : List ℕ) (f : FieldId) → u.actions ≡ s.actions → u.base ≡ s.base → number_after f s.actions (value_of k f) ≡ value_of s.base f
      → number_after f u.actions (value_of k f) ≡ value_of u.base f
  still-turned s u k f actions base same =
      ap (λ (z : List DpAction). number_after f z (value_of k f)) actions ∙ same ∙ sym (ap (λ (z : List ℕ). value_of z f) base)

  still-moved : (p : Path) (s t u v : State) → Joined p s t → s.mode ≡ Going → Still s u → Still t v → (used : ℕ) → p.used ≤ used → Moved p s t u v false true used
  still-moved p s t u v h going first second used more =
      let few_s : length u.actions ≤ used = subst (λ (z : List DpAction). length z ≤ used) (sym first.actions) (let few = h.few.0 in omega arith) in
      let few_t : length v.actions ≤ used = subst (λ (z : List DpAction). length z ≤ used) (sym second.actions) (let few = h.few.1 in omega arith) in
      record {
        mode = second.mode ∙ h.mode ∙ sym first.mode;
        going = λ e. second.mode ∙ h.mode ∙ going;
        stays = λ e. absurd (cc e);
        sent = ap ports_in second.actions ∙ h.sent ∙ sym (ap ports_in first.actions);
        quiet = λ e. second.actions ∙ h.quiet (ap ports_in (sym second.actions) ∙ e);
        few = (few_s, few_t);
        clean = λ e. absurd (cc e);
        turned = λ f is.
            let before = h.turned f is in
            (still-turned s u a f first.actions first.base before.0, still-turned t v b f second.actions second.base before.1);
      }

  ended-moved : (p : Path) (s t u v : State) → Joined p s t → v.mode ≡ u.mode → u.actions ≡ s.actions → v.actions ≡ t.actions → u.base ≡ s.base → v.base ≡ t.base
      → plainly v ≡ plainly t → (used : ℕ) → p.used ≤ used → Moved p s t u v true true used
  ended-moved p s t u v h mode first second first_base second_base stays used more =
      let few_s : length u.actions ≤ used = subst (λ (z : List DpAction). length z ≤ used) (sym first) (let few = h.few.0 in omega arith) in
      let few_t : length v.actions ≤ used = subst (λ (z : List DpAction). length z ≤ used) (sym second) (let few = h.few.1 in omega arith) in
      record {
        mode = mode;
        going = λ e. absurd (cc e);
        stays = λ e. stays;
        sent = ap ports_in second ∙ h.sent ∙ sym (ap ports_in first);
        quiet = λ e. second ∙ h.quiet (ap ports_in (sym second) ∙ e);
        few = (few_s, few_t);
        clean = λ e. absurd (cc e);
        turned = λ f is.
            let before = h.turned f is in
            (still-turned s u a f first first_base before.0, still-turned t v b f second second_base before.1);
      }

  -- ---- actions that send

  in_port-same : (p : Path) (s t : State) → Joined p s t → is_own p field.InPort ≡ true → in_port_of t.current ≡ in_port_of s.current
  in_port-same p s t h own = own-same p s t h field.InPort own

  slice-same : (p : Path) (s t : State) → Joined p s t → (slice : Slice) → is_slice_known p slice ≡ true → slice_of t.current slice ≡ slice_of s.current slice
  slice-same p s t h slice known = ap (λ (z : ℕ). z / in_field slice.name (2 ^ slice.low)) (at (in_field slice.name (slice_bits slice) == 0) refl (is_tag_field (named slice.name).field) parts.0 read)
    where
      parts : (not (is_tag_field (named slice.name).field) ≡ true) × (covers p.known (union (slice_read slice)) ≡ true)
      parts = and_parts (not (is_tag_field (named slice.name).field)) (covers p.known (union (slice_read slice))) known

      read : SameBits s.current t.current (slice_read slice)
      read =
          SameBits_from-union s.current t.current (slice_read slice) (agree-masked s.current t.current (union (slice_read slice))
          (agree-covers s.current t.current p.known (union (slice_read slice)) parts.1 (agree_from-masked s.current t.current p.known h.known)))

      at : (z : Bool) → (in_field slice.name (slice_bits slice) == 0) ≡ z → (u : Bool) → not u ≡ true
          → SameBits s.current t.current (if z then [] else (if u then whole (named slice.name).field else only_at (place_of (named slice.name).field) (in_field slice.name (slice_bits slice))) ∷ [])
          → bit_and (value_of t.current (named slice.name).field) (in_field slice.name (slice_bits slice)) ≡ bit_and (value_of s.current (named slice.name).field) (in_field slice.name (slice_bits slice))
      at true zero_ u plain same =
          let none = eqb-true (in_field slice.name (slice_bits slice)) 0 zero_ in
          ap (bit_and (value_of t.current (named slice.name).field)) none ∙ and_zero (value_of t.current (named slice.name).field)
          ∙ sym (ap (bit_and (value_of s.current (named slice.name).field)) none ∙ and_zero (value_of s.current (named slice.name).field))
      at false some true plain same = absurd (cc plain)
      at false some false plain same =
          sym (only_at-same s.current t.current (place_of (named slice.name).field) (in_field slice.name (slice_bits slice)) same.0)

  one_port-same : (p : Path) (s t : State) → Joined p s t → is_own p field.InPort ≡ true → (n : ℕ) → one_port sw t.current n ≡ one_port sw s.current n
  one_port-same p s t h own n = ap (λ (z : ℕ). if list_any (λ q. n == q) sw.ports && not (n == z) then n ∷ [] else []) (in_port-same p s t h own)

  others-same : (p : Path) (s t : State) → Joined p s t → is_own p field.InPort ≡ true → other_ports sw t.current ≡ other_ports sw s.current
  others-same p s t h own = ap (λ (z : ℕ). filter (λ q. not (q == z)) (rising sw.ports)) (in_port-same p s t h own)

  ports-same : (p : Path) (s t : State) → Joined p s t → (x : OfAction) → is_output x ≡ true → is_decided p x s.current ≡ true → ports_of sw x t.current ≡ ports_of sw x s.current
  unfolding is_decided
  ports-same p s t h (Output n) is decided = one_port-same p s t h decided n
  ports-same p s t h (OutputField slice) is decided =
      let parts = and_parts (is_own p field.InPort) (is_slice_known p slice) decided in
      ap (one_port sw t.current) (slice-same p s t h slice parts.1) ∙ one_port-same p s t h parts.0 (slice_of s.current slice)
  ports-same p s t h InPort is decided = ap (λ (z : ℕ). z ∷ []) (in_port-same p s t h decided)
  ports-same p s t h All is decided = others-same p s t h decided
  ports-same p s t h Flood is decided = others-same p s t h decided
  ports-same p s t h (Resubmit table) is decided = absurd (cc is)
  ports-same p s t h (Goto table) is decided = absurd (cc is)
  ports-same p s t h (Set name value bits) is decided = absurd (cc is)
  ports-same p s t h (Move source target) is decided = absurd (cc is)
  ports-same p s t h DecTtl is decided = absurd (cc is)
  ports-same p s t h (PushVlan tpid) is decided = absurd (cc is)
  ports-same p s t h PopVlan is decided = absurd (cc is)
  ports-same p s t h (SetVid vid) is decided = absurd (cc is)
  ports-same p s t h (SetPcp pcp) is decided = absurd (cc is)

  -- where keys are told not to have changed, they hadn't before, or the frame was sent
  clean-output : (p : Path) (key : List ℕ) → p.ports ≡ sw.ports → (x : OfAction) → is_output x ≡ true → dirty_after p x key ≡ false
      → (p.dirty ≡ false) ⊎ (1 ≤ length (ports_of sw x key))
  unfolding dirty_after
  clean-output p key ports (Output n) is e = at p.dirty (is_other_port sw key n) (ap (λ (z : List ℕ). p.dirty && not (is_other_port (switch_of [] z) key n)) (sym ports) ∙ e)
    where
      at : (d o : Bool) → (d && not o) ≡ false → (d ≡ false) ⊎ (1 ≤ length (if o then n ∷ [] else []))
      at false o e = inl refl
      at true true e = inr (omega arith)
      at true false e = absurd (cc e)
  clean-output p key ports (OutputField slice) is e = inl e
  clean-output p key ports InPort is e = inr (omega arith)
  clean-output p key ports All is e = inl e
  clean-output p key ports Flood is e = inl e
  clean-output p key ports (Resubmit table) is e = absurd (cc is)
  clean-output p key ports (Goto table) is e = absurd (cc is)
  clean-output p key ports (Set name value bits) is e = absurd (cc is)
  clean-output p key ports (Move source target) is e = absurd (cc is)
  clean-output p key ports DecTtl is e = absurd (cc is)
  clean-output p key ports (PushVlan tpid) is e = absurd (cc is)
  clean-output p key ports PopVlan is e = absurd (cc is)
  clean-output p key ports (SetVid vid) is e = absurd (cc is)
  clean-output p key ports (SetPcp pcp) is e = absurd (cc is)

  output-moved : (sub : ℕ → State → State) (p : Path) (s t : State) → Joined p s t → s.mode ≡ Going → (x : OfAction) → is_output x ≡ true → is_decided p x s.current ≡ true
      → used_after p x s.current ≤ action_limit
      → Moved p s t (act sw sub x s) (act sw sub x t) false (dirty_after p x s.current) (used_after p x s.current)
  output-moved sub p s t h going x is decided room =
      let ports = ports-same p s t h x is decided in
      let many = sends p.ports x s.current in
      let count : length (ports_of sw x s.current) ≤ many = subst (λ (z : List ℕ). length (ports_of sw x s.current) ≤ sends z x s.current) (sym h.ports) (few-ports sw x s.current) in
      let other_count : length (ports_of sw x t.current) ≤ many = subst (λ (z : List ℕ). length z ≤ many) (sym ports) count in
      let first = output-emits sw sub x is s p.dirty p.used many h.few.0 (λ e. (h.clean e).0) count room in
      let second = output-emits sw sub x is t p.dirty p.used many h.few.1 (λ e. (h.clean e).1) other_count room in
      record {
        mode = second.mode ∙ h.mode ∙ sym first.mode;
        going = λ e. second.mode ∙ h.mode ∙ going;
        stays = λ e. absurd (cc e);
        sent = second.ports ∙ ap₂ (λ (y z : List ℕ). y ++ z) h.sent ports ∙ sym first.ports;
        quiet = second.quiet h.quiet;
        few = (first.few, second.few);
        turned = λ f is_frame.
            let before = h.turned f is_frame in
            (first.turned f is_frame (value_of a f) before.0, second.turned f is_frame (value_of b f) before.1);
        clean = λ e. (first.clean (known_first (clean-output p s.current h.ports x is e)), second.clean (known_second ports (clean-output p s.current h.ports x is e)));
      }
    where
      known_first : (p.dirty ≡ false) ⊎ (1 ≤ length (ports_of sw x s.current)) → (s.base ≡ s.current) ⊎ (1 ≤ length (ports_of sw x s.current))
      known_first (inl e) = inl (h.clean e).0
      known_first (inr some) = inr some

      known_second : ports_of sw x t.current ≡ ports_of sw x s.current → (p.dirty ≡ false) ⊎ (1 ≤ length (ports_of sw x s.current)) → (t.base ≡ t.current) ⊎ (1 ≤ length (ports_of sw x t.current))
      known_second ports (inl e) = inl (h.clean e).1
      known_second ports (inr some) = inr (subst (λ (z : List ℕ). 1 ≤ length z) (sym ports) some)

  -- ---- actions that write

  write-still : (name : NamedField) (value bits : ℕ) (s : State) → Still s (write name value bits s)
  unfolding write
  write-still name value bits s = at (is_met (named name).write_needs s.current)
    where
      at : (u : Bool) → Still s (if u then with_current (written (named name).field (in_field name value) (written_bits name bits) s.current) s else s)
      at true = record { mode = refl; actions = refl; base = refl }
      at false = record { mode = refl; actions = refl; base = refl }

  -- one that has a bit but the least isn't 0 or 1
  high : (x k : ℕ) → (bit_and (bit_and x k) high_bits == 0) ≡ false → nat_le x 1 ≡ false
  high x k e = at (nat_le x 1) refl
    where
      none : (y : ℕ) → bit_and y high_bits ≡ 0 → bit_and (bit_and y k) high_bits ≡ 0
      none y z = ap (λ (w : ℕ). bit_and w high_bits) (and_comm y k) ∙ and_assoc high_bits k y ∙ ap (bit_and k) z ∙ and_zero k

      clash : bit_and (bit_and x k) high_bits ≡ 0 → ⊥
      clash z = let g : true ≡ false = sym (eq-eqb (bit_and (bit_and x k) high_bits) 0 z) ∙ e in cc

      small : (y : ℕ) → y ≤ 1 → bit_and y high_bits ≡ 0
      small zero l = refl
      small (suc zero) l = refl
      small (suc (suc y)) l = absurd (omega arith)

      at : (u : Bool) → nat_le x 1 ≡ u → u ≡ false
      at true l = absurd (clash (none x (small x (leb-true x 1 l))))
      at false l = refl

  ttl-same : (p : Path) (s t : State) → Joined p s t → is_ttl_told p s.current ≡ true → nat_le (value_of t.current field.NwTtl) 1 ≡ nat_le (value_of s.current field.NwTtl) 1
  ttl-same p s t h told = at (is_own p field.NwTtl) refl told
    where
      not_false : (u : Bool) → not u ≡ true → u ≡ false
      not_false true e = absurd (cc e)
      not_false false e = refl

      bits : bit_and (value_of t.current field.NwTtl) (value_of p.known field.NwTtl) ≡ bit_and (value_of s.current field.NwTtl) (value_of p.known field.NwTtl)
      bits = sym (places_from-masked s.current t.current p.known (place_of field.NwTtl) h.known)

      at : (u : Bool) → is_own p field.NwTtl ≡ u
          → (u || not (bit_and (bit_and (value_of s.current field.NwTtl) (value_of p.known field.NwTtl)) high_bits == 0)) ≡ true
          → nat_le (value_of t.current field.NwTtl) 1 ≡ nat_le (value_of s.current field.NwTtl) 1
      at true own e = ap (λ (z : ℕ). nat_le z 1) (own-same p s t h field.NwTtl own)
      at false own e =
          let some = not_false _ e in
          high (value_of t.current field.NwTtl) (value_of p.known field.NwTtl) (ap (λ (z : ℕ). bit_and z high_bits == 0) bits ∙ some)
          ∙ sym (high (value_of s.current field.NwTtl) (value_of p.known field.NwTtl) some)

  -- a state whose TTL is lowered, by whether the packet is IP and by whether the TTL has run out
  abbrev lowered : Bool → Bool → State → State
  lowered met out s =
      if met then (if out then record s { mode = ListEnded } else with_current (set s.current (place_of field.NwTtl) (value_of s.current field.NwTtl - 1)) s) else s

  ttl-moved : (sub : ℕ → State → State) (p : Path) (s t : State) → Joined p s t → s.mode ≡ Going → is_decided p DecTtl s.current ≡ true → (used : ℕ) → p.used ≤ used
      → Moved p s t (act sw sub DecTtl s) (act sw sub DecTtl t) (is_left_out DecTtl s.current) true used
  unfolding act is_decided is_left_out fields_needed
  ttl-moved sub p s t h going decided used more =
      at (is_met Ip s.current) (is_met Ip t.current) refl met (nat_le (value_of s.current field.NwTtl) 1) (nat_le (value_of t.current field.NwTtl) 1) same
    where
      parts : (is_own p field.DlType ≡ true) × ((not (is_met Ip s.current) || is_ttl_told p s.current) ≡ true)
      parts = and_parts (is_own p field.DlType) (not (is_met Ip s.current) || is_ttl_told p s.current) decided

      own : are_own p (fields_needed Ip) ≡ true
      own = ap₂ (λ (x y : Bool). x && y) parts.0 (λ i. true)

      met : is_met Ip t.current ≡ is_met Ip s.current
      met = met-same Ip p s t h own

      told : (u : Bool) → u ≡ true → (not u || is_ttl_told p s.current) ≡ true → is_ttl_told p s.current ≡ true
      told true e w = w
      told false e w = absurd (cc e)

      same : is_met Ip s.current ≡ true → nat_le (value_of t.current field.NwTtl) 1 ≡ nat_le (value_of s.current field.NwTtl) 1
      same is = ttl-same p s t h (told (is_met Ip s.current) is parts.1)

      at : (u v : Bool) → is_met Ip s.current ≡ u → v ≡ u → (x y : Bool) → (u ≡ true → y ≡ x) → Moved p s t (lowered u x s) (lowered v y t) (u && x) true used
      at false false is e x y w = still-moved p s t s t h going (record { mode = refl; actions = refl; base = refl }) (record { mode = refl; actions = refl; base = refl }) used more
      at false true is e x y w = absurd (cc e)
      at true false is e x y w = absurd (cc e)
      at true true is e true true w = ended-moved p s t _ _ h refl refl refl refl refl refl used more
      at true true is e true false w = absurd (let g = w refl in cc g)
      at true true is e false true w = absurd (let g = w refl in cc g)
      at true true is e false false w = still-moved p s t _ _ h going (record { mode = refl; actions = refl; base = refl }) (record { mode = refl; actions = refl; base = refl }) used more

  full-same : (p : Path) (s t : State) → Joined p s t → are_known p field.VlanTci2 tag_bit ≡ true → is_full t.current ≡ is_full s.current
  full-same p s t h known = ap (λ (z : ℕ). not (z == 0)) (bits-known p s t h field.VlanTci2 tag_bit known)

  push-moved : (sub : ℕ → State → State) (tpid : ℕ) (p : Path) (s t : State) → Joined p s t → s.mode ≡ Going → is_decided p (PushVlan tpid) s.current ≡ true → (used : ℕ) → p.used ≤ used
      → Moved p s t (act sw sub (PushVlan tpid) s) (act sw sub (PushVlan tpid) t) (is_left_out (PushVlan tpid) s.current) true used
  unfolding act is_decided is_left_out
  push-moved sub tpid p s t h going decided used more = at (is_full s.current) (is_full t.current) (full-same p s t h decided)
    where
      at : (u v : Bool) → v ≡ u
          → Moved p s t (if u then stopped s else with_current (pushed tpid s.current) s) (if v then stopped t else with_current (pushed tpid t.current) t) u true used
      at true true e = ended-moved p s t _ _ h refl refl refl refl refl refl used more
      at true false e = absurd (cc e)
      at false true e = absurd (cc e)
      at false false e = still-moved p s t _ _ h going (record { mode = refl; actions = refl; base = refl }) (record { mode = refl; actions = refl; base = refl }) used more

  moved : (sub : ℕ → State → State) (p : Path) (s t : State) → Joined p s t → s.mode ≡ Going → (x : OfAction) → leads x ≡ false → is_decided p x s.current ≡ true
      → used_after p x s.current ≤ action_limit
      → Moved p s t (act sw sub x s) (act sw sub x t) (is_left_out x s.current) (dirty_after p x s.current) (used_after p x s.current)
  unfolding act is_left_out dirty_after sends
  moved sub p s t h going (Output n) plain decided room = output-moved sub p s t h going (Output n) refl decided room
  moved sub p s t h going (OutputField slice) plain decided room = output-moved sub p s t h going (OutputField slice) refl decided room
  moved sub p s t h going InPort plain decided room = output-moved sub p s t h going InPort refl decided room
  moved sub p s t h going All plain decided room = output-moved sub p s t h going All refl decided room
  moved sub p s t h going Flood plain decided room = output-moved sub p s t h going Flood refl decided room
  moved sub p s t h going (Resubmit table) plain decided room = absurd (cc plain)
  moved sub p s t h going (Goto table) plain decided room = absurd (cc plain)
  moved sub p s t h going (Set name value bits) plain decided room =
      still-moved p s t _ _ h going (write-still name value bits s) (write-still name value bits t) (used_after p (Set name value bits) s.current) (omega arith)
  moved sub p s t h going (Move source target) plain decided room =
      still-moved p s t _ _ h going (write-still target.name (slice_of s.current source * 2 ^ target.low) (slice_bits target) s)
      (write-still target.name (slice_of t.current source * 2 ^ target.low) (slice_bits target) t) (used_after p (Move source target) s.current) (omega arith)
  moved sub p s t h going DecTtl plain decided room = ttl-moved sub p s t h going decided (used_after p DecTtl s.current) (omega arith)
  moved sub p s t h going (PushVlan tpid) plain decided room = push-moved sub tpid p s t h going decided (used_after p (PushVlan tpid) s.current) (omega arith)
  moved sub p s t h going PopVlan plain decided room =
      still-moved p s t _ _ h going (record { mode = refl; actions = refl; base = refl }) (record { mode = refl; actions = refl; base = refl }) (used_after p PopVlan s.current) (omega arith)
  moved sub p s t h going (SetVid vid) plain decided room =
      still-moved p s t _ _ h going (record { mode = refl; actions = refl; base = refl }) (record { mode = refl; actions = refl; base = refl }) (used_after p (SetVid vid) s.current) (omega arith)
  moved sub p s t h going (SetPcp pcp) plain decided room =
      still-moved p s t _ _ h going (record { mode = refl; actions = refl; base = refl }) (record { mode = refl; actions = refl; base = refl }) (used_after p (SetPcp pcp) s.current) (omega arith)

  act-joined : (sub : ℕ → State → State) (p : Path) (s t : State) → Joined p s t → s.mode ≡ Going → (x : OfAction) → leads x ≡ false → (with_action p x s.current).fine ≡ true
      → Joined (with_action p x s.current) (act sw sub x s) (act sw sub x t)
  act-joined sub p s t h going x plain fine = record {
    ports = h.ports;
    mask = h.mask;
    mode = made.mode;
    left = act-left sw sub x plain t ∙ h.left ∙ sym (act-left sw sub x plain s);
    long = long-after sub x plain s h.long;
    known = known-after sub p s t h x plain;
    own = own-after sub p s t h x plain;
    sent = made.sent;
    quiet = made.quiet;
    few = subst (λ (z : ℕ). (length (act sw sub x s).actions ≤ z) × (length (act sw sub x t).actions ≤ z)) (sym used) made.few;
    clean = made.clean;
    turned = made.turned;
    same = ap straight actions ∙ longer (is_left_out x s.current) refl;
  }
    where
      parts : (p.fine ≡ true) × ((is_decided p x s.current && has_room p x s.current) ≡ true)
      parts = and_parts p.fine (is_decided p x s.current && has_room p x s.current) fine

      both : (is_decided p x s.current ≡ true) × (has_room p x s.current ≡ true)
      both = and_parts (is_decided p x s.current) (has_room p x s.current) parts.1

      room : used_after p x s.current ≤ action_limit
      room = leb-true (used_after p x s.current) action_limit (and_parts (nat_le (used_after p x s.current) action_limit) _ both.1).0

      made : Moved p s t (act sw sub x s) (act sw sub x t) (is_left_out x s.current) (dirty_after p x s.current) (used_after p x s.current)
      made = moved sub p s t h going x plain both.0 room

      used : (with_action p x s.current).used ≡ used_after p x s.current
      used = ap (λ (u : Bool). if u then used_after p x s.current else p.used) both.1

      actions : (with_action p x s.current).actions ≡ (if not (is_left_out x s.current) then p.actions ++ x ∷ [] else p.actions)
      actions = ap (λ (u : Bool). if u && not (is_left_out x s.current) then p.actions ++ x ∷ [] else p.actions) both.1

      t_going : t.mode ≡ Going
      t_going = h.mode ∙ going

      as_beside : plainly t ≡ beside [] lookup_limit t
      as_beside = ap (λ (m : Mode). record t { visits = []; lookups_left = lookup_limit; mode = m }) (sym t_going)

      longer : (u : Bool) → is_left_out x s.current ≡ u → straight (if not u then p.actions ++ x ∷ [] else p.actions) ≡ plainly (act sw sub x t)
      longer true out = h.same ∙ sym (made.stays out)
      longer false kept =
          run-snoc (switch_of [] sw.ports) no_lookup p.actions x (start b) refl (ap (λ (z : State). z.mode) h.same)
          ∙ ap (act (switch_of [] sw.ports) no_lookup x) (h.same ∙ as_beside)
          ∙ act-beside [] lookup_limit sw (switch_of [] sw.ports) sub no_lookup refl x plain t
          ∙ ap (λ (m : Mode). record (act sw sub x t) { visits = []; lookups_left = lookup_limit; mode = m }) (made.going kept)

  -- ---- the whole translation

  -- A lookup keeps two states joined.
  abbrev Keeps : (ℕ → State → State) → (ℕ → State → List Event) → Type 0
  Keeps sub events =
      (table : ℕ) (p : Path) (s t : State) → Joined p s t → s.mode ≡ Going → (fold followed p (events table s)).fine ≡ true → Joined (fold followed p (events table s)) (sub table s) (sub table t)

  step-joined : (sub : ℕ → State → State) (events : ℕ → State → List Event) → Keeps sub events → (x : OfAction) (p : Path) (s t : State) → Joined p s t → s.mode ≡ Going
      → (fold followed p (act_events events x s)).fine ≡ true → Joined (fold followed p (act_events events x s)) (act sw sub x s) (act sw sub x t)
  unfolding act act_events
  step-joined sub events keeps (Output n) p s t h going fine = act-joined sub p s t h going (Output n) refl fine
  step-joined sub events keeps (OutputField slice) p s t h going fine = act-joined sub p s t h going (OutputField slice) refl fine
  step-joined sub events keeps InPort p s t h going fine = act-joined sub p s t h going InPort refl fine
  step-joined sub events keeps All p s t h going fine = act-joined sub p s t h going All refl fine
  step-joined sub events keeps Flood p s t h going fine = act-joined sub p s t h going Flood refl fine
  step-joined sub events keeps (Resubmit table) p s t h going fine = keeps table p s t h going fine
  step-joined sub events keeps (Goto table) p s t h going fine = keeps table p s t h going fine
  step-joined sub events keeps (Set name value bits) p s t h going fine = act-joined sub p s t h going (Set name value bits) refl fine
  step-joined sub events keeps (Move source target) p s t h going fine = act-joined sub p s t h going (Move source target) refl fine
  step-joined sub events keeps DecTtl p s t h going fine = act-joined sub p s t h going DecTtl refl fine
  step-joined sub events keeps (PushVlan tpid) p s t h going fine = act-joined sub p s t h going (PushVlan tpid) refl fine
  step-joined sub events keeps PopVlan p s t h going fine = act-joined sub p s t h going PopVlan refl fine
  step-joined sub events keeps (SetVid vid) p s t h going fine = act-joined sub p s t h going (SetVid vid) refl fine
  step-joined sub events keeps (SetPcp pcp) p s t h going fine = act-joined sub p s t h going (SetPcp pcp) refl fine

  rest-joined : (mode : Mode) (rest : State → State) (events : State → List Event) (p : Path) (s t : State) → s.mode ≡ mode
      → (s.mode ≡ Going → (fold followed p (events s)).fine ≡ true → Joined (fold followed p (events s)) (rest s) (rest t)) → Joined p s t
      → (fold followed p (in_mode_events mode events s)).fine ≡ true → Joined (fold followed p (in_mode_events mode events s)) (in_mode mode rest s) (in_mode mode rest t)
  rest-joined Going rest events p s t is then_ h fine = then_ is fine
  rest-joined ListEnded rest events p s t is then_ h fine = h
  rest-joined Stopped rest events p s t is then_ h fine = h

  fold-append : (p : Path) (xs ys : List Event) → fold followed p (xs ++ ys) ≡ fold followed (fold followed p xs) ys
  fold-append p [] ys = refl
  fold-append p (x ∷ xs) ys = fold-append (followed p x) xs ys

  run-joined : (sub : ℕ → State → State) (events : ℕ → State → List Event) → Keeps sub events → (actions : List OfAction) (p : Path) (s t : State) → Joined p s t → s.mode ≡ Going
      → (fold followed p (run_events sw sub events actions s)).fine ≡ true → Joined (fold followed p (run_events sw sub events actions s)) (run sw sub actions s) (run sw sub actions t)
  unfolding run run_events
  run-joined sub events keeps [] p s t h going fine = h
  run-joined sub events keeps (x ∷ actions) p s t h going fine =
      let first = act_events events x s in
      let u = act sw sub x s in
      let rest = in_mode_events u.mode (run_events sw sub events actions) u in
      let split = fold-append p first rest in
      let both : (fold followed (fold followed p first) rest).fine ≡ true = ap (λ (z : Path). z.fine) (sym split) ∙ fine in
      let one = step-joined sub events keeps x p s t h going (fine-back (fold followed p first) rest both) in
      let all = rest-joined u.mode (run sw sub actions) (run_events sw sub events actions) (fold followed p first) u (act sw sub x t) refl
      (run-joined sub events keeps actions (fold followed p first) u (act sw sub x t) one) one both in
      subst (λ (z : Path). Joined z (run sw sub (x ∷ actions) s) (run sw sub (x ∷ actions) t)) (sym split)
      (subst (λ (mode : Mode). Joined (fold followed (fold followed p first) rest) (in_mode u.mode (run sw sub actions) u) (in_mode mode (run sw sub actions) (act sw sub x t))) (sym one.mode) all)

  resumed-joined : (p : Path) (s t : State) → Joined p s t → Joined p (resumed s) (resumed t)
  resumed-joined p s t h = record {
    ports = h.ports;
    mask = h.mask;
    mode = ap mode_after h.mode;
    left = h.left;
    long = h.long;
    known = h.known;
    own = h.own;
    sent = h.sent;
    quiet = h.quiet;
    few = h.few;
    clean = h.clean;
    turned = h.turned;
    same = h.same;
  }

  follow-joined : (sub : ℕ → State → State) (events : ℕ → State → List Event) → Keeps sub events → (w : Option Rule) (p : Path) (s t : State) → Joined p s t → s.mode ≡ Going
      → (fold followed p (follow_events sw sub events w s)).fine ≡ true → Joined (fold followed p (follow_events sw sub events w s)) (follow sw sub w s) (follow sw sub w t)
  follow-joined sub events keeps None p s t h going fine = h
  follow-joined sub events keeps (Some r) p s t h going fine =
      let begun : Joined p (visited r s) (visited r t) = record {
        ports = h.ports;
        mask = h.mask;
        mode = h.mode;
        left = h.left;
        long = h.long;
        known = h.known;
        own = h.own;
        sent = h.sent;
        quiet = h.quiet;
        few = h.few;
        clean = h.clean;
        turned = h.turned;
        same = h.same;
      } in
      resumed-joined _ _ _ (run-joined sub events keeps r.actions p (visited r s) (visited r t) begun going fine)

  enter-joined : (sub : ℕ → State → State) (events : ℕ → State → List Event) → Keeps sub events → (depth table n : ℕ) (p : Path) (s t : State) → Joined p s t → s.mode ≡ Going
      → (fold followed p (enter_events sw sub events depth table n s)).fine ≡ true
      → Joined (fold followed p (enter_events sw sub events depth table n s)) (enter sw sub table n s) (enter sw sub table n t)
  enter-joined sub events keeps depth table zero p s t h going fine = record {
    ports = h.ports;
    mask = h.mask;
    mode = refl;
    left = h.left;
    long = h.long;
    known = h.known;
    own = h.own;
    sent = h.sent;
    quiet = h.quiet;
    few = h.few;
    clean = h.clean;
    turned = h.turned;
    same = h.same;
  }
  enter-joined sub events keeps depth table (suc n) p s t h going fine =
      let q = followed p (Looked depth table (sw.tables table) s.current) in
      let further = follow_events sw sub events (winner (sw.tables table) s.current) (with_lookups_left n s) in
      let told = and_parts p.fine (tells_winner p.known (sw.tables table) s.current) (fine-back q further fine) in
      let same_rule = told-winner p.known (sw.tables table) s.current t.current told.1 h.known in
      let begun : Joined q (with_lookups_left n s) (with_lookups_left n t) = record {
        ports = h.ports;
        mask = h.mask;
        mode = h.mode;
        left = refl;
        long = h.long;
        known = h.known;
        own = h.own;
        sent = h.sent;
        quiet = h.quiet;
        few = h.few;
        clean = h.clean;
        turned = h.turned;
        same = h.same;
      } in
      subst (λ (o : Option Rule). Joined (fold followed q further) (follow sw sub (winner (sw.tables table) s.current) (with_lookups_left n s)) (follow sw sub o (with_lookups_left n t))) (sym same_rule)
      (follow-joined sub events keeps (winner (sw.tables table) s.current) q (with_lookups_left n s) (with_lookups_left n t) begun going fine)

  look-joined : (depths : ℕ) → Keeps (look sw depths) (look_events sw depths)
  unfolding look look_events
  look-joined zero table p s t h going fine = record {
    ports = h.ports;
    mask = h.mask;
    mode = refl;
    left = h.left;
    long = h.long;
    known = h.known;
    own = h.own;
    sent = h.sent;
    quiet = h.quiet;
    few = h.few;
    clean = h.clean;
    turned = h.turned;
    same = h.same;
  }
  look-joined (suc depths) table p s t h going fine =
      subst (λ (n : ℕ). Joined (fold followed p (enter_events sw (look sw depths) (look_events sw depths) (deepest - depths) table s.lookups_left s))
      (enter sw (look sw depths) table s.lookups_left s) (enter sw (look sw depths) table n t)) (sym h.left)
      (enter-joined (look sw depths) (look_events sw depths) (look-joined depths) (deepest - depths) table s.lookups_left p s t h going fine)

-- ---- what is done

pub follows : (sw : Switch) (a b m : List ℕ) → IsKey a → IsKey b → masked a m ≡ masked b m → (p : Path)
    → p.ports ≡ sw.ports → p.mask ≡ m → masked a p.known ≡ masked b p.known → p.actions ≡ [] → p.used ≡ 0 → p.dirty ≡ false
    → (fold followed p (events_of sw a)).fine ≡ true
    → IsFollowed sw a b (fold followed p (events_of sw a)).actions (sent_bits (fold followed p (events_of sw a)))
unfolding pipe last_state events_of run
follows sw a b m ka kb agreed p ports mask known actions used dirty fine =
    let mode = (last_state sw a).mode in
    let same : done sw b ≡ kept_actions mode (last_state sw b).actions = ap (λ (x : Mode). kept_actions x (last_state sw b).actions) end.mode in
    record {
      ports = ap ports_in same ∙ same_ports mode;
      none = λ e. same ∙ none_too mode e;
      straight = λ some. same ∙ some_too mode some;
      sent = λ some f is. ap (λ (xs : List DpAction). number_sent f xs b (sent_bits last)) same ∙ sent_too mode f is some;
    }
  where
    begun : Joined sw a b m ka kb agreed p (start a) (start b)
    begun = record {
      ports = ports;
      mask = mask;
      mode = refl;
      left = refl;
      long = ka.fields;
      known = known;
      own = λ q none_. (refl, refl);
      sent = refl;
      quiet = λ e. refl;
      few = (omega arith, omega arith);
      clean = λ e. (refl, refl);
      turned = λ f is. (refl, refl);
      same = ap (λ (xs : List OfAction). run (switch_of [] sw.ports) no_lookup xs (start b)) actions;
    }

    end : Joined sw a b m ka kb agreed (fold followed p (events_of sw a)) (last_state sw a) (last_state sw b)
    end = look-joined sw a b m ka kb agreed (deepest + 1) 0 p (start a) (start b) begun refl fine

    straight_actions : (last_state sw b).actions ≡ done_by sw.ports (fold followed p (events_of sw a)).actions b
    straight_actions = sym (ap (λ (z : State). (translation_of z).actions) end.same)

    same_ports : (x : Mode) → ports_in (kept_actions x (last_state sw b).actions) ≡ ports_in (kept_actions x (last_state sw a).actions)
    same_ports Going = end.sent
    same_ports ListEnded = end.sent
    same_ports Stopped = refl

    none_too : (x : Mode) → kept_actions x (last_state sw a).actions ≡ [] → kept_actions x (last_state sw b).actions ≡ []
    none_too Going e = end.quiet (end.sent ∙ ap ports_in e)
    none_too ListEnded e = end.quiet (end.sent ∙ ap ports_in e)
    none_too Stopped e = refl

    some_too : (x : Mode) → kept_actions x (last_state sw a).actions ≢ [] → kept_actions x (last_state sw b).actions ≡ done_by sw.ports (fold followed p (events_of sw a)).actions b
    some_too Going some = straight_actions
    some_too ListEnded some = straight_actions
    some_too Stopped some = absurd (some refl)

    last : Path
    last = fold followed p (events_of sw a)

    sent_alike : (f : FieldId) → is_frame_field f ≡ true → (dirty_now : Bool) → last.dirty ≡ dirty_now
        → bit_and (value_of (last_state sw b).base f) (value_of (if dirty_now then no_bits else last.known) f)
        ≡ bit_and (value_of (last_state sw a).base f) (value_of (if dirty_now then no_bits else last.known) f)
    sent_alike f is true e = zero_bits (value_of (last_state sw b).base f) ∙ sym (zero_bits (value_of (last_state sw a).base f))
      where
        zero_bits : (x : ℕ) → bit_and x (value_of no_bits f) ≡ 0
        zero_bits x = ap (bit_and x) (number_at-none (place_of f)) ∙ and_zero x
    sent_alike f is false e =
        let base = end.clean e in
        ap (λ (k : List ℕ). bit_and (value_of k f) (value_of last.known f)) base.1
        ∙ sym (places_from-masked (last_state sw a).current (last_state sw b).current last.known (place_of f) end.known)
        ∙ sym (ap (λ (k : List ℕ). bit_and (value_of k f) (value_of last.known f)) base.0)

    sent_both : (f : FieldId) → is_frame_field f ≡ true → number_sent f (last_state sw b).actions b (sent_bits last) ≡ number_sent f (last_state sw a).actions a (sent_bits last)
    sent_both f is =
        let turned = end.turned f is in
        ap (λ (x : ℕ). bit_and x (value_of (sent_bits last) f)) turned.1
        ∙ sent_alike f is last.dirty refl
        ∙ sym (ap (λ (x : ℕ). bit_and x (value_of (sent_bits last) f)) turned.0)

    sent_too : (x : Mode) (f : FieldId) → is_frame_field f ≡ true → kept_actions x (last_state sw a).actions ≢ []
        → number_sent f (kept_actions x (last_state sw b).actions) b (sent_bits last) ≡ number_sent f (kept_actions x (last_state sw a).actions) a (sent_bits last)
    sent_too Going f is some = sent_both f is
    sent_too ListEnded f is some = sent_both f is
    sent_too Stopped f is some = absurd (some refl)
