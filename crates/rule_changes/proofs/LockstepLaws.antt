-- Two switches that find rules of the same actions for every packet do the same to it.
use Rattle.std.proofs.Common.{◌≡◌, ℕ, zero, suc, ◌+◌, ◌*◌, ◌^◌, Bool, true, false, ◌==◌, nat_le, if◌then◌else◌, List, [], ◌∷◌, ◌++◌, length, map, set, bit_and, Option, Some, None, ◌⊎◌, inl, inr, refl, sym, ap, ◌∙◌, subst, get_or-set_other, length-set}
use Rattle.std.specs.List.{list_all}
use Rattle.std.proofs.lemmas.Bool.{and_parts, eqb-true, cases_eq}
use Rattle.spec_base.specs.Bits.{merged}
use Rattle.spec_keys.specs.declared.field_id.FieldId.{FieldId}
use Rattle.spec_keys.specs.declared.field_id.FieldId.TheVariants as field
use Rattle.spec_keys.specs.Fields.{place_of}
use Rattle.spec_keys.specs.Keys.{number_at, value_of, masked, are_zero}
use Rattle.spec_actions.specs.declared.named_field.NamedField.{NamedField}
use Rattle.spec_actions.specs.declared.named_field.Prerequisite.TheVariants as needs
use Rattle.spec_actions.specs.declared.action.OfAction.{OfAction}
use Rattle.spec_actions.specs.declared.action.OfAction.TheVariants.{Output, OutputField, InPort, All, Flood, Resubmit, Goto, Set, Move, DecTtl, PushVlan, PopVlan, SetVid, SetPcp}
use Rattle.spec_actions.specs.declared.action.DpAction.{DpAction}
use Rattle.spec_actions.specs.declared.action.DpAction.TheVariants as datapath
use Rattle.spec_actions.specs.Named.{named}
use Rattle.spec_tables.specs.Rules.{Rule, winner}
use Rattle.spec_xlate.specs.Commit.{commit}
use Rattle.spec_xlate.specs.Needs.{is_met}
use Rattle.spec_xlate.specs.Tags.{VlanTag, tag_fields, is_tag, is_tag_field, with_tags, pushed, tagged, is_full}
use Rattle.spec_xlate.specs.Translation.{Switch, State, Mode, deepest, action_limit, kept as kept_actions, stopped, with_current, emit, emit_all, rebased, committed, in_port_of, is_other_port, other_ports, output, output_all, slice_bits, slice_of, with_value, written, write, vid_bits, pcp_bits, pcp_unit, lower_ttl, act, in_mode, run, resumed, visited, follow, with_lookups_left, enter, look, start, last_state, pipe}
use Rattle.spec_xlate.specs.Translation.Mode.{Going, ListEnded, Stopped}
use Rattle.table_laws.proofs.KeyLaws.{and_zero, masked_from-places}
use Rattle.spec_tools.specs.Classes.{done, leads}
use Rattle.rule_changes.specs.Lockstep.{written_with, keeps, FoundAlike}

-- ---- a state with other visits, and as many lookups left

abbrev pub beside : List ℕ → ℕ → State → State
beside v left s = record s { visits = v; lookups_left = left }

module _ (v : List ℕ) (left : ℕ) where
  if-beside : (t : Bool) (p q : State) → (if t then beside v left p else beside v left q) ≡ beside v left (if t then p else q)
  if-beside true p q = refl
  if-beside false p q = refl

  emit-beside : (a : DpAction) (s : State) → emit a (beside v left s) ≡ beside v left (emit a s)
  unfolding emit
  emit-beside a s = if-beside (length s.actions == action_limit) (stopped s) (record s { actions = s.actions ++ a ∷ [] })

  emit_all-beside : (as_ : List DpAction) (s : State) → emit_all as_ (beside v left s) ≡ beside v left (emit_all as_ s)
  unfolding emit_all
  emit_all-beside [] s = refl
  emit_all-beside (a ∷ as_) s = ap (emit_all as_) (emit-beside a s) ∙ emit_all-beside as_ (emit a s)

  committed-beside : (s : State) → committed (beside v left s) ≡ beside v left (committed s)
  unfolding committed
  committed-beside s = ap rebased (emit_all-beside (commit s.base s.current) s)

  output-beside : (sw : Switch) (n : ℕ) (s : State) → output sw n (beside v left s) ≡ beside v left (output sw n s)
  unfolding output
  output-beside sw n s =
      ap (λ (z : State). if is_other_port sw s.current n then z else beside v left s) (ap (emit (datapath.Output n)) (committed-beside s) ∙ emit-beside (datapath.Output n) (committed s))
      ∙ if-beside (is_other_port sw s.current n) (emit (datapath.Output n) (committed s)) s

  output_all-beside : (ps : List ℕ) (s : State) → output_all ps (beside v left s) ≡ beside v left (output_all ps s)
  unfolding output_all
  output_all-beside [] s = refl
  output_all-beside (p ∷ ps) s = ap (emit_all (map datapath.Output (p ∷ ps))) (committed-beside s) ∙ emit_all-beside (map datapath.Output (p ∷ ps)) (committed s)

  write-beside : (name : NamedField) (value bits : ℕ) (s : State) → write name value bits (beside v left s) ≡ beside v left (write name value bits s)
  unfolding write
  write-beside name value bits s = if-beside (is_met (named name).write_needs s.current) _ s

  ttl-beside : (s : State) → lower_ttl (beside v left s) ≡ beside v left (lower_ttl s)
  ttl-beside s = if-beside (nat_le (value_of s.current field.NwTtl) 1) _ _

  -- ---- an action that leads to no lookup does the same whatever was visited, however many lookups are left, and whatever the rules

  pub act-beside : (o n : Switch) (sub sub' : ℕ → State → State) → n.ports ≡ o.ports → (x : OfAction) → leads x ≡ false → (s : State)
      → act n sub' x (beside v left s) ≡ beside v left (act o sub x s)
  unfolding act output
  act-beside o n sub sub' ports (Output p) plain s =
      ap (λ (ps : List ℕ). output (record { tables = n.tables; ports = ps }) p (beside v left s)) ports ∙ output-beside (record { tables = n.tables; ports = o.ports }) p s ∙ same_switch
    where
      same_switch : beside v left (output (record { tables = n.tables; ports = o.ports }) p s) ≡ beside v left (output o p s)
      same_switch = refl
  act-beside o n sub sub' ports (OutputField slice) plain s =
      ap (λ (ps : List ℕ). output (record { tables = n.tables; ports = ps }) (slice_of s.current slice) (beside v left s)) ports ∙ output-beside (record { tables = n.tables; ports = o.ports }) (slice_of s.current slice) s ∙ same_switch
    where
      same_switch : beside v left (output (record { tables = n.tables; ports = o.ports }) (slice_of s.current slice) s) ≡ beside v left (output o (slice_of s.current slice) s)
      same_switch = refl
  act-beside o n sub sub' ports InPort plain s = ap (emit (datapath.Output (in_port_of s.current))) (committed-beside s) ∙ emit-beside (datapath.Output (in_port_of s.current)) (committed s)
  act-beside o n sub sub' ports All plain s =
      ap (λ (ps : List ℕ). output_all (other_ports (record { tables = n.tables; ports = ps }) s.current) (beside v left s)) ports ∙ output_all-beside (other_ports o s.current) s
  act-beside o n sub sub' ports Flood plain s =
      ap (λ (ps : List ℕ). output_all (other_ports (record { tables = n.tables; ports = ps }) s.current) (beside v left s)) ports ∙ output_all-beside (other_ports o s.current) s
  act-beside o n sub sub' ports (Resubmit table) plain s = absurd (cc plain)
  act-beside o n sub sub' ports (Goto table) plain s = absurd (cc plain)
  act-beside o n sub sub' ports (Set name value mask) plain s = write-beside name value mask s
  act-beside o n sub sub' ports (Move source target) plain s = write-beside target.name (slice_of s.current source * 2 ^ target.low) (slice_bits target) s
  act-beside o n sub sub' ports DecTtl plain s = ap (λ (z : State). if is_met needs.Ip s.current then z else beside v left s) (ttl-beside s) ∙ if-beside (is_met needs.Ip s.current) (lower_ttl s) s
  act-beside o n sub sub' ports (PushVlan tpid) plain s = if-beside (is_full s.current) (stopped s) (with_current (pushed tpid s.current) s)
  act-beside o n sub sub' ports PopVlan plain s = refl
  act-beside o n sub sub' ports (SetVid vid) plain s = refl
  act-beside o n sub sub' ports (SetPcp pcp) plain s = refl

-- it makes no lookup
pub act-left : (sw : Switch) (sub : ℕ → State → State) (x : OfAction) → leads x ≡ false → (s : State) → (act sw sub x s).lookups_left ≡ s.lookups_left
act-left sw sub x plain s = ap (λ (z : State). z.lookups_left) (act-beside s.visits s.lookups_left sw sw sub sub refl x plain s)

-- ---- what is kept

module _ (kept : List ℕ) where
  -- A key has what it had of the fields that are kept.
  abbrev Kept : List ℕ → List ℕ → Type 0
  Kept before now = masked now kept ≡ masked before kept

  set-kept : (key : List ℕ) (p value : ℕ) → number_at kept p ≡ 0 → Kept key (set key p value)
  set-kept key p value none = masked_from-places (set key p value) key kept (sym (length-set key p value)) (λ q. at q (cases_eq q p))
    where
      at : (q : ℕ) → (q ≡ p) ⊎ (q ≡ p → ⊥) → bit_and (number_at (set key p value) q) (number_at kept q) ≡ bit_and (number_at key q) (number_at kept q)
      at q (inl is) =
          let z : number_at kept q ≡ 0 = ap (number_at kept) is ∙ none in
          ap (bit_and (number_at (set key p value) q)) z ∙ and_zero _ ∙ sym (ap (bit_and (number_at key q)) z ∙ and_zero _)
      at q (inr other) = ap (λ (z : ℕ). bit_and z (number_at kept q)) (get_or-set_other key p q value 0 other)

  if-current : (t : Bool) (p q s : State) → Kept s.current p.current → Kept s.current q.current → Kept s.current (if t then p else q).current
  if-current true p q s a b = a
  if-current false p q s a b = b

  if-key : (t : Bool) (a b key : List ℕ) → Kept key a → Kept key b → Kept key (if t then a else b)
  if-key true a b key x y = x
  if-key false a b key x y = y

  emit-current : (a : DpAction) (s : State) → (emit a s).current ≡ s.current
  unfolding emit
  emit-current a s = at (length s.actions == action_limit)
    where
      at : (t : Bool) → (if t then stopped s else record s { actions = s.actions ++ a ∷ [] }).current ≡ s.current
      at true = refl
      at false = refl

  emit_all-current : (as_ : List DpAction) (s : State) → (emit_all as_ s).current ≡ s.current
  unfolding emit_all
  emit_all-current [] s = refl
  emit_all-current (a ∷ as_) s = emit_all-current as_ (emit a s) ∙ emit-current a s

  committed-current : (s : State) → (committed s).current ≡ s.current
  unfolding committed
  committed-current s = emit_all-current (commit s.base s.current) s

  sent-kept : (as_ : List DpAction) (s : State) → Kept s.current (emit_all as_ (committed s)).current
  sent-kept as_ s = ap (λ (z : List ℕ). masked z kept) (emit_all-current as_ (committed s) ∙ committed-current s)

  one-kept : (a : DpAction) (s : State) → Kept s.current (emit a (committed s)).current
  one-kept a s = ap (λ (z : List ℕ). masked z kept) (emit-current a (committed s) ∙ committed-current s)

  output-kept : (sw : Switch) (n : ℕ) (s : State) → Kept s.current (output sw n s).current
  unfolding output
  output-kept sw n s = if-current (is_other_port sw s.current n) _ s s (one-kept (datapath.Output n) s) refl

  output_all-kept : (ps : List ℕ) (s : State) → Kept s.current (output_all ps s).current
  unfolding output_all
  output_all-kept [] s = refl
  output_all-kept (p ∷ ps) s = sent-kept (map datapath.Output (p ∷ ps)) s

  tags-kept : are_zero tag_fields kept ≡ true → (outer inner : VlanTag) (key : List ℕ) → Kept key (with_tags outer inner key)
  tags-kept none outer inner key =
      let a = and_parts (value_of kept field.VlanTci == 0) _ none in
      let b = and_parts (value_of kept field.VlanTpid == 0) _ a.1 in
      let c = and_parts (value_of kept field.VlanTci2 == 0) _ b.1 in
      let d = and_parts (value_of kept field.VlanTpid2 == 0) _ c.1 in
      set-kept _ (place_of field.VlanTpid2) inner.tpid (eqb-true (value_of kept field.VlanTpid2) 0 d.0)
      ∙ set-kept _ (place_of field.VlanTci2) inner.tci (eqb-true (value_of kept field.VlanTci2) 0 c.0)
      ∙ set-kept _ (place_of field.VlanTpid) outer.tpid (eqb-true (value_of kept field.VlanTpid) 0 b.0)
      ∙ set-kept key (place_of field.VlanTci) outer.tci (eqb-true (value_of kept field.VlanTci) 0 a.0)

  tagged-kept : are_zero tag_fields kept ≡ true → (tci : ℕ) (key : List ℕ) → Kept key (tagged tci key)
  tagged-kept none tci key = if-key (is_tag tci) _ _ key (tags-kept none _ _ key) (tags-kept none _ _ key)

  value-kept : (f : FieldId) (number : ℕ) (key : List ℕ) → are_zero (written_with f) kept ≡ true → Kept key (with_value f number key)
  value-kept f number key none = at (is_tag_field f) none
    where
      at : (t : Bool) → are_zero (if t then tag_fields else f ∷ []) kept ≡ true → Kept key (if t then tagged number key else set key (place_of f) number)
      at true none = tagged-kept none number key
      at false none = set-kept key (place_of f) number (eqb-true (value_of kept f) 0 (and_parts (value_of kept f == 0) true none).0)

  written-kept : (f : FieldId) (value mask : ℕ) (key : List ℕ) → are_zero (written_with f) kept ≡ true → Kept key (written f value mask key)
  written-kept f value mask key none = if-key (mask == 0) key _ key refl (value-kept f (merged (value_of key f) value mask) key none)

  write-kept : (name : NamedField) (value bits : ℕ) (s : State) → are_zero (written_with (named name).field) kept ≡ true → Kept s.current (write name value bits s).current
  unfolding write
  write-kept name value bits s none = if-current (is_met (named name).write_needs s.current) _ s s (written-kept (named name).field _ _ s.current none) refl

  ttl-kept : (s : State) → number_at kept (place_of field.NwTtl) ≡ 0 → Kept s.current (lower_ttl s).current
  ttl-kept s none = if-current (nat_le (value_of s.current field.NwTtl) 1) _ _ s refl (set-kept s.current (place_of field.NwTtl) _ none)

  pub act-kept : (sw : Switch) (sub : ℕ → State → State) (x : OfAction) → leads x ≡ false → keeps kept x ≡ true → (s : State) → Kept s.current (act sw sub x s).current
  unfolding act
  act-kept sw sub (Output n) plain k s = output-kept sw n s
  act-kept sw sub (OutputField slice) plain k s = output-kept sw (slice_of s.current slice) s
  act-kept sw sub InPort plain k s = one-kept (datapath.Output (in_port_of s.current)) s
  act-kept sw sub All plain k s = output_all-kept (other_ports sw s.current) s
  act-kept sw sub Flood plain k s = output_all-kept (other_ports sw s.current) s
  act-kept sw sub (Resubmit table) plain k s = absurd (cc plain)
  act-kept sw sub (Goto table) plain k s = absurd (cc plain)
  act-kept sw sub (Set name value mask) plain k s = write-kept name value mask s k
  act-kept sw sub (Move source target) plain k s = write-kept target.name _ _ s k
  act-kept sw sub DecTtl plain k s = if-current (is_met needs.Ip s.current) (lower_ttl s) s s (ttl-kept s (eqb-true (value_of kept field.NwTtl) 0 (and_parts (value_of kept field.NwTtl == 0) true k).0)) refl
  act-kept sw sub (PushVlan tpid) plain k s = if-current (is_full s.current) (stopped s) _ s refl (tags-kept k _ _ s.current)
  act-kept sw sub PopVlan plain k s = tags-kept k _ _ s.current
  act-kept sw sub (SetVid vid) plain k s = written-kept field.VlanTci (vid + 0x1000) (vid_bits + 0x1000) s.current k
  act-kept sw sub (SetPcp pcp) plain k s = written-kept field.VlanTci (pcp * pcp_unit + 0x1000) (pcp_bits + 0x1000) s.current k

-- ---- two runs of one packet

module _ (o n : Switch) (ports : n.ports ≡ o.ports) (kept b : List ℕ)
    (twins : (table : ℕ) (key : List ℕ) → masked key kept ≡ masked b kept → FoundAlike (winner (o.tables table) key) (winner (n.tables table) key))
    (leave : (table : ℕ) (key : List ℕ) (r : Rule) → winner (o.tables table) key ≡ Some r → list_all (keeps kept) r.actions ≡ true) where
  -- The one is the other, but for visits, and its packet has what it had of the fields that are kept.
  pub record Along (s t : State) : Type 0 where
    pub visits : List ℕ
    pub same : t ≡ beside visits s.lookups_left s
    pub keeps : masked s.current kept ≡ masked b kept

  abbrev SubAlong : (ℕ → State → State) → (ℕ → State → State) → Type 0
  SubAlong sub sub' = (table : ℕ) (s t : State) → Along s t → Along (sub table s) (sub' table t)

  module _ (sub sub' : ℕ → State → State) (along : SubAlong sub sub') where
    plain-along : (x : OfAction) → leads x ≡ false → keeps kept x ≡ true → (s t : State) → Along s t → Along (act o sub x s) (act n sub' x t)
    plain-along x plain k s t h = record {
      visits = h.visits;
      same = ap (act n sub' x) h.same ∙ act-beside h.visits s.lookups_left o n sub sub' ports x plain s
          ∙ ap (λ (left : ℕ). beside h.visits left (act o sub x s)) (sym (act-left o sub x plain s));
      keeps = act-kept kept o sub x plain k s ∙ h.keeps;
    }

    act-along : (x : OfAction) → keeps kept x ≡ true → (s t : State) → Along s t → Along (act o sub x s) (act n sub' x t)
    unfolding act
    act-along (Resubmit table) k s t h = along table s t h
    act-along (Goto table) k s t h = along table s t h
    act-along (Output p) k s t h = plain-along (Output p) refl k s t h
    act-along (OutputField f) k s t h = plain-along (OutputField f) refl k s t h
    act-along InPort k s t h = plain-along InPort refl k s t h
    act-along All k s t h = plain-along All refl k s t h
    act-along Flood k s t h = plain-along Flood refl k s t h
    act-along (Set name value mask) k s t h = plain-along (Set name value mask) refl k s t h
    act-along (Move f g) k s t h = plain-along (Move f g) refl k s t h
    act-along DecTtl k s t h = plain-along DecTtl refl k s t h
    act-along (PushVlan p) k s t h = plain-along (PushVlan p) refl k s t h
    act-along PopVlan k s t h = plain-along PopVlan refl k s t h
    act-along (SetVid p) k s t h = plain-along (SetVid p) refl k s t h
    act-along (SetPcp p) k s t h = plain-along (SetPcp p) refl k s t h

    run-along : (actions : List OfAction) → list_all (keeps kept) actions ≡ true → (s t : State) → Along s t → Along (run o sub actions s) (run n sub' actions t)
    unfolding run
    run-along [] k s t h = h
    run-along (x ∷ actions) k s t h =
        let parts = and_parts (keeps kept x) (list_all (keeps kept) actions) k in
        let one = act-along x parts.0 s t h in
        subst (λ (m : Mode). Along (in_mode (act o sub x s).mode (run o sub actions) (act o sub x s)) (in_mode m (run n sub' actions) (act n sub' x t)))
        (sym (ap (λ (z : State). z.mode) one.same)) (rest (act o sub x s).mode (act o sub x s) (act n sub' x t) one (run-along actions parts.1))
      where
        rest : (m : Mode) (s t : State) → Along s t → ((s t : State) → Along s t → Along (run o sub actions s) (run n sub' actions t))
            → Along (in_mode m (run o sub actions) s) (in_mode m (run n sub' actions) t)
        rest Going s t h then_ = then_ s t h
        rest ListEnded s t h then_ = h
        rest Stopped s t h then_ = h

    follow-along : (w w' : Option Rule) → FoundAlike w w' → ((r : Rule) → w ≡ Some r → list_all (keeps kept) r.actions ≡ true) → (s t : State) → Along s t
        → Along (follow o sub w s) (follow n sub' w' t)
    follow-along None None e k s t h = h
    follow-along None (Some q) e k s t h = absurd e
    follow-along (Some r) None e k s t h = absurd e
    follow-along (Some r) (Some q) e k s t h =
        let begun : Along (visited r s) (visited q t) = record { visits = h.visits ++ q.number ∷ []; same = ap (visited q) h.same; keeps = h.keeps } in
        let x = run-along r.actions (k r refl) (visited r s) (visited q t) begun in
        subst (λ (list : List OfAction). Along (resumed (run o sub r.actions (visited r s))) (resumed (run n sub' list (visited q t)))) e
        (record { visits = x.visits; same = ap resumed x.same; keeps = x.keeps })

    enter-along : (table left : ℕ) (s t : State) → Along s t → Along (enter o sub table left s) (enter n sub' table left t)
    enter-along table zero s t h = record { visits = h.visits; same = ap stopped h.same; keeps = h.keeps }
    enter-along table (suc left) s t h =
        let here : t.current ≡ s.current = ap (λ (z : State). z.current) h.same in
        subst (λ (key : List ℕ). Along (enter o sub table (suc left) s) (follow n sub' (winner (n.tables table) key) (with_lookups_left left t))) (sym here)
        (follow-along (winner (o.tables table) s.current) (winner (n.tables table) s.current) (twins table s.current h.keeps) (leave table s.current)
        (with_lookups_left left s) (with_lookups_left left t) (record { visits = h.visits; same = ap (with_lookups_left left) h.same; keeps = h.keeps }))

  look-along : (depths : ℕ) → SubAlong (look o depths) (look n depths)
  unfolding look
  look-along zero table s t h = record { visits = h.visits; same = ap stopped h.same; keeps = h.keeps }
  look-along (suc depths) table s t h =
      let left : t.lookups_left ≡ s.lookups_left = ap (λ (z : State). z.lookups_left) h.same in
      subst (λ (k : ℕ). Along (enter o (look o depths) table s.lookups_left s) (enter n (look n depths) table k t)) (sym left)
      (enter-along (look o depths) (look n depths) (look-along depths) table s.lookups_left s t h)

  pub lockstep : done o b ≡ done n b
  unfolding pipe last_state
  lockstep =
      let x = look-along (deepest + 1) 0 (start b) (start b) (record { visits = []; same = refl; keeps = refl }) in
      sym (ap (λ (z : State). kept_actions z.mode z.actions) x.same)
