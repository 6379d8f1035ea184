-- A translation has at most 128 datapath actions and 512 visits, each of a rule that a lookup found.
use Rattle.std.proofs.Common.{◌≡◌, ℕ, zero, suc, ◌+◌, ◌*◌, ◌^◌, ◌≤◌, Bool, true, false, ◌==◌, nat_le, if◌then◌else◌, List, [], ◌∷◌, ◌++◌, map, length, Option, Some, None, All as Each, ◌⊎◌, inl, inr, refl, sym, subst, arith, length-append}
use Rattle.std.proofs.lemmas.Bool.{eqb-false}
use Rattle.spec_keys.specs.declared.field_id.FieldId.TheVariants as field
use Rattle.spec_keys.specs.Keys.{value_of}
use Rattle.spec_actions.specs.declared.named_field.NamedField.{NamedField}
use Rattle.spec_actions.specs.declared.named_field.Prerequisite.TheVariants as needs
use Rattle.spec_actions.specs.declared.action.OfAction.{OfAction}
use Rattle.spec_actions.specs.declared.action.OfAction.TheVariants.{Output, OutputField, InPort, All, Flood, Resubmit, Goto, Set, Move, DecTtl, PushVlan, PopVlan, SetVid, SetPcp}
use Rattle.spec_actions.specs.declared.action.DpAction.{DpAction}
use Rattle.spec_actions.specs.declared.action.DpAction.TheVariants as datapath
use Rattle.spec_actions.specs.Named.{named}
use Rattle.spec_tables.specs.Rules.{Rule, winner}
use Rattle.spec_xlate.specs.Tags.{is_full}
use Rattle.spec_xlate.specs.Needs.{is_met}
use Rattle.spec_xlate.specs.Commit.{commit}
use Rattle.spec_xlate.specs.Translation.{Switch, State, Mode, deepest, action_limit, lookup_limit, stopped, emit, emit_all, committed, in_port_of, is_other_port, other_ports, output, output_all, slice_bits, slice_of, write, lower_ttl, act, in_mode, run, visited, follow, with_lookups_left, enter, look, start, last_state, kept, pipe}
use Rattle.spec_xlate.specs.Translation.Mode.{Going, ListEnded, Stopped}
use Rattle.table_laws.proofs.MemberLaws.{Among, Among-append, All_from-Among}

-- The translation so far keeps to the limits, and each number of a rule that it visited has a property.
record IsBounded (P : ℕ → Type 0) (s : State) : Type 0 where
  actions : length s.actions ≤ action_limit
  visits : length s.visits + s.lookups_left ≤ lookup_limit
  each : (n : ℕ) → Among n s.visits → P n

module _ (sw : Switch) (P : ℕ → Type 0)
    (found : (table : ℕ) (key : List ℕ) (r : Rule) → winner (sw.tables table) key ≡ Some r → P r.number) where
  as_bounded : (s t : State) → t.actions ≡ s.actions → t.visits ≡ s.visits → t.lookups_left ≡ s.lookups_left → IsBounded P s → IsBounded P t
  as_bounded s t a v l h =
      record { actions = rw a h.actions; visits = rw (v, l) h.visits; each = λ n m. h.each n (subst (λ (ns : List ℕ). Among n ns) v m) }

  if-bounded : (t : Bool) (s s' : State) → IsBounded P s → IsBounded P s' → IsBounded P (if t then s else s')
  if-bounded true s s' h k = h
  if-bounded false s s' h k = k

  emit-bounded : (x : DpAction) (s : State) → IsBounded P s → IsBounded P (emit x s)
  unfolding emit
  emit-bounded x s h = at (length s.actions == action_limit) refl
    where
      at : (t : Bool) → (length s.actions == action_limit) ≡ t → IsBounded P (if t then stopped s else record s { actions = s.actions ++ x ∷ [] })
      at true e = record { actions = h.actions; visits = h.visits; each = h.each }
      at false e =
          let longer = length-append s.actions (x ∷ []) in
          let room = eqb-false (length s.actions) action_limit e in
          let few = h.actions in
          record { actions = grind (arith, longer, room, few); visits = h.visits; each = h.each }

  emit_all-bounded : (xs : List DpAction) (s : State) → IsBounded P s → IsBounded P (emit_all xs s)
  unfolding emit_all
  emit_all-bounded [] s h = h
  emit_all-bounded (x ∷ xs) s h = emit_all-bounded xs (emit x s) (emit-bounded x s h)

  committed-bounded : (s : State) → IsBounded P s → IsBounded P (committed s)
  unfolding committed
  committed-bounded s h = as_bounded (emit_all (commit s.base s.current) s) _ refl refl refl (emit_all-bounded (commit s.base s.current) s h)

  output-bounded : (n : ℕ) (s : State) → IsBounded P s → IsBounded P (output sw n s)
  unfolding output
  output-bounded n s h = if-bounded (is_other_port sw s.current n) _ _ (emit-bounded (datapath.Output n) _ (committed-bounded s h)) h

  output_all-bounded : (ps : List ℕ) (s : State) → IsBounded P s → IsBounded P (output_all ps s)
  unfolding output_all
  output_all-bounded [] s h = h
  output_all-bounded (p ∷ ps) s h = emit_all-bounded (map datapath.Output (p ∷ ps)) _ (committed-bounded s h)

  write-bounded : (name : NamedField) (v bits : ℕ) (s : State) → IsBounded P s → IsBounded P (write name v bits s)
  unfolding write
  write-bounded name v bits s h = if-bounded (is_met (named name).write_needs s.current) _ _ (as_bounded s _ refl refl refl h) h

  unfoldable LookIsBounded : (ℕ → State → State) → Type 0
  LookIsBounded sub = (table : ℕ) (s : State) → IsBounded P s → IsBounded P (sub table s)

  act-bounded : (sub : ℕ → State → State) → LookIsBounded sub → (action : OfAction) (s : State) → IsBounded P s → IsBounded P (act sw sub action s)
  unfolding act LookIsBounded
  act-bounded sub keeps (Output n) s h = output-bounded n s h
  act-bounded sub keeps (OutputField slice) s h = output-bounded (slice_of s.current slice) s h
  act-bounded sub keeps InPort s h = emit-bounded (datapath.Output (in_port_of s.current)) _ (committed-bounded s h)
  act-bounded sub keeps All s h = output_all-bounded (other_ports sw s.current) s h
  act-bounded sub keeps Flood s h = output_all-bounded (other_ports sw s.current) s h
  act-bounded sub keeps (Resubmit table) s h = keeps table s h
  act-bounded sub keeps (Goto table) s h = keeps table s h
  act-bounded sub keeps (Set name value mask) s h = write-bounded name value mask s h
  act-bounded sub keeps (Move source target) s h = write-bounded target.name (slice_of s.current source * 2 ^ target.low) (slice_bits target) s h
  act-bounded sub keeps DecTtl s h =
      if-bounded (is_met needs.Ip s.current) (lower_ttl s) s
      (if-bounded (nat_le (value_of s.current field.NwTtl) 1) _ _ (as_bounded s _ refl refl refl h) (as_bounded s _ refl refl refl h)) h
  act-bounded sub keeps (PushVlan tpid) s h = if-bounded (is_full s.current) _ _ (as_bounded s _ refl refl refl h) (as_bounded s _ refl refl refl h)
  act-bounded sub keeps PopVlan s h = as_bounded s _ refl refl refl h
  act-bounded sub keeps (SetVid vid) s h = as_bounded s _ refl refl refl h
  act-bounded sub keeps (SetPcp pcp) s h = as_bounded s _ refl refl refl h

  in_mode-bounded : (m : Mode) (rest : State → State) (s : State) → IsBounded P (rest s) → IsBounded P s → IsBounded P (in_mode m rest s)
  in_mode-bounded Going rest s k h = k
  in_mode-bounded ListEnded rest s k h = h
  in_mode-bounded Stopped rest s k h = h

  run-bounded : (sub : ℕ → State → State) → LookIsBounded sub → (actions : List OfAction) (s : State) → IsBounded P s → IsBounded P (run sw sub actions s)
  unfolding run
  run-bounded sub keeps [] s h = h
  run-bounded sub keeps (x ∷ actions) s h =
      let one = act-bounded sub keeps x s h in
      in_mode-bounded (act sw sub x s).mode (run sw sub actions) (act sw sub x s) (run-bounded sub keeps actions (act sw sub x s) one) one

  -- one more visit, of a rule that has the property
  each-visited : (r : Rule) (s : State) → ((n : ℕ) → Among n s.visits → P n) → P r.number → (n : ℕ) → Among n (visited r s).visits → P n
  each-visited r s each one n m = at (Among-append n s.visits (r.number ∷ []) m)
    where
      at : Among n s.visits ⊎ Among n (r.number ∷ []) → P n
      at (inl m) = each n m
      at (inr (inl e)) = subst P (sym e) one
      at (inr (inr f)) = absurd f

  -- a lookup that counts one less leaves room for the visit of the rule that it finds
  follow-bounded : (sub : ℕ → State → State) → LookIsBounded sub → (w : Option Rule) → ((r : Rule) → w ≡ Some r → P r.number) → (s : State)
      → length s.actions ≤ action_limit → length s.visits + s.lookups_left + 1 ≤ lookup_limit → ((n : ℕ) → Among n s.visits → P n)
      → IsBounded P (follow sw sub w s)
  follow-bounded sub keeps None is s a v each = record { actions = a; visits = omega (arith, v); each = each }
  follow-bounded sub keeps (Some r) is s a v each =
      let room : length (visited r s).visits + s.lookups_left ≤ lookup_limit = omega (arith, v, length-append s.visits (r.number ∷ [])) in
      as_bounded (run sw sub r.actions (visited r s)) _ refl refl refl
      (run-bounded sub keeps r.actions (visited r s) (record { actions = a; visits = room; each = each-visited r s each (is r refl) }))

  enter-bounded : (sub : ℕ → State → State) → LookIsBounded sub → (table n : ℕ) (s : State) → IsBounded P s → s.lookups_left ≡ n
      → IsBounded P (enter sw sub table n s)
  enter-bounded sub keeps table zero s h e = record { actions = h.actions; visits = h.visits; each = h.each }
  enter-bounded sub keeps table (suc n) s h e =
      follow-bounded sub keeps (winner (sw.tables table) s.current) (found table s.current) (with_lookups_left n s)
      h.actions (omega (arith, h.visits, e)) h.each

  look-bounded : (depths : ℕ) → LookIsBounded (look sw depths)
  unfolding look LookIsBounded
  look-bounded zero = λ table s h. record { actions = h.actions; visits = h.visits; each = h.each }
  look-bounded (suc depths) = λ table s h. enter-bounded (look sw depths) (look-bounded depths) table s.lookups_left s h refl

  last-bounded : (key : List ℕ) → IsBounded P (last_state sw key)
  unfolding last_state LookIsBounded
  last-bounded key = look-bounded (deepest + 1) 0 (start key) (record { actions = omega arith; visits = omega arith; each = λ n m. absurd m })

-- ---- translations

kept_le : (m : Mode) (xs : List DpAction) (n : ℕ) → length xs ≤ n → length (kept m xs) ≤ n
kept_le Going xs n h = h
kept_le ListEnded xs n h = h
kept_le Stopped xs n h = omega arith

-- whatever rules are found
of_any_rules : (sw : Switch) (key : List ℕ) → IsBounded (λ n. Unit {0}) (last_state sw key)
of_any_rules sw key = last-bounded sw (λ n. Unit {0}) (λ table key r e. tt) key

pub few_actions : (sw : Switch) (key : List ℕ) → length (pipe sw key).actions ≤ action_limit
unfolding pipe
few_actions sw key = kept_le (last_state sw key).mode (last_state sw key).actions action_limit (of_any_rules sw key).actions

pub few_visits : (sw : Switch) (key : List ℕ) → length (pipe sw key).visits ≤ lookup_limit
unfolding pipe
few_visits sw key = omega (arith, (of_any_rules sw key).visits)

-- what the number of every rule has that a lookup may find, each visit has
pub each_visit : (sw : Switch) (P : ℕ → Type 0)
    → ((table : ℕ) (key : List ℕ) (r : Rule) → winner (sw.tables table) key ≡ Some r → P r.number)
    → (key : List ℕ) → Each P (pipe sw key).visits
unfolding pipe
each_visit sw P found key = All_from-Among P (last_state sw key).visits (last-bounded sw P found key).each
