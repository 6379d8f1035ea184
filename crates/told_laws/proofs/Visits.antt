-- The rules found from a state on are what the translation adds to its visits.
use Rattle.std.proofs.Common.{◌≡◌, ℕ, zero, suc, ◌+◌, ◌-◌, Bool, true, false, if◌then◌else◌, List, [], ◌∷◌, ◌++◌, Option, Some, None, refl, sym, ap, ◌∙◌, append_assoc}
use Rattle.std.specs.List.{filter_map}
use Rattle.std.proofs.lemmas.List.{append-nil}
use Rattle.std.proofs.lemmas.List.Elements.{filter_map-append}
use Rattle.spec_actions.specs.declared.named_field.NamedField.{NamedField}
use Rattle.spec_actions.specs.declared.action.OfAction.{OfAction}
use Rattle.spec_actions.specs.declared.action.OfAction.TheVariants.{Output, OutputField, InPort, All, Flood, Resubmit, Goto, Set, Move, DecTtl, PushVlan, PopVlan, SetVid, SetPcp}
use Rattle.spec_actions.specs.declared.action.DpAction.{DpAction}
use Rattle.spec_tables.specs.Rules.{Rule, winner}
use Rattle.spec_xlate.specs.Translation.{Switch, State, Mode, deepest, emit, emit_all, committed, output, output_all, write, lower_ttl, act, in_mode, run, visited, follow, with_lookups_left, enter, look, start, last_state, pipe}
use Rattle.spec_xlate.specs.Translation.Mode.{Going, ListEnded, Stopped}
use Rattle.spec_tools.specs.declared.lookup.Lookup.{Lookup}
use Rattle.spec_tools.specs.Paths.{looked_up, act_path, in_mode_path, while_going_path, run_path, follow_path, enter_path, look_path, path_of}

-- ---- no action but a lookup visits a rule

either : (t : Bool) (x y : State) (visits : List ℕ) → x.visits ≡ visits → y.visits ≡ visits → (if t then x else y).visits ≡ visits
either true x y visits e f = e
either false x y visits e f = f

emit-visits : (a : DpAction) (s : State) → (emit a s).visits ≡ s.visits
unfolding emit
emit-visits a s = either _ _ _ s.visits refl refl

emit_all-visits : (actions : List DpAction) (s : State) → (emit_all actions s).visits ≡ s.visits
unfolding emit_all
emit_all-visits [] s = refl
emit_all-visits (a ∷ actions) s = emit_all-visits actions (emit a s) ∙ emit-visits a s

committed-visits : (s : State) → (committed s).visits ≡ s.visits
unfolding committed
committed-visits s = emit_all-visits _ s

output-visits : (sw : Switch) (n : ℕ) (s : State) → (output sw n s).visits ≡ s.visits
unfolding output
output-visits sw n s = either _ _ _ s.visits (emit-visits _ (committed s) ∙ committed-visits s) refl

output_all-visits : (ports : List ℕ) (s : State) → (output_all ports s).visits ≡ s.visits
unfolding output_all
output_all-visits [] s = refl
output_all-visits (p ∷ ports) s = emit_all-visits _ (committed s) ∙ committed-visits s

write-visits : (name : NamedField) (value bits : ℕ) (s : State) → (write name value bits s).visits ≡ s.visits
unfolding write
write-visits name value bits s = either _ _ _ s.visits refl refl

lower_ttl-visits : (s : State) → (lower_ttl s).visits ≡ s.visits
lower_ttl-visits s = either _ _ _ s.visits refl refl

-- ---- rules found, and visits

abbrev rules_found : List Lookup → List ℕ
rules_found lookups = filter_map (λ (l : Lookup). l.rule) lookups

-- A step adds to the visits the rules that these lookups find.
abbrev Visits : (State → List Lookup) → (State → State) → Type 0
Visits lookups step = (s : State) → (step s).visits ≡ s.visits ++ rules_found (lookups s)

none_more : (before after : List ℕ) → after ≡ before → after ≡ before ++ []
none_more before after same = same ∙ sym (append-nil before)

module _ (sw : Switch) (sub : ℕ → State → State) (lookups : ℕ → State → List Lookup) (visits : (table : ℕ) → Visits (lookups table) (sub table)) where
  act-visits : (a : OfAction) → Visits (act_path lookups a) (act sw sub a)
  unfolding act_path act
  act-visits (Output n) s = none_more s.visits _ (output-visits sw n s)
  act-visits (OutputField slice) s = none_more s.visits _ (output-visits sw _ s)
  act-visits InPort s = none_more s.visits _ (emit-visits _ (committed s) ∙ committed-visits s)
  act-visits All s = none_more s.visits _ (output_all-visits _ s)
  act-visits Flood s = none_more s.visits _ (output_all-visits _ s)
  act-visits (Resubmit table) s = visits table s
  act-visits (Goto table) s = visits table s
  act-visits (Set name value mask) s = none_more s.visits _ (write-visits name value mask s)
  act-visits (Move source target) s = none_more s.visits _ (write-visits target.name _ _ s)
  act-visits DecTtl s = none_more s.visits _ (either _ _ _ s.visits (lower_ttl-visits s) refl)
  act-visits (PushVlan tpid) s = none_more s.visits _ (either _ _ _ s.visits refl refl)
  act-visits PopVlan s = none_more s.visits _ refl
  act-visits (SetVid vid) s = none_more s.visits _ refl
  act-visits (SetPcp pcp) s = none_more s.visits _ refl

  in_mode-visits : (path : State → List Lookup) (rest : State → State) → Visits path rest
      → (mode : Mode) → Visits (in_mode_path mode path) (in_mode mode rest)
  in_mode-visits path rest more Going s = more s
  in_mode-visits path rest more ListEnded s = none_more s.visits _ refl
  in_mode-visits path rest more Stopped s = none_more s.visits _ refl

  run-visits : (actions : List OfAction) → Visits (run_path sw sub lookups actions) (run sw sub actions)
  unfolding run_path run
  run-visits [] s = none_more s.visits _ refl
  run-visits (a ∷ actions) s =
      let next = act sw sub a s in
      let first = act_path lookups a s in
      let others = while_going_path (run_path sw sub lookups actions) next in
      in_mode-visits (run_path sw sub lookups actions) (run sw sub actions) (run-visits actions) next.mode next
      ∙ ap (λ (z : List ℕ). z ++ rules_found others) (act-visits a s)
      ∙ append_assoc s.visits (rules_found first) (rules_found others)
      ∙ ap (λ (z : List ℕ). s.visits ++ z) (sym (filter_map-append (λ (l : Lookup). l.rule) first others))

  -- a lookup stands before those that it leads to, with the rule that it found or none
  follow-visits : (depth table : ℕ) (won : Option Rule) → Visits (λ s. looked_up depth table won ∷ follow_path sw sub lookups won s) (follow sw sub won)
  follow-visits depth table None s = none_more s.visits _ refl
  follow-visits depth table (Some r) s =
      run-visits r.actions (visited r s)
      ∙ append_assoc s.visits (r.number ∷ []) (rules_found (run_path sw sub lookups r.actions (visited r s)))

  enter-visits : (depth table left : ℕ) → Visits (enter_path sw sub lookups depth table left) (enter sw sub table left)
  enter-visits depth table zero s = none_more s.visits _ refl
  enter-visits depth table (suc n) s = follow-visits depth table (winner (sw.tables table) s.current) (with_lookups_left n s)

look-visits : (sw : Switch) (depths table : ℕ) → Visits (look_path sw depths table) (look sw depths table)
unfolding look_path look
look-visits sw zero table s = none_more s.visits _ refl
look-visits sw (suc depths) table s =
    enter-visits sw (look sw depths) (look_path sw depths) (look-visits sw depths) (deepest - depths) table s.lookups_left s

-- no rule is visited before the first lookup
pub found-visits : (sw : Switch) (key : List ℕ) → filter_map (λ (l : Lookup). l.rule) (path_of sw key) ≡ (pipe sw key).visits
unfolding path_of pipe last_state
found-visits sw key = sym (look-visits sw (deepest + 1) 0 (start key))
