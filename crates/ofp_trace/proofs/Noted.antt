-- What is noted of all events of a translation: its lookups.
use Rattle.std.proofs.Common.{◌≡◌, ℕ, zero, suc, ◌+◌, ◌-◌, ◌<◌, ◌≤◌, Bool, true, nat_lt, if◌then◌else◌, List, [], ◌∷◌, ◌++◌, length, fold, Option, Some, None, refl, sym, ap, ap₂, ◌∙◌, subst, arith, append_assoc, length-append}
use Rattle.std.specs.List.{flat_map}
use Rattle.std.proofs.lemmas.Bool.{lt-ltb}
use Rattle.std.proofs.lemmas.Grind.{flat_map-append}
use Rattle.std.proofs.lemmas.List.{append-nil}
use Rattle.spec_actions.specs.declared.action.OfAction.{OfAction}
use Rattle.spec_actions.specs.declared.action.OfAction.TheVariants.{Output, OutputField, InPort, All, Flood, Resubmit, Goto, Set, Move, DecTtl, PushVlan, PopVlan, SetVid, SetPcp}
use Rattle.spec_tables.specs.Rules.{Rule, winner}
use Rattle.spec_xlate.specs.Translation.{Switch, State, Mode, deepest, lookup_limit, act, visited, with_lookups_left, look, start}
use Rattle.spec_xlate.specs.Translation.Mode.{Going, ListEnded, Stopped}
use Rattle.pipe_model.specs.Events.{Event, act_events, in_mode_events, while_going_events, run_events, follow_events, enter_events, look_events, events_of}
use Rattle.pipe_model.specs.Events.Event.{Looked, Acted}
use Rattle.spec_tools.specs.declared.lookup.Lookup.{Lookup}
use Rattle.spec_tools.specs.Paths.{looked_up, act_path, in_mode_path, while_going_path, run_path, follow_path, enter_path, look_path, path_of}
use Rattle.ofp_trace.specs.Notes.{with_lookup, with_event}
use Rattle.ofp_trace.proofs.FewLookups.{few_lookups}

-- the lookup of an event, if it is one
abbrev lookup_of : Event → List Lookup
lookup_of (Looked depth table rules key) = looked_up depth table (winner rules key) ∷ []
lookup_of (Acted action key) = []

abbrev lookups_of : List Event → List Lookup
lookups_of events = flat_map lookup_of events

-- ---- the lookups of events are those of the definition

-- The events from a state on have these lookups.
abbrev Have : (State → List Event) → (State → List Lookup) → Type 0
Have events path = (s : State) → lookups_of (events s) ≡ path s

module _ (events : ℕ → State → List Event) (paths : ℕ → State → List Lookup) (same : (table : ℕ) → Have (events table) (paths table)) where
  act-have : (a : OfAction) → Have (act_events events a) (act_path paths a)
  unfolding act_events act_path
  act-have (Output n) s = refl
  act-have (OutputField slice) s = refl
  act-have InPort s = refl
  act-have All s = refl
  act-have Flood s = refl
  act-have (Resubmit table) s = same table s
  act-have (Goto table) s = same table s
  act-have (Set name value mask) s = refl
  act-have (Move source target) s = refl
  act-have DecTtl s = refl
  act-have (PushVlan tpid) s = refl
  act-have PopVlan s = refl
  act-have (SetVid vid) s = refl
  act-have (SetPcp pcp) s = refl

in_mode-have : (events : State → List Event) (path : State → List Lookup) → Have events path → (mode : Mode) → Have (in_mode_events mode events) (in_mode_path mode path)
in_mode-have events path same Going s = same s
in_mode-have events path same ListEnded s = refl
in_mode-have events path same Stopped s = refl

module _ (sw : Switch) (sub : ℕ → State → State) (events : ℕ → State → List Event) (paths : ℕ → State → List Lookup) (same : (table : ℕ) → Have (events table) (paths table)) where
  run-have : (actions : List OfAction) → Have (run_events sw sub events actions) (run_path sw sub paths actions)
  unfolding run_events run_path
  run-have [] s = refl
  run-have (a ∷ actions) s =
      let next = act sw sub a s in
      flat_map-append lookup_of (act_events events a s) (while_going_events (run_events sw sub events actions) next)
      ∙ ap₂ (λ (x y : List Lookup). x ++ y) (act-have events paths same a s)
      (in_mode-have (run_events sw sub events actions) (run_path sw sub paths actions) (run-have actions) next.mode next)

  follow-have : (won : Option Rule) → Have (follow_events sw sub events won) (follow_path sw sub paths won)
  follow-have None s = refl
  follow-have (Some r) s = run-have r.actions (visited r s)

  enter-have : (depth table left : ℕ) → Have (enter_events sw sub events depth table left) (enter_path sw sub paths depth table left)
  enter-have depth table zero s = refl
  enter-have depth table (suc left) s =
      let won = winner (sw.tables table) s.current in
      ap (λ (z : List Lookup). looked_up depth table won ∷ z) (follow-have won (with_lookups_left left s))

look-have : (sw : Switch) (depths table : ℕ) → Have (look_events sw depths table) (look_path sw depths table)
unfolding look_events look_path
look-have sw zero table s = refl
look-have sw (suc depths) table s = enter-have sw (look sw depths) (look_events sw depths) (look_path sw depths) (look-have sw depths) (deepest - depths) table s.lookups_left s

-- ---- all of them are noted

with_lookup-kept : (before : List Lookup) (l : Lookup) → length before < lookup_limit → with_lookup before l ≡ before ++ l ∷ []
with_lookup-kept before l room = ap (λ (t : Bool). if t then before ++ l ∷ [] else before) (lt-ltb (length before) lookup_limit room)

noted-all : (events : List Event) (before : List Lookup) → length before + length (lookups_of events) ≤ lookup_limit → fold with_event before events ≡ before ++ lookups_of events
noted-all [] before few = sym (append-nil before)
noted-all (Looked depth table rules key ∷ events) before few =
    let l = looked_up depth table (winner rules key) in
    ap (λ (z : List Lookup). fold with_event z events) (with_lookup-kept before l (room (lookups_of events) few))
    ∙ noted-all events (before ++ l ∷ []) (fewer l (lookups_of events) few)
    ∙ append_assoc before (l ∷ []) (lookups_of events)
  where
    room : (others : List Lookup) → length before + suc (length others) ≤ lookup_limit → length before < lookup_limit
    room others h = omega (arith, h)

    fewer : (l : Lookup) (others : List Lookup) → length before + suc (length others) ≤ lookup_limit → length (before ++ l ∷ []) + length others ≤ lookup_limit
    fewer l others h = omega (arith, h, length-append before (l ∷ []))
noted-all (Acted action key ∷ events) before few = noted-all events before few

pub path-noted : (sw : Switch) (key : List ℕ) → fold with_event [] (events_of sw key) ≡ path_of sw key
unfolding events_of path_of
path-noted sw key =
    let same = look-have sw 65 0 (start key) in
    noted-all (look_events sw 65 0 (start key)) []
    (subst (λ (z : List Lookup). length {A = Lookup} [] + length z ≤ lookup_limit) (sym same) (within (length (look_path sw 65 0 (start key))) (few_lookups sw key)))
    ∙ same
  where
    within : (n : ℕ) → n ≤ lookup_limit → 0 + n ≤ lookup_limit
    within n h = omega (arith, h)
