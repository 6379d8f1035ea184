-- What all steps of a translation consult: the bits of the definition.
use Rattle.std.proofs.Common.{◌≡◌, ℕ, zero, suc, ◌-◌, List, [], ◌∷◌, fold, Option, Some, None, refl, sym, ap, ◌∙◌}
use Rattle.std.proofs.lemmas.List.Sums.{fold-append}
use Rattle.spec_actions.specs.declared.action.OfAction.{OfAction}
use Rattle.spec_actions.specs.declared.action.OfAction.TheVariants.{Output, OutputField, InPort, All, Flood, Resubmit, Goto, Set, Move, DecTtl, PushVlan, PopVlan, SetVid, SetPcp}
use Rattle.spec_tables.specs.Rules.{Rule, winner}
use Rattle.spec_xlate.specs.Translation.{Switch, State, Mode, deepest, act, visited, with_lookups_left, look}
use Rattle.spec_xlate.specs.Translation.Mode.{Going, ListEnded, Stopped}
use Rattle.spec_xlate.specs.Lookup.{added, consults}
use Rattle.spec_xlate.specs.Consulted.{act_bits, in_mode_bits, while_going_bits, run_bits, follow_bits, enter_bits, look_bits}
use Rattle.table_laws.proofs.UnionLaws.{added-append}
use Rattle.pipe_model.specs.Events.{Event, act_events, in_mode_events, while_going_events, run_events, follow_events, enter_events, look_events}
use Rattle.xlate_pipeline.specs.Steps.{with_event}

-- The events from a state on consult these bits.
abbrev Consult : (State → List Event) → (State → List (List ℕ)) → Type 0
Consult events bits = (m : List ℕ) (s : State) → fold with_event m (events s) ≡ added m (bits s)

module _ (events : ℕ → State → List Event) (bits : ℕ → State → List (List ℕ)) (same : (table : ℕ) → Consult (events table) (bits table)) where
  act-consults : (a : OfAction) → Consult (act_events events a) (act_bits bits a)
  unfolding act_events act_bits
  act-consults (Output n) m s = refl
  act-consults (OutputField slice) m s = refl
  act-consults InPort m s = refl
  act-consults All m s = refl
  act-consults Flood m s = refl
  act-consults (Resubmit table) m s = same table m s
  act-consults (Goto table) m s = same table m s
  act-consults (Set name value mask) m s = refl
  act-consults (Move source target) m s = refl
  act-consults DecTtl m s = refl
  act-consults (PushVlan tpid) m s = refl
  act-consults PopVlan m s = refl
  act-consults (SetVid vid) m s = refl
  act-consults (SetPcp pcp) m s = refl

in_mode-consults : (events : State → List Event) (bits : State → List (List ℕ)) → Consult events bits → (mode : Mode) → Consult (in_mode_events mode events) (in_mode_bits mode bits)
in_mode-consults events bits same Going m s = same m s
in_mode-consults events bits same ListEnded m s = refl
in_mode-consults events bits same Stopped m s = refl

module _ (sw : Switch) (sub : ℕ → State → State) (events : ℕ → State → List Event) (bits : ℕ → State → List (List ℕ)) (same : (table : ℕ) → Consult (events table) (bits table)) where
  run-consults : (actions : List OfAction) → Consult (run_events sw sub events actions) (run_bits sw sub bits actions)
  unfolding run_events run_bits
  run-consults [] m s = refl
  run-consults (a ∷ actions) m s =
      let next = act sw sub a s in
      let rest = while_going_events (run_events sw sub events actions) next in
      fold-append with_event m (act_events events a s) rest
      ∙ ap (λ (z : List ℕ). fold with_event z rest) (act-consults events bits same a m s)
      ∙ in_mode-consults (run_events sw sub events actions) (run_bits sw sub bits actions) (run-consults actions) next.mode (added m (act_bits bits a s)) next
      ∙ sym (added-append m (act_bits bits a s) (while_going_bits (run_bits sw sub bits actions) next))

  follow-consults : (won : Option Rule) → Consult (follow_events sw sub events won) (follow_bits sw sub bits won)
  follow-consults None m s = refl
  follow-consults (Some r) m s = run-consults r.actions m (visited r s)

  enter-consults : (depth table left : ℕ) → Consult (enter_events sw sub events depth table left) (enter_bits sw sub bits table left)
  enter-consults depth table zero m s = refl
  enter-consults depth table (suc left) m s =
      let looked = consults (sw.tables table) s.current in
      let won = winner (sw.tables table) s.current in
      follow-consults won (added m looked) (with_lookups_left left s)
      ∙ sym (added-append m looked (follow_bits sw sub bits won (with_lookups_left left s)))

-- a lookup and all that it leads to
pub look-consults : (sw : Switch) (depths table : ℕ) → Consult (look_events sw depths table) (look_bits sw depths table)
unfolding look_events look_bits
look-consults sw zero table m s = refl
look-consults sw (suc depths) table m s = enter-consults sw (look sw depths) (look_events sw depths) (look_bits sw depths) (look-consults sw depths) (deepest - depths) table s.lookups_left m s
