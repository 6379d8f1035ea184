-- The rules that win lookups are live.
use Rattle.std.proofs.Common.{◌≡◌, ℕ, zero, suc, ◌-◌, List, [], ◌∷◌, ◌++◌, Option, Some, None, IsTrue, refl, sym, ◌+◌, ◌<◌, ◌≤◌, length, arith}
use Rattle.std.specs.Prelude.{All, IfSome}
use Rattle.std.proofs.lemmas.List.Elements.{All-cons, All-append}
use Rattle.std.specs.Option.{option_map}
use Rattle.spec_actions.specs.declared.action.OfAction.{OfAction}
use Rattle.spec_actions.specs.declared.action.OfAction.TheVariants.{Output, OutputField, InPort, All as ToAll, Flood, Resubmit, Goto, Set, Move, DecTtl, PushVlan, PopVlan, SetVid, SetPcp}
use Rattle.spec_tables.specs.Rules.{Rule, rules_in, winner}
use Rattle.spec_tables.specs.Live.{is_live}
use Rattle.spec_xlate.specs.Translation.{Switch, State, Mode, deepest, switch_of, act, visited, with_lookups_left, look, start}
use Rattle.spec_xlate.specs.Translation.Mode.{Going, ListEnded, Stopped}
use Rattle.pipe_model.specs.Runnable.{AreRunnable}
use Rattle.pipe_model.proofs.Winners.{won_by_number}
use Rattle.spec_tools.specs.declared.lookup.Lookup.{Lookup}
use Rattle.spec_tools.specs.Paths.{looked_up, act_path, in_mode_path, while_going_path, run_path, follow_path, enter_path, look_path, path_of}
use Rattle.ofp_trace.specs.Winners.{HasLiveWinner}

module _ (rules : List Rule) (ports : List ℕ) (runnable : AreRunnable rules) where
  abbrev sw : Switch
  sw = switch_of rules ports

  abbrev Live : List Lookup → Type 0
  Live path = All (HasLiveWinner rules) path

  none : Live []
  none k d h = absurd (omega arith)

  won_live : (table : ℕ) (key : List ℕ) → IfSome (option_map (λ (r : Rule). r.number) (winner (rules_in table rules) key)) (λ number. IsTrue (is_live number rules))
  won_live table key = by_winner (option_map (λ (r : Rule). r.number) (winner (rules_in table rules) key)) refl
    where
      by_winner : (won : Option ℕ) → option_map (λ (r : Rule). r.number) (winner (rules_in table rules) key) ≡ won → IfSome won (λ number. IsTrue (is_live number rules))
      by_winner None is = tt
      by_winner (Some number) is = (won_by_number rules table key number runnable (sym is)).live

  module _ (sub : ℕ → State → State) (paths : ℕ → State → List Lookup) (live : (table : ℕ) (s : State) → Live (paths table s)) where
    act-live : (a : OfAction) (s : State) → Live (act_path paths a s)
    unfolding act_path
    act-live (Output n) s = none
    act-live (OutputField slice) s = none
    act-live InPort s = none
    act-live ToAll s = none
    act-live Flood s = none
    act-live (Resubmit table) s = live table s
    act-live (Goto table) s = live table s
    act-live (Set name value mask) s = none
    act-live (Move source target) s = none
    act-live DecTtl s = none
    act-live (PushVlan tpid) s = none
    act-live PopVlan s = none
    act-live (SetVid vid) s = none
    act-live (SetPcp pcp) s = none

    in_mode-live : (path : State → List Lookup) → ((s : State) → Live (path s)) → (mode : Mode) (s : State) → Live (in_mode_path mode path s)
    in_mode-live path h Going s = h s
    in_mode-live path h ListEnded s = none
    in_mode-live path h Stopped s = none

    run-live : (actions : List OfAction) (s : State) → Live (run_path sw sub paths actions s)
    unfolding run_path
    run-live [] s = none
    run-live (a ∷ actions) s =
        All-append (HasLiveWinner rules) (act_path paths a s) (while_going_path (run_path sw sub paths actions) (act sw sub a s)) (act-live a s)
        (in_mode-live (run_path sw sub paths actions) (run-live actions) (act sw sub a s).mode (act sw sub a s))

    follow-live : (won : Option Rule) (s : State) → Live (follow_path sw sub paths won s)
    follow-live None s = none
    follow-live (Some r) s = run-live r.actions (visited r s)

    enter-live : (depth table left : ℕ) (s : State) → Live (enter_path sw sub paths depth table left s)
    enter-live depth table zero s = none
    enter-live depth table (suc left) s =
        let won = winner (rules_in table rules) s.current in
        All-cons (HasLiveWinner rules) (looked_up depth table won) (follow_path sw sub paths won (with_lookups_left left s))
        (won_live table s.current) (follow-live won (with_lookups_left left s))

  look-live : (depths table : ℕ) (s : State) → Live (look_path sw depths table s)
  unfolding look_path
  look-live zero table s = none
  look-live (suc depths) table s = enter-live (look sw depths) (look_path sw depths) (look-live depths) (deepest - depths) table s.lookups_left s

  pub path_live : (key : List ℕ) → All (HasLiveWinner rules) (path_of sw key)
  unfolding path_of
  path_live key = look-live 65 0 (start key)
