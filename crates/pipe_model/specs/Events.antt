-- What a translation does step by step, in the order of its states: what whoever watches it is told.
use Rattle.std.specs.Prelude.{ℕ, zero, suc, ◌+◌, ◌-◌, List, [], ◌∷◌, ◌++◌, Option, Some, None}
use Rattle.spec_actions.specs.declared.action.OfAction.{OfAction}
use Rattle.spec_actions.specs.declared.action.OfAction.TheVariants.{Output, OutputField, InPort, All, Flood, Resubmit, Goto, Set, Move, DecTtl, PushVlan, PopVlan, SetVid, SetPcp}
use Rattle.spec_tables.specs.Rules.{Rule, winner}
use Rattle.spec_xlate.specs.Translation.{Switch, State, Mode, deepest, act, visited, with_lookups_left, look, start}
use Rattle.spec_xlate.specs.Translation.Mode.{Going, ListEnded, Stopped}

-- a lookup at a depth, that of the first being 0, for a key among the rules of a table, or an action on a packet of a key
-- that leads to no lookup
pub data Event : Type 0 where
  Looked : (depth table : ℕ) → (rules : List Rule) → (key : List ℕ) → Event
  Acted : (action : OfAction) → (key : List ℕ) → Event

-- what happens in one action; sub is what happens in a lookup in a table, one deeper than the action
unfoldable pub act_events : (ℕ → State → List Event) → OfAction → State → List Event
act_events sub (Output n) s = Acted (Output n) s.current ∷ []
act_events sub (OutputField slice) s = Acted (OutputField slice) s.current ∷ []
act_events sub InPort s = Acted InPort s.current ∷ []
act_events sub All s = Acted All s.current ∷ []
act_events sub Flood s = Acted Flood s.current ∷ []
act_events sub (Resubmit table) s = sub table s
act_events sub (Goto table) s = sub table s
act_events sub (Set name value mask) s = Acted (Set name value mask) s.current ∷ []
act_events sub (Move source target) s = Acted (Move source target) s.current ∷ []
act_events sub DecTtl s = Acted DecTtl s.current ∷ []
act_events sub (PushVlan tpid) s = Acted (PushVlan tpid) s.current ∷ []
act_events sub PopVlan s = Acted PopVlan s.current ∷ []
act_events sub (SetVid vid) s = Acted (SetVid vid) s.current ∷ []
act_events sub (SetPcp pcp) s = Acted (SetPcp pcp) s.current ∷ []

-- what happens from a state on, where the list of actions goes on
abbrev pub in_mode_events : Mode → (State → List Event) → State → List Event
in_mode_events Going rest s = rest s
in_mode_events ListEnded rest s = []
in_mode_events Stopped rest s = []

abbrev pub while_going_events : (State → List Event) → State → List Event
while_going_events rest s = in_mode_events s.mode rest s

-- what happens in a list of actions
unfoldable pub run_events : Switch → (ℕ → State → State) → (ℕ → State → List Event) → List OfAction → State → List Event
run_events sw sub events [] s = []
run_events sw sub events (a ∷ actions) s = act_events events a s ++ while_going_events (run_events sw sub events actions) (act sw sub a s)

abbrev pub follow_events : Switch → (ℕ → State → State) → (ℕ → State → List Event) → Option Rule → State → List Event
follow_events sw sub events None s = []
follow_events sw sub events (Some r) s = run_events sw sub events r.actions (visited r s)

abbrev pub enter_events : Switch → (ℕ → State → State) → (ℕ → State → List Event) → ℕ → ℕ → ℕ → State → List Event
enter_events sw sub events depth table zero s = []
enter_events sw sub events depth table (suc n) s =
    Looked depth table (sw.tables table) s.current ∷ follow_events sw sub events (winner (sw.tables table) s.current) (with_lookups_left n s)

-- what happens in a lookup at a depth below which so many are left, and in all that it leads to
unfoldable pub look_events : Switch → ℕ → ℕ → State → List Event
look_events sw zero table s = []
look_events sw (suc depths) table s = enter_events sw (look sw depths) (look_events sw depths) (deepest - depths) table s.lookups_left s

-- what happens in a list of actions below which so many depths are left
abbrev pub events_at : Switch → ℕ → List OfAction → State → List Event
events_at sw depths actions s = run_events sw (look sw depths) (look_events sw depths) actions s

-- what happens in the translation of a packet of this key
unfoldable pub events_of : Switch → List ℕ → List Event
events_of sw key = look_events sw (deepest + 1) 0 (start key)
