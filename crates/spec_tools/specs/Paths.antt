-- The way of a packet through the tables: the lookups that its translation makes, and its key where that ends. Both are
-- told along the states of the plain translation (`spec_xlate`), whose rules are not said again.
use Rattle.std.specs.Prelude.{ℕ, zero, suc, ◌+◌, ◌-◌, List, [], ◌∷◌, ◌++◌, Option, Some, None}
use Rattle.std.specs.Option.{option_map}
use Rattle.spec_actions.specs.declared.action.OfAction.{OfAction}
use Rattle.spec_actions.specs.declared.action.OfAction.TheVariants.{Output, OutputField, InPort, All, Flood, Resubmit, Goto, Set, Move, DecTtl, PushVlan, PopVlan, SetVid, SetPcp}
use Rattle.spec_tables.specs.Rules.{Rule, winner}
use Rattle.spec_xlate.specs.Translation.{Switch, State, Mode, deepest, act, visited, with_lookups_left, look, start, last_state}
use Rattle.spec_xlate.specs.Translation.Mode.{Going, ListEnded, Stopped}
use Rattle.spec_tools.specs.declared.lookup.Lookup.{Lookup}

-- a lookup at a depth in a table, and the number of its winner
abbrev pub looked_up : ℕ → ℕ → Option Rule → Lookup
looked_up depth table won = record { depth = depth; table = table; rule = option_map (λ (r : Rule). r.number) won }

-- the lookups of one action; sub is what a lookup in a table makes, one deeper than the action
unfoldable pub act_path : (ℕ → State → List Lookup) → OfAction → State → List Lookup
act_path sub (Output n) s = []
act_path sub (OutputField slice) s = []
act_path sub InPort s = []
act_path sub All s = []
act_path sub Flood s = []
act_path sub (Resubmit table) s = sub table s
act_path sub (Goto table) s = sub table s
act_path sub (Set name value mask) s = []
act_path sub (Move source target) s = []
act_path sub DecTtl s = []
act_path sub (PushVlan tpid) s = []
act_path sub PopVlan s = []
act_path sub (SetVid vid) s = []
act_path sub (SetPcp pcp) s = []

-- the lookups from a state on, where the list of actions goes on
abbrev pub in_mode_path : Mode → (State → List Lookup) → State → List Lookup
in_mode_path Going rest s = rest s
in_mode_path ListEnded rest s = []
in_mode_path Stopped rest s = []

abbrev pub while_going_path : (State → List Lookup) → State → List Lookup
while_going_path rest s = in_mode_path s.mode rest s

-- the lookups of a list of actions
unfoldable pub run_path : Switch → (ℕ → State → State) → (ℕ → State → List Lookup) → List OfAction → State → List Lookup
run_path sw sub lookups [] s = []
run_path sw sub lookups (a ∷ actions) s = act_path lookups a s ++ while_going_path (run_path sw sub lookups actions) (act sw sub a s)

abbrev pub follow_path : Switch → (ℕ → State → State) → (ℕ → State → List Lookup) → Option Rule → State → List Lookup
follow_path sw sub lookups None s = []
follow_path sw sub lookups (Some r) s = run_path sw sub lookups r.actions (visited r s)

-- a lookup that is made, if one is left, stands before those that it leads to
abbrev pub enter_path : Switch → (ℕ → State → State) → (ℕ → State → List Lookup) → ℕ → ℕ → ℕ → State → List Lookup
enter_path sw sub lookups depth table zero s = []
enter_path sw sub lookups depth table (suc n) s =
    looked_up depth table (winner (sw.tables table) s.current)
    ∷ follow_path sw sub lookups (winner (sw.tables table) s.current) (with_lookups_left n s)

-- a lookup at a depth below which so many are left, and those that it leads to
unfoldable pub look_path : Switch → ℕ → ℕ → State → List Lookup
look_path sw zero table s = []
look_path sw (suc depths) table s = enter_path sw (look sw depths) (look_path sw depths) (deepest - depths) table s.lookups_left s

-- the lookups that the translation of a packet of this key makes, in their order
unfoldable pub path_of : Switch → List ℕ → List Lookup
path_of sw key = look_path sw (deepest + 1) 0 (start key)

-- the packet's key where its translation ends
unfoldable pub last_of : Switch → List ℕ → List ℕ
last_of sw key = (last_state sw key).current
