-- The outputs of a translation: the port of each, and the current key when it comes. They are collected along the states of
-- the plain translation, whose rules are not said again.
use Rattle.std.specs.Prelude.{ℕ, zero, suc, ◌+◌, if◌then◌else◌, List, [], ◌∷◌, ◌++◌, map, Option, Some, None}
use Rattle.spec_actions.specs.declared.action.OfAction.{OfAction}
use Rattle.spec_actions.specs.declared.action.OfAction.TheVariants.{Output, OutputField, InPort, All, Flood, Resubmit, Goto, Set, Move, DecTtl, PushVlan, PopVlan, SetVid, SetPcp}
use Rattle.spec_tables.specs.Rules.{Rule, winner}
use Rattle.spec_xlate.specs.Translation.{Switch, State, Mode, deepest, in_port_of, is_other_port, other_ports, slice_of, act, visited, with_lookups_left, look, start, last_state}
use Rattle.spec_xlate.specs.Translation.Mode.{Going, ListEnded, Stopped}
use Rattle.exec_laws.specs.Become.{KeyedOutput}

-- an output of the current key at each of these ports
abbrev pub outputs_at : List ℕ → State → List KeyedOutput
outputs_at ports s = map (λ n. record { key = s.current; port = n }) ports

-- one at a port of the switch that the packet didn't come in by; none at any other
abbrev pub output_at : Switch → ℕ → State → List KeyedOutput
output_at sw n s = if is_other_port sw s.current n then outputs_at (n ∷ []) s else []

-- the outputs of one action; sub is what a lookup in a table does, and below are its outputs, one deeper than the action
unfoldable pub act_outputs : Switch → (ℕ → State → List KeyedOutput) → OfAction → State → List KeyedOutput
act_outputs sw below (Output n) s = output_at sw n s
act_outputs sw below (OutputField slice) s = output_at sw (slice_of s.current slice) s
act_outputs sw below InPort s = outputs_at (in_port_of s.current ∷ []) s
act_outputs sw below All s = outputs_at (other_ports sw s.current) s
act_outputs sw below Flood s = outputs_at (other_ports sw s.current) s
act_outputs sw below (Resubmit table) s = below table s
act_outputs sw below (Goto table) s = below table s
act_outputs sw below (Set name value mask) s = []
act_outputs sw below (Move source target) s = []
act_outputs sw below DecTtl s = []
act_outputs sw below (PushVlan tpid) s = []
act_outputs sw below PopVlan s = []
act_outputs sw below (SetVid vid) s = []
act_outputs sw below (SetPcp pcp) s = []

-- the outputs that a state leads to, where the list of actions goes on
abbrev pub in_mode_outputs : Mode → (State → List KeyedOutput) → State → List KeyedOutput
in_mode_outputs Going rest s = rest s
in_mode_outputs ListEnded rest s = []
in_mode_outputs Stopped rest s = []

-- those of a list of actions
unfoldable pub run_outputs : Switch → (ℕ → State → State) → (ℕ → State → List KeyedOutput) → List OfAction → State → List KeyedOutput
run_outputs sw sub below [] s = []
run_outputs sw sub below (a ∷ actions) s =
    act_outputs sw below a s ++ in_mode_outputs (act sw sub a s).mode (run_outputs sw sub below actions) (act sw sub a s)

abbrev pub follow_outputs : Switch → (ℕ → State → State) → (ℕ → State → List KeyedOutput) → Option Rule → State → List KeyedOutput
follow_outputs sw sub below None s = []
follow_outputs sw sub below (Some r) s = run_outputs sw sub below r.actions (visited r s)

abbrev pub enter_outputs : Switch → (ℕ → State → State) → (ℕ → State → List KeyedOutput) → ℕ → ℕ → State → List KeyedOutput
enter_outputs sw sub below table zero s = []
enter_outputs sw sub below table (suc n) s = follow_outputs sw sub below (winner (sw.tables table) s.current) (with_lookups_left n s)

-- those of a lookup at a depth below which so many are left, and of all that it leads to
unfoldable pub look_outputs : Switch → ℕ → ℕ → State → List KeyedOutput
look_outputs sw zero table s = []
look_outputs sw (suc depths) table s = enter_outputs sw (look sw depths) (look_outputs sw depths) table s.lookups_left s

-- a translation that ended as a whole has none
abbrev pub kept_outputs : Mode → List KeyedOutput → List KeyedOutput
kept_outputs Going outputs = outputs
kept_outputs ListEnded outputs = outputs
kept_outputs Stopped outputs = []

-- the outputs of the translation of a packet of this key
unfoldable pub translation_outputs : Switch → List ℕ → List KeyedOutput
translation_outputs sw key = kept_outputs (last_state sw key).mode (look_outputs sw (deepest + 1) 0 (start key))
