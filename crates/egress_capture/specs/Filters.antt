-- Filters of ports: what they say of actions, and of the arrivals of a run.
use Rattle.std.specs.Prelude.{◌≡◌, ℕ, ◌%◌, ◌<◌, ◌≤◌, false, IsTrue, List, [], ◌∷◌, length, get_or, All}
use Rattle.std.specs.Int.{bit_at}
use Rattle.spec_actions.specs.declared.action.DpAction.{DpAction}
use Rattle.spec_actions.specs.declared.action.DpAction.TheVariants.{Output}
use Rattle.spec_case.specs.declared.arrival.Arrival.{Arrival}
use Rattle.spec_case.specs.Run.{Run}
use Rattle.spec_board.specs.Texts.{Journal}
use Rattle.spec_run.specs.Journals.{actions_for}
use Rattle.egress_capture.specs.declared.port_filter.PortFilter.{PortFilter}
use Rattle.egress_capture.specs.Sending.{sends_to}

-- how many bits a filter has
abbrev pub filter_bits : ℕ
filter_bits = 32

-- the bit of a port, which it shares with others
abbrev pub bit_of : ℕ → ℕ
bit_of port = port % filter_bits

-- No action sends to a port whose bit is not in the filter.
abbrev pub PassesAll : List DpAction → PortFilter → Type 0
PassesAll actions filter =
    (port : ℕ) → bit_at filter.bits (bit_of port) ≡ 0 → All (λ (a : DpAction). sends_to port a ≡ false) actions

-- Where a filter is single, one output to its port is all that the actions are.
abbrev pub IsSingle : List DpAction → PortFilter → Type 0
IsSingle actions filter = IsTrue filter.single → actions ≡ Output filter.port ∷ []

-- It is, and that is the port.
pub record SendsOnlyTo (port : ℕ) (filter : PortFilter) : Type 0 where
  pub single : IsTrue filter.single
  pub port_is : filter.port ≡ port

-- None of the filters from one place on and before another has the bit of a port.
abbrev pub LackBit : List PortFilter → ℕ → ℕ → ℕ → Type 0
LackBit filters port from to = (k : ℕ) (f : PortFilter) → from ≤ k → k < to → bit_at (get_or filters k f).bits (bit_of port) ≡ 0

-- the actions that journals decided for an arrival
abbrev pub actions_at : Run → List Journal → Arrival → List DpAction
actions_at run journals a = actions_for run journals a.port a.place

-- There is a filter for each arrival, of the actions that the journals decided for it.
pub record AreFilters (run : Run) (journals : List Journal) (arrivals : List Arrival) (filters : List PortFilter) : Type 0 where
  pub count : length filters ≡ length arrivals
  pub each : (k : ℕ) (a : Arrival) (f : PortFilter) → k < length arrivals
      → PassesAll (actions_at run journals (get_or arrivals k a)) (get_or filters k f)
  pub single : (k : ℕ) (a : Arrival) (f : PortFilter) → k < length arrivals
      → IsSingle (actions_at run journals (get_or arrivals k a)) (get_or filters k f)
