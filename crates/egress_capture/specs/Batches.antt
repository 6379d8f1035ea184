-- Batches: frames that came in one after the other at a port, and are only sent on.
use Rattle.std.specs.Prelude.{◌≡◌, ℕ, zero, suc, ◌+◌, ◌-◌, ◌≤◌, ◌⊎◌, List, get_or, take, drop}
use Rattle.std.specs.Int.{bit_at}
use Rattle.spec_case.specs.declared.arrival.Arrival.{Arrival}
use Rattle.spec_case.specs.Run.{Run}
use Rattle.spec_case.specs.Arrivals.{in_order, arrivals}
use Rattle.egress_capture.specs.declared.port_filter.PortFilter.{PortFilter}
use Rattle.egress_capture.specs.Filters.{SendsOnlyTo, bit_of}

-- An arrival is of the frame so many places after another one's, at the same port.
pub record Follows (first arrival : Arrival) (count : ℕ) : Type 0 where
  pub port : arrival.port ≡ first.port
  pub place : arrival.place ≡ first.place + count

-- what stands where no arrival does
abbrev pub no_arrival : Arrival
no_arrival = record { time = 0; port = 0; place = 0 }

-- so many arrivals of a run, from one in their order on
abbrev pub arrivals_at : Run → ℕ → ℕ → List Arrival
arrivals_at run at count = take count (drop at (in_order (arrivals run)))

-- An arrival of a list comes next after so many frames of a batch: it follows the first of them, and all that is done
-- with it is to send it to a port once.
pub record IsNext (came : List Arrival) (filters : List PortFilter) (port at place count : ℕ) : Type 0 where
  pub follows : Follows (get_or came at no_arrival) (get_or came place no_arrival) count
  pub only_sent : (f : PortFilter) → SendsOnlyTo port (get_or filters place f)

-- So many arrivals, from one in their list on, are a batch of `count` frames, with others between them and behind them that
-- lack the bit of the port.
unfoldable pub IsBatch : List Arrival → List PortFilter → (port at size count : ℕ) → Type 0
IsBatch came filters port at zero count = count ≡ 0
IsBatch came filters port at (suc n) count =
    (((f : PortFilter) → bit_at (get_or filters (at + n) f).bits (bit_of port) ≡ 0) × IsBatch came filters port at n count)
    ⊎ ((1 ≤ count) × (IsNext came filters port at (at + n) (count - 1) × IsBatch came filters port at n (count - 1)))
