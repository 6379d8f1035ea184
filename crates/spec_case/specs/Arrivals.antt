-- The frames of all ports of a run, in order.
use Rattle.std.specs.Prelude.{ℕ, ◌+◌, Bool, List, [], ◌∷◌, ◌++◌}
use Rattle.std.specs.Ordering.{nat_cmp, is_lt, ordering_then}
use Rattle.std.specs.declared.cmp.Ordering.{Ordering}
use Rattle.spec_base.specs.Sorting.{sort_by}
use Rattle.spec_pcap.specs.Pcap.{Frame, Capture}
use Rattle.spec_case.specs.declared.arrival.Arrival.{Arrival}
use Rattle.spec_case.specs.Run.{Run}

-- the arrivals of frames at a port, from a place on
unfoldable pub arrivals_at : ℕ → ℕ → List Frame → List Arrival
arrivals_at port place [] = []
arrivals_at port place (f ∷ fs) = record { time = f.time; port = port; place = place } ∷ arrivals_at port (place + 1) fs

-- the arrivals at each port, by port and place
unfoldable pub arrivals_in : List ℕ → List Capture → List Arrival
arrivals_in [] traces = []
arrivals_in (p ∷ ps) [] = []
arrivals_in (p ∷ ps) (t ∷ ts) = arrivals_at p 1 t.frames ++ arrivals_in ps ts

abbrev pub arrivals : Run → List Arrival
arrivals run = arrivals_in run.ports run.traces

-- by time, then by ingress port, then by place
abbrev pub arrival_cmp : Arrival → Arrival → Ordering
arrival_cmp a b = ordering_then (nat_cmp a.time b.time) (ordering_then (nat_cmp a.port b.port) (nat_cmp a.place b.place))

abbrev pub comes_before : Arrival → Arrival → Bool
comes_before a b = is_lt (arrival_cmp a b)

abbrev pub in_order : List Arrival → List Arrival
in_order arrivals = sort_by comes_before arrivals
