use Rattle.std.proofs.Common.{◌≡◌, ℕ, ◌<◌, length, get_or}
use Rattle.spec_case.specs.declared.arrival.Arrival.{Arrival}
use Rattle.egress_capture.specs.declared.port_filter.PortFilter.{PortFilter}
use Rattle.egress_capture.specs.Filters.{PassesAll, IsSingle, actions_at}
use Rattle.egress_capture.proofs.port_filter.filters_of.Given as goal

abbrev pub invariant-arrivals : goal.invariant-arrivals
invariant-arrivals g l = record {
  count : length l.filters.items ≡ l.arrival-index;
  each : (k : ℕ) (a : Arrival) (f : PortFilter) → k < l.arrival-index
      → PassesAll (actions_at g.C.Case.run l.finished (get_or l.came k a)) (get_or l.filters.items k f);
  single : (k : ℕ) (a : Arrival) (f : PortFilter) → k < l.arrival-index
      → IsSingle (actions_at g.C.Case.run l.finished (get_or l.came k a)) (get_or l.filters.items k f);
}
