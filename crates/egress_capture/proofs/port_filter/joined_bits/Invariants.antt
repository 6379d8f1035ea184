use Rattle.std.proofs.Common.{◌≡◌, ℕ, ◌<◌, get_or}
use Rattle.std.specs.Int.{bit_at}
use Rattle.egress_capture.specs.declared.port_filter.PortFilter.{PortFilter}
use Rattle.egress_capture.proofs.port_filter.joined_bits.Given as goal

abbrev pub invariant-filters : goal.invariant-filters
invariant-filters l =
    (n : ℕ) → bit_at l.joined n ≡ 0 → (k : ℕ) (f : PortFilter) → k < l.filter-index → bit_at (get_or l.filters k f).bits n ≡ 0
