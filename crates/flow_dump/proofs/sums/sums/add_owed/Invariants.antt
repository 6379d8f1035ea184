use Rattle.std.proofs.Common.{◌≡◌, ℕ, take}
use Rattle.port_caches.specs.Sums.{total_of}
use Rattle.flow_dump.specs.Sums.{sums_view, with_owed}
use Rattle.flow_dump.proofs.sums.sums.add_owed.Given as goal

abbrev pub invariant-flows : goal.invariant-flows
invariant-flows l =
    (rule : ℕ) → total_of (sums_view l.counts) rule ≡ with_owed rule (take l.number-index l.flows.entries) (total_of (sums_view l.fn.counts) rule)
