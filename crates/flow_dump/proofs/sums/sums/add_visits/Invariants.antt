use Rattle.std.proofs.Common.{◌≡◌, ℕ, drop}
use Rattle.spec_board.specs.Effects.{credited}
use Rattle.port_caches.specs.Sums.{total_of}
use Rattle.flow_dump.specs.Sums.{sums_view}
use Rattle.flow_dump.proofs.sums.sums.add_visits.Given as goal

-- The visits that are left lead to what all of them lead to.
abbrev pub invariant-loop-rule : goal.invariant-loop-rule
invariant-loop-rule l =
    (rule : ℕ)
    → credited (drop l.rule-index l.visits) l.packets l.bytes (total_of (sums_view l.counts)) rule
    ≡ credited l.visits l.packets l.bytes (total_of (sums_view l.fn.counts)) rule
