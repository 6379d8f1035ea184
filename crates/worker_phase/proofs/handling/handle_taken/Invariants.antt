use Rattle.std.proofs.Common.{◌≡◌, ◌≤◌, ◌-◌, length}
use Rattle.worker_phase.proofs.handling.handle_taken.Given as goal

abbrev pub invariant-rows : goal.invariant-rows
invariant-rows g l = record {
  within : l.handled ≤ length l.taken;
  publication : l.seer.publication ≡ g.P.Phase.publication;
}

abbrev pub decreases-rows : goal.decreases-rows
decreases-rows g l = length l.taken - l.handled
