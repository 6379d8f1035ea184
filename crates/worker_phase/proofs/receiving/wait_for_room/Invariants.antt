use Rattle.std.proofs.Common.{◌≡◌}
use Rattle.worker_phase.proofs.receiving.wait_for_room.Given as goal

abbrev pub invariant-turns : goal.invariant-turns
invariant-turns g l = l.feeder.queue ≡ l.initial.feeder.queue
