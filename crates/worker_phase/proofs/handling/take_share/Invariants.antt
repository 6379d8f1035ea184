use Rattle.std.proofs.Common.{◌≡◌}
use Rattle.worker_phase.proofs.handling.take_share.Given as goal

abbrev pub invariant-upcalls : goal.invariant-upcalls
invariant-upcalls g l = l.pass.queue ≡ g.P.Phase.queue
