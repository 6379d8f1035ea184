use Rattle.std.proofs.Common.{◌≡◌}
use Rattle.worker_phase.proofs.revalidating.sweep_all.Given as goal

abbrev pub invariant-ports : goal.invariant-ports
invariant-ports g l = l.seer.publication ≡ g.P.Phase.publication
