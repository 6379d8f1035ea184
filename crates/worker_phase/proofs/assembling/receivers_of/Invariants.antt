use Rattle.std.proofs.Common.{◌≡◌, All}
use Rattle.worker_phase.proofs.assembling.receivers_of.Given as goal

abbrev pub invariant-workers : goal.invariant-workers
invariant-workers g l = All (λ p. p.queue ≡ g.P.Phase.queue) l.passes.items
