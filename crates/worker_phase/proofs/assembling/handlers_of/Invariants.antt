use Rattle.std.proofs.Common.{◌≡◌, All}
use Rattle.worker_phase.proofs.assembling.handlers_of.Given as goal

abbrev pub invariant-workers : goal.invariant-workers
invariant-workers g l = record {
  queue : All (λ p. p.queue ≡ g.P.Phase.queue) l.passes.items;
  publication : All (λ s. s.publication ≡ g.P.Phase.publication) l.seers.items;
}
