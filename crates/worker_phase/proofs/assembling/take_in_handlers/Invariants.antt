use Rattle.std.proofs.Common.{◌≡◌, All}
use Rattle.worker_phase.proofs.assembling.take_in_handlers.Given as goal

abbrev pub invariant-handlers : goal.invariant-handlers
invariant-handlers g l = record {
  can_next : (goal.iterator-handlers g).can_next l.handler-iterator;
  is_finite : (goal.iterator-handlers g).is_finite l.handler-iterator;
  queue : l.first.queue ≡ g.P.Phase.queue;
  seers : All (λ s. s.publication ≡ g.P.Phase.publication) l.seers.items;
}
