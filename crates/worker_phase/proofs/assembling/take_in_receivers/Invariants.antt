use Rattle.std.proofs.Common.{◌≡◌}
use Rattle.worker_phase.proofs.assembling.take_in_receivers.Given as goal

abbrev pub invariant-receivers : goal.invariant-receivers
invariant-receivers g l = record {
  can_next : (goal.iterator-receivers g).can_next l.receiver-iterator;
  is_finite : (goal.iterator-receivers g).is_finite l.receiver-iterator;
  queue : l.first.queue ≡ g.P.Phase.queue;
}
