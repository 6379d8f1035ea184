use Rattle.std.proofs.Common.{◌≡◌}
use Rattle.worker_phase.proofs.receiving.poll_port.Given as goal

abbrev pub invariant-batches : goal.invariant-batches
invariant-batches g l = record {
  can_next : (goal.iterator-batches g).can_next l.iterator';
  is_finite : (goal.iterator-batches g).is_finite l.iterator';
  queue : l.feeder.queue ≡ l.initial.feeder.queue;
}
