use Rattle.std.proofs.Common.{◌≡◌}
use Rattle.worker_phase.proofs.assembling.pop_all.Given as goal

abbrev pub invariant-left : goal.invariant-left
invariant-left g l = record {
  can_next : (goal.iterator-left g).can_next l.iterator';
  is_finite : (goal.iterator-left g).is_finite l.iterator';
  queue : l.first.queue ≡ l.queue.name;
}
