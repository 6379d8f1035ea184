use Rattle.std.proofs.Common.{◌≡◌}
use Rattle.worker_phase.proofs.handling.handle.Given as goal

abbrev pub invariant-turns : goal.invariant-turns
invariant-turns g l = record {
  can_next : (goal.iterator-turns g).can_next l.iterator';
  is_finite : (goal.iterator-turns g).is_finite l.iterator';
  publication : l.seer.publication ≡ g.P.Phase.publication;
  queue : l.pass.queue ≡ g.P.Phase.queue;
}
