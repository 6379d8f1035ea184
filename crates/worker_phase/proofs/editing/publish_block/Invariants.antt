use Rattle.std.proofs.Common.{◌≡◌}
use Rattle.worker_phase.proofs.editing.publish_block.Given as goal

abbrev pub invariant-bundles : goal.invariant-bundles
invariant-bundles g l = record {
  can_next : (goal.iterator-bundles g).can_next l.iterator';
  is_finite : (goal.iterator-bundles g).is_finite l.iterator';
  publication : l.editor.publication ≡ g.P.Phase.publication;
}
