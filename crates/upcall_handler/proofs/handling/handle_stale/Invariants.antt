use Rattle.std.proofs.Common.{◌≡◌, ◌≤◌, ◌+◌}
use Rattle.upcall_handler.specs.Upshots.{HasCauses, count_of}
use Rattle.upcall_handler.proofs.handling.handle_stale.Given as goal

abbrev pub invariant-stale : goal.invariant-stale
invariant-stale g l = record {
  publication : l.seer.publication ≡ l.fn.seer.publication;
  newer : l.fn.seer.version ≤ l.seer.version;
  count : count_of l.handled ≡ count_of l.fn.handled + l.at-index;
  causes : HasCauses g.C.Case.run l.fn.seer.version l.seer.version l.handled;
}
