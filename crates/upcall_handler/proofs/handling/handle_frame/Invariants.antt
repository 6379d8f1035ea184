use Rattle.std.proofs.Common.{◌≡◌, ◌<◌, ◌≤◌}
use Rattle.table_publish.specs.Versions.{IsWithinBlock}
use Rattle.upcall_handler.proofs.handling.handle_frame.Given as goal

abbrev pub invariant-tries : goal.invariant-tries
invariant-tries g l = record {
  publication : l.seer.publication ≡ l.fn.seer.publication;
  newer : l.fn.seer.version ≤ l.seer.version;
  stale : l.fn.from < l.counter → (l.seer.version < l.floor) × IsWithinBlock g.C.Case.run l.floor;
}
