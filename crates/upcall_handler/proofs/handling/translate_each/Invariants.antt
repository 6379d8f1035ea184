use Rattle.std.proofs.Common.{◌≡◌, ◌≤◌, All, vec_len}
use Rattle.upcall_handler.proofs.handling.translate_each.Given as goal

abbrev pub invariant-upcalls : goal.invariant-upcalls
invariant-upcalls g l = record {
  publication : l.seer.publication ≡ l.fn.seer.publication;
  newer : l.fn.seer.version ≤ l.seer.version;
  count : vec_len l.batch ≤ l.upcall-index;
  seen : All (λ t. t.made.version ≤ l.seer.version) l.batch.items;
}
