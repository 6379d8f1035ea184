use Rattle.std.proofs.Common.{◌≡◌, ◌<◌, ◌+◌, length, vec_len}
use Rattle.table_publish.specs.Versions.{EndsBlock}
use Rattle.upcall_handler.specs.Upshots.{count_of}
use Rattle.upcall_handler.proofs.handling.settle_each.Given as goal

abbrev pub invariant-frames : goal.invariant-frames
invariant-frames g l = record {
  count : count_of l.handled + vec_len l.stale ≡ count_of l.initial.handled + length l.yielded;
  left : l.handled.left ≡ 0;
  beyond : 0 < l.handled.beyond → (l.handled.hi < l.fn.seer.version) × EndsBlock g.C.Case.run l.handled.hi;
}
