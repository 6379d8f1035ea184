use Rattle.std.proofs.Common.{◌≡◌, ◌≤◌, ◌+◌, ◌++◌, drop, length, vec_len, vec_capacity}
use Rattle.spec_case.specs.Blocks.{ends_after}
use Rattle.run_case.specs.Places.{ends_of}
use Rattle.run_case.proofs.blocks.block_ends.block_ends.Given as goal

abbrev pub invariant-loop-sync : goal.invariant-loop-sync
invariant-loop-sync l = record {
  within : l.place ≤ length l.trace.frames;
  len : vec_len l.ends ≡ l.sync-index;
  room : length l.syncs + 1 ≤ vec_capacity l.ends;
  so_far : l.ends.items ++ ends_after l.place (drop l.sync-index l.syncs) (drop l.place l.trace.frames) ≡ ends_of l.syncs l.trace;
}
