use Rattle.std.proofs.Common.{◌≡◌, ◌≤◌, map, take, length, vec_capacity}
use Rattle.run_case.specs.Places.{ends_of}
use Rattle.run_case.proofs.blocks.block_ends.all_block_ends.Given as goal

abbrev pub invariant-loop-trace : goal.invariant-loop-trace
invariant-loop-trace l = record {
  room : length l.traces ≤ vec_capacity l.all;
  so_far : l.all.items ≡ map (ends_of l.syncs) (take l.trace-index l.traces);
}
