use Rattle.std.proofs.Common.{◌≡◌, ◌+◌, ◌-◌, ◌≤◌, drop, length}
use Rattle.spec_case.specs.Blocks.{frames_before}
use Rattle.run_case.proofs.blocks.block_ends.end_of_block.Given as goal

abbrev pub invariant-loop-place : goal.invariant-loop-place
invariant-loop-place l = record {
  within : l.place ≤ length l.trace.frames;
  so_far : l.after + frames_before l.time (drop l.after l.trace.frames) ≡ l.place + frames_before l.time (drop l.place l.trace.frames);
}

abbrev pub decreases-loop-place : goal.decreases-loop-place
decreases-loop-place l = length l.trace.frames - l.place
