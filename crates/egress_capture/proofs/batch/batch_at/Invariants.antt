use Rattle.std.proofs.Common.{◌+◌, ◌-◌, ◌≤◌, length}
use Rattle.egress_capture.specs.Batches.{IsBatch}
use Rattle.egress_capture.proofs.batch.batch_at.Given as goal

abbrev pub invariant-frames : goal.invariant-frames
invariant-frames l = record {
  few : l.at + l.count ≤ l.end;
  within : l.end ≤ length l.came;
  batch : IsBatch l.came l.filters l.port l.at (l.end - l.at) l.count;
}

abbrev pub decreases-frames : goal.decreases-frames
decreases-frames l = length l.came - l.end
