use Rattle.std.proofs.Common.{◌≡◌, take}
use Rattle.board_steps.specs.StepViews.{steps_view}
use Rattle.flow_dump.specs.StepCounts.{counts_of}
use Rattle.flow_dump.proofs.step_counts.count_steps.Given as goal

abbrev pub invariant-steps : goal.invariant-steps
invariant-steps l = l.counts ≡ counts_of (steps_view (take l.step-index l.steps))
