use Rattle.std.proofs.Common.{◌≤◌, ◌-◌, length, take}
use Rattle.std.specs.Prelude.{All}
use Rattle.std.specs.List.{flat_map}
use Rattle.edge_io.specs.Written.{HasWritten}
use Rattle.board_steps.specs.StepViews.{step_view}
use Rattle.board_steps.specs.Printable.{IsPrintableStep}
use Rattle.flow_dump.proofs.Lines.{line_of_step}
use Rattle.flow_dump.proofs.journal.write_steps.Given as goal

abbrev pub invariant-pieces : goal.invariant-pieces
invariant-pieces g l = record {
  within : l.done ≤ length l.steps;
  wrote : HasWritten g.S.Shelf l.fn.shelf l.shelf (flat_map line_of_step (take l.done l.steps));
  printable : All (λ step. IsPrintableStep (step_view step)) (take l.done l.steps);
}

abbrev pub decreases-pieces : goal.decreases-pieces
decreases-pieces g l = length l.steps - l.done
