use Rattle.std.proofs.Common.{◌≡◌, ◌++◌, take}
use Rattle.std.specs.Prelude.{All}
use Rattle.std.specs.List.{flat_map}
use Rattle.board_steps.specs.StepViews.{step_view}
use Rattle.board_steps.specs.Printable.{IsPrintableStep}
use Rattle.flow_dump.proofs.Lines.{line_of_step}
use Rattle.flow_dump.proofs.journal.push_lines.Given as goal

abbrev pub invariant-steps : goal.invariant-steps
invariant-steps l = record {
  text : l.text.items ≡ l.fn.text.items ++ flat_map line_of_step (take l.step-index l.steps);
  printable : All (λ step. IsPrintableStep (step_view step)) (take l.step-index l.steps);
}
