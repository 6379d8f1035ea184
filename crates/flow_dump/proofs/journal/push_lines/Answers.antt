use Rattle.std.proofs.Common.{arith}
use Rattle.std.proofs.lemmas.List.{take_all}
use Rattle.std.proofs.lemmas.List.Elements.{All-more}
use Rattle.board_steps.specs.StepViews.{step_view}
use Rattle.board_steps.specs.Printable.{IsPrintableStep}
use Rattle.flow_dump.proofs.Lines.{steps_text-is, lines_more}
use Rattle.flow_dump.proofs.journal.push_lines.Goals as goal

pub steps-preserved : goal.steps-preserved
steps-preserved c = record {
  text = lines_more c.args.steps.now c.steps.step-index _ c.steps-test.true c.args.text.now.items _ _ c.steps.invariant.text (rw c.step-item.is at c.in_ok-push_line.ensures.text);
  printable =
      let step = rw c.step-item.is at c.in_ok-push_line.ensures.printable in
      All-more (λ step. IsPrintableStep (step_view step)) c.args.steps.now c.steps.step-index _ c.steps-test.true c.steps.invariant.printable step;
}

pub returns-clause-text : goal.returns-clause-text
returns-clause-text c =
    let all = take_all c.steps.step-index c.args.steps.now (omega arith) in
    rw (steps_text-is, ← all) c.steps.invariant.text

pub returns-clause-printable : goal.returns-clause-printable
returns-clause-printable c =
    let all = take_all c.steps.step-index c.args.steps.now (omega arith) in
    rw all at c.steps.invariant.printable
