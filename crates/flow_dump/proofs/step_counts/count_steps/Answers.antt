use Rattle.std.proofs.Common.{◌^◌, ◌≤◌, length, take, sym, ap, ◌∙◌, arith}
use Rattle.std.proofs.lemmas.List.{take_all, length-map, length-take-le}
use Rattle.board_steps.specs.StepViews.{step_view, steps_view}
use Rattle.flow_dump.specs.StepCounts.{counts_of, with_step}
use Rattle.flow_dump.proofs.Counted.{counts_of-more, few}
use Rattle.flow_dump.proofs.step_counts.count_steps.Goals as goal

pub count-requires : goal.count-requires
count-requires c =
    let seen = take c.steps.step-index c.args.steps.now in
    let short : length (steps_view seen) ≤ 2 ^ 64 = omega (arith, length-map seen step_view, length-take-le c.steps.step-index c.args.steps.now (omega arith)) in
    rw c.steps.invariant (few (steps_view seen) (2 ^ 64) short)

pub steps-preserved : goal.steps-preserved
steps-preserved c =
    let step = c.step-item.result in
    c.count.ensures ∙ ap (with_step (step_view step)) c.steps.invariant ∙ sym (counts_of-more c.args.steps.now c.steps.step-index step c.steps-test.true c.step-item.is)

pub returns-clause-counts : goal.returns-clause-counts
returns-clause-counts c =
    let all = take_all c.steps.step-index c.args.steps.now (omega arith) in
    c.steps.invariant ∙ ap (λ steps. counts_of (steps_view steps)) all

pub returns-clause-few : goal.returns-clause-few
returns-clause-few c =
    let seen = take c.steps.step-index c.args.steps.now in
    let short : length (steps_view seen) ≤ 2 ^ 64 = omega (arith, length-map seen step_view, length-take-le c.steps.step-index c.args.steps.now (omega arith)) in
    rw c.steps.invariant (few (steps_view seen) (2 ^ 64) short)
