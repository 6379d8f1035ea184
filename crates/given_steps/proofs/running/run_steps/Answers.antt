use Rattle.std.proofs.Common.{arith, ◌≡◌, ◌≤◌, List, map, take, sym, ap, ◌∙◌, subst}
use Rattle.std.proofs.lemmas.List.{take_all}
use Rattle.spec_case.specs.declared.run_step.RunStep.{RunStep}
use Rattle.spec_case.specs.Run.{Run}
use Rattle.spec_case.specs.Blocks.{hi, last_block}
use Rattle.spec_board.specs.Schedules as schedules
use Rattle.spec_board.specs.GivenSteps.{counted, with_given_steps}
use Rattle.run_boards.specs.Scheduled.{schedule_of}
use Rattle.given_steps.specs.ScheduledViews.{scheduled}
use Rattle.given_steps.specs.ByNumber.{NumberedSchedule, all_by_number}
use Rattle.given_steps.specs.Running.{without_kept}
use Rattle.given_steps.proofs.ByNumber.{without_alike}
use Rattle.given_steps.proofs.StepLaws.{steps_none}
use Rattle.given_steps.proofs.WholeRuns.{left_least}
use Rattle.given_steps.proofs.InRunning.{one_more, few_more}
use Rattle.given_steps.proofs.running.run_steps.Goals.{then-not-met, else-not-met}
use Rattle.given_steps.proofs.running.run_steps.Goals as goal

pub steps-init : goal.steps-init
steps-init g c =
    let run : Run = g.C.Case.run in
    let v = c.args.tables.now in
    let same = c.in_ok-list.ensures.same in
    let at : List schedules.Board → schedules.Schedule = λ bs. record { newest = v; boards = bs; unmet = 0 } in record {
      ports = c.in_ok-list.ensures.ports;
      version = subst (λ bs. v ≤ hi run (schedules.least_block (last_block run) bs)) (sym same) c.requires.version;
      few = omega arith;
      taken = ap all_by_number (ap at same ∙ sym (steps_none run (schedule_of run v c.args.boards)));
    }

pub steps-preserved : goal.steps-preserved
steps-preserved g c =
    let run : Run = g.C.Case.run in
    let unmet : c.if-not-met.unmet ≡ counted c.in_ok-met.met c.steps.unmet = elim c.if-not-met.branch [
      | then-not-met w ↦ w.unmet-is ∙ ap (λ t. counted t c.steps.unmet) (sym w.if-not-met.true)
      | else-not-met w ↦ w.unmet-is ∙ ap (λ t. counted t c.steps.unmet) (sym w.if-not-met.false)
    ] in record {
      ports = c.in_ok-met.ensures.ports;
      version = c.in_ok-met.ensures.version;
      few = few_more c.in_ok-met.met c.steps.unmet c.if-not-met.unmet c.steps.step-index unmet c.steps.invariant.few;
      taken = one_more run c.args.steps.now c.steps.step-index _ (schedule_of run c.args.tables.now c.args.boards) c.steps.tables c.take_given.new.tables
          c.steps.unmet c.if-not-met.unmet c.in_ok-met.met c.steps.list.items c.take_given.new.boards.items
          c.steps-test.true unmet c.steps.invariant.taken c.in_ok-met.ensures.taken;
    }

pub returns-clause-boards : goal.returns-clause-boards
returns-clause-boards g c =
    let run : Run = g.C.Case.run in
    let steps : List RunStep = c.args.steps.now in
    let start = schedule_of run c.args.tables.now c.args.boards in
    let so_far = with_given_steps run (take c.steps.step-index steps) start in
    let all : take c.steps.step-index steps ≡ steps = take_all c.steps.step-index steps (let past = c.steps-test.false in omega (arith, past)) in
    c.in_ok-left.ensures
    ∙ without_alike (map (scheduled run) c.steps.list.items) so_far.boards (ap (λ (s : NumberedSchedule). s.boards) c.steps.invariant.taken)
    ∙ ap (λ xs. map without_kept (with_given_steps run xs start).boards) all

pub returns-clause-version : goal.returns-clause-version
returns-clause-version g c =
    let run : Run = g.C.Case.run in
    let least = left_least run c.steps.list.items c.in_ok-left.left c.in_ok-left.ensures in
    subst (λ n. c.steps.tables ≤ hi run n) (sym least) c.steps.invariant.version
