use Rattle.std.proofs.Common.{◌≡◌, All, List, sym, ◌∙◌, subst}
use Rattle.spec_case.specs.Run.{Run}
use Rattle.spec_board.specs.Schedules as schedules
use Rattle.spec_run.specs.Journals.{IsByLastVersion}
use Rattle.pmd_board.specs.BoardView.{BoardView, journals_view}
use Rattle.run_boards.specs.Scheduled.{schedule_of, IsKnown}
use Rattle.run_boards.proofs.Decided.{decided_from_new}
use Rattle.run_boards.proofs.Whole.{as_scheduled, all_by_last_version}
use Rattle.step_runner.proofs.finishing.finish.Goals as goal

pub returns-clause-scheduled : goal.returns-clause-scheduled
returns-clause-scheduled g c =
    let run : Run = g.C.Case.run in
    c.in_ok-done.ensures
    ∙ as_scheduled run c.finish_blocks.new.tables c.in_ok-left.left (schedules.finish run (schedule_of run c.args.tables.now c.args.boards)) c.in_ok-left.ensures.scheduled

pub returns-clause-by_last_version : goal.returns-clause-by_last_version
returns-clause-by_last_version g c =
    let run : Run = g.C.Case.run in
    let boards : List BoardView = c.args.boards in
    let left : List BoardView = c.in_ok-left.left in
    let made = c.in_ok-left.ensures in
    let known : All (IsKnown run) left = subst (All (IsKnown run)) c.as_slice.ensures.list c.recall_laws.ensures in
    let is : journals_view left ≡ c.in_ok-done.done = sym c.in_ok-done.ensures in
    λ new. subst (All (IsByLastVersion run)) is (all_by_last_version run left (decided_from_new run run.flow_limit boards left new made.only_plans known made.finished))
