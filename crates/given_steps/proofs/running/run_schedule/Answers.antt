use Rattle.std.proofs.Common.{◌≡◌, List, ap, ◌∙◌}
use Rattle.spec_case.specs.declared.run_step.RunStep.{RunStep}
use Rattle.spec_case.specs.Run.{Run}
use Rattle.spec_board.specs.Schedules as schedules
use Rattle.pmd_board.specs.BoardView.{BoardView}
use Rattle.run_boards.specs.Scheduled.{schedule_of}
use Rattle.board_laws.proofs.Alike.{all_by_last}
use Rattle.given_steps.proofs.WholeRuns.{as_scheduled, unmet_is, left_new}
use Rattle.given_steps.proofs.running.run_schedule.Goals as goal

pub returns-clause-journals : goal.returns-clause-journals
returns-clause-journals g c =
    let run : Run = g.C.Case.run in
    let steps : List RunStep = c.args.steps.now in
    let old = c.new-tables.result in
    let new = c.run_steps.new.tables in
    let boards : List BoardView = c.in_ok-boards.boards in
    let left : List BoardView = c.in_ok-left.left in
    let at : List schedules.Board → schedules.Schedule = λ bs. record { newest = 0; boards = bs; unmet = 0 } in
    let begins : schedule_of run old boards ≡ schedules.new_schedule run = ap (λ n. schedule_of run n boards) c.new-tables.ensures ∙ ap at c.in_ok-boards.ensures.scheduled in
    let after = c.in_ok-left.ensures in
    let done = c.in_ok-done.ensures in record {
      are_whole = c.boards.ensures.whole;
      as_scheduled = λ alone. done.scheduled ∙ as_scheduled run steps old new boards left begins c.requires.steps after.newest after.boards;
      by_last_version = λ alone none. done.by_last_version (left_new run steps old new boards left begins c.requires.steps none after.boards c.as_slice.ensures.are);
      apart = λ apart. all_by_last run c.in_ok-done.done apart c.boards.ensures.whole;
    }

pub returns-clause-unmet : goal.returns-clause-unmet
returns-clause-unmet g c =
    let run : Run = g.C.Case.run in
    let old = c.new-tables.result in
    let boards : List BoardView = c.in_ok-boards.boards in
    let at : List schedules.Board → schedules.Schedule = λ bs. record { newest = 0; boards = bs; unmet = 0 } in
    let begins : schedule_of run old boards ≡ schedules.new_schedule run = ap (λ n. schedule_of run n boards) c.new-tables.ensures ∙ ap at c.in_ok-boards.ensures.scheduled in
    c.in_ok-left.ensures.unmet ∙ unmet_is run c.args.steps.now old c.run_steps.new.tables boards c.in_ok-left.left begins c.requires.steps
