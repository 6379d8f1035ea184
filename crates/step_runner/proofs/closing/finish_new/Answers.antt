use Rattle.std.proofs.Common.{ap, ◌∙◌}
use Rattle.spec_case.specs.Run.{Run}
use Rattle.spec_board.specs.Schedules.{Schedule, finish}
use Rattle.run_boards.specs.Scheduled.{schedule_of}
use Rattle.step_runner.proofs.closing.finish_new.Goals as goal

pub returns-clause-scheduled : goal.returns-clause-scheduled
returns-clause-scheduled g c =
    let run : Run = g.C.Case.run in
    let none = ap (λ n. schedule_of run n c.args.boards) c.requires.version in
    let new = ap (λ bs. let s : Schedule = record { newest = 0; boards = bs; unmet = 0 } in s) c.requires.scheduled in
    ap (λ (s : Schedule). s.boards) (c.in_ok-left.ensures.scheduled ∙ ap (finish run) (none ∙ new))
