use Rattle.std.proofs.Common.{Bool, sym, subst}
use Rattle.std.specs.Option.{is_none}
use Rattle.spec_case.specs.Run.{Run}
use Rattle.spec_board.specs.Steps as steps
use Rattle.spec_board.specs.Refusals.{put_fault}
use Rattle.spec_board.specs.Schedules as schedules
use Rattle.pmd_board.specs.BoardView.{BoardView, state_of}
use Rattle.run_boards.specs.Scheduled.{under_way}
use Rattle.given_steps.specs.Taken.{TookIf}
use Rattle.given_steps.proofs.Boards.{goes_on_by, answered, if_ok_then, put_legal}
use Rattle.given_steps.proofs.attempts.put.Goals as goal

pub returns-clause-took : goal.returns-clause-took
returns-clause-took g c =
    let run : Run = g.C.Case.run in
    let a : BoardView = c.args.board.now in
    let b : BoardView = c.put.new.self in
    let n = c.args.number in
    let v = c.args.made.version in
    let fault = put_fault run (state_of run a) n v in
    let put = schedules.put_at run v n (under_way run a) in
    subst (λ (took : Bool). TookIf run (is_none fault) put a took b) (sym c.is_ok.ensures.value)
    (answered run fault put a b c.put.result (if_ok_then c.put.result (λ r appends. put_legal run a b n v r.done appends) c.put.ensures.put) c.put.ensures.refused)

pub returns-clause-goes_on : goal.returns-clause-goes_on
returns-clause-goes_on g c =
    let run : Run = g.C.Case.run in
    let a : BoardView = c.args.board.now in
    let n = c.args.number in
    let v = c.args.made.version in
    goes_on_by run a c.put.new.self c.put.result (λ r. steps.Put n v r.done) (put_fault run (state_of run a) n v) c.journal.ensures.legal c.put.ensures.put c.put.ensures.refused
