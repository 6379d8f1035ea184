use Rattle.spec_case.specs.Run.{Run}
use Rattle.spec_board.specs.Steps as steps
use Rattle.given_steps.proofs.Boards.{goes_on}
use Rattle.given_steps.proofs.attempts.settle.Goals as goal

pub returns-in-Ok-clause-goes_on : goal.returns-in-Ok-clause-goes_on
returns-in-Ok-clause-goes_on g c =
    let run : Run = g.C.Case.run in
    let settled = c.in-Ok.ensures.settled in
    goes_on run c.args.board.now c.settle.new.self (steps.Settle c.args.at.now.place c.args.made.version settled.result) c.journal.ensures.legal settled.appends
