use Rattle.spec_case.specs.Run.{Run}
use Rattle.spec_board.specs.declared.looked.Looked.{Looked}
use Rattle.spec_board.specs.Steps as steps
use Rattle.spec_board.specs.Refusals.{look_fault}
use Rattle.pmd_board.specs.BoardView.{BoardView, state_of}
use Rattle.given_steps.proofs.Boards.{goes_on_by}
use Rattle.given_steps.proofs.attempts.look.Goals as goal

pub returns-clause-goes_on : goal.returns-clause-goes_on
returns-clause-goes_on g c =
    let run : Run = g.C.Case.run in
    let a : BoardView = c.args.board.now in
    let place = c.args.at.now.place in
    goes_on_by run a c.look.new.self c.look.result (λ (r : Looked). steps.Look place r) (look_fault run a.port (state_of run a) place) c.journal.ensures.legal c.look.ensures.looked c.look.ensures.refused
