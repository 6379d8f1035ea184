use Rattle.spec_board.specs.Results.{switch_at, key_at}
use Rattle.board_laws.proofs.Bounded.{few_actions}
use Rattle.run_boards.proofs.finished.Finished.actions.Goals as goal

pub returns-clause-few : goal.returns-clause-few
returns-clause-few g c =
    let run = g.C.Case.run in
    let told = c.in-Some.ensures.told in
    let decided = told.decided in
    rw (told.actions_are, decided.plain) (few_actions (switch_at run decided.decision.version) (key_at run c.board_of.result.now.port c.args.arrival.place))
