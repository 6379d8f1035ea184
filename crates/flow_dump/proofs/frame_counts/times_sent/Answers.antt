use Rattle.std.proofs.Common.{◌≤◌, length, arith}
use Rattle.spec_case.specs.Run.{Run}
use Rattle.spec_xlate.specs.Translation.{action_limit}
use Rattle.spec_board.specs.Results.{switch_at, key_at}
use Rattle.board_laws.proofs.Bounded.{few_actions}
use Rattle.flow_dump.proofs.frame_counts.times_sent.Goals as goal

pub returns-clause-few : goal.returns-clause-few
returns-clause-few g c =
    let run : Run = g.C.Case.run in
    let told = c.in-Some.ensures.told in
    let decided = told.decided in
    let few : length c.in-Some.actions.now ≤ action_limit =
    rw (told.actions_are, decided.plain) (few_actions (switch_at run decided.decision.version) (key_at run c.args.board.now.port c.args.place)) in
    omega (arith, c.outputs.ensures.few, few)
