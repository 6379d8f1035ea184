use Rattle.std.proofs.Common.{◌+◌, [], length, ap, sym, arith}
use Rattle.spec_case.specs.Run.{Run}
use Rattle.run_boards.specs.Boards.{AreOfPhase}
use Rattle.step_runner.proofs.Turns.{all_done}
use Rattle.run_boards.proofs.BoardLists.{fit_block, fit_done}
use Rattle.step_runner.proofs.closing.close_phase.Goals as goal

pub finish_least_block-requires-clause-least : goal.finish_least_block-requires-clause-least
finish_least_block-requires-clause-least g c _ _ =
    let run : Run = g.C.Case.run in
    let fit : AreOfPhase run c.args.flow_limit c.args.block c.in-Some.fitting = rw c.in-Some.ensures.list c.in-Some.ensures.fit in
    let ports = c.ports.ensures in
    let some = c.len.ensures.some in
    let count = c.len.ensures.len in
    sym (fit_block run c.args.flow_limit c.args.block c.in-Some.fitting fit c.requires.there (let e = ap length ports in omega (arith, some, count, e)) (record { port = 0; flow_limit = 0; journal = [] }))

pub returns-in_ok-left-in-Some-clause-finished : goal.returns-in_ok-left-in-Some-clause-finished
returns-in_ok-left-in-Some-clause-finished g c = λ is.
    let run : Run = g.C.Case.run in
    let fit : AreOfPhase run c.args.flow_limit c.args.block c.in-Some.fitting = rw c.in-Some.ensures.list c.in-Some.ensures.fit in
    all_done run (c.args.block + 1) c.in_ok-left-in-Some.left (omega (arith, is))
    (c.in_ok-left-in-Some.ensures.done c.args.block c.requires.there (fit_done run c.args.flow_limit c.args.block c.in-Some.fitting fit c.requires.there))
