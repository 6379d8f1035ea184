use Rattle.std.proofs.Common.{arith}
use Rattle.spec_case.specs.Run.{Run}
use Rattle.run_boards.specs.Scheduled.{IsKnown}
use Rattle.run_boards.proofs.Known.{one_known}
use Rattle.run_boards.proofs.finished.recall_laws.Goals as goal

pub boards-preserved : goal.boards-preserved
boards-preserved g c =
    let run : Run = g.C.Case.run in
    let known : IsKnown run c.board-item.result = record {
      legal = c.journal.ensures.legal;
      keys = c.journal.ensures.keys;
      in_order = c.journal.ensures.in_order;
      lawful = c.journal.ensures.lawful;
    } in
    one_known (IsKnown run) c.args.boards.now c.boards.board-index c.board-item.result c.boards-test.true c.board-item.is known c.boards.invariant

pub returns : goal.returns
returns g c = λ k d within. (let end = c.boards-test.false in c.boards.invariant k d (omega (arith, within, end)))
