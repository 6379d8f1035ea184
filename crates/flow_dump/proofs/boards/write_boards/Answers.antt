use Rattle.std.proofs.Common.{Err, ap, ◌∙◌, arith, rules}
use Rattle.std.proofs.lemmas.List.{take_all}
use Rattle.std.proofs.lemmas.List.Elements.{All-map, All-more}
use Rattle.std.proofs.lemmas.Result.{err_from_is_err_and}
use Rattle.edge_io.proofs.InTurn.{none_yet, one_cut, one_more}
use Rattle.pmd_board.specs.BoardView.{journal_view}
use Rattle.flow_dump.specs.Boards.{IsPrintedWell}
use Rattle.flow_dump.proofs.Lines.{text_of_board, dump_text-is}
use Rattle.flow_dump.proofs.boards.write_boards.Goals as goal

pub returns-in_err-write_board-clause-writes : goal.returns-in_err-write_board-clause-writes
returns-in_err-write_board-clause-writes g c =
    let p = err_from_is_err_and c.from_residual.result c.from_residual.ensures.1 in
    let cut = rw c.board-item.is at c.in_err-write_board.ensures.writes in
    rw (← c.boards-of_ports.ensures.journals, dump_text-is) (one_cut g.S.Shelf (text_of_board c.args.what g.C.Case.run) _ _ _ c.boards-of_ports.result.now c.boards.board-index _ c.boards-test.true c.boards.invariant.wrote _ _ (p.1 ∙ ap Err p.2) cut)

pub boards-init : goal.boards-init
boards-init g c = record { wrote = none_yet g.S.Shelf _ c.requires; printable = search rules }

pub boards-preserved : goal.boards-preserved
boards-preserved g c = record {
  wrote =
      let one = rw c.board-item.is at c.in_ok-write_board.ensures.writes in
      one_more g.S.Shelf (text_of_board c.args.what g.C.Case.run) _ _ _ c.boards-of_ports.result.now c.boards.board-index _ c.boards-test.true c.boards.invariant.wrote _ one;
  printable =
      let board = rw c.board-item.is at c.in_ok-write_board.ensures.printable in
      All-more (λ board. IsPrintedWell c.args.what (journal_view board)) c.boards-of_ports.result.now c.boards.board-index _ c.boards-test.true c.boards.invariant.printable board;
}

pub returns-clause-writes : goal.returns-clause-writes
returns-clause-writes g c =
    let all = take_all c.boards.board-index c.boards-of_ports.result.now (omega arith) in
    rw (← c.boards-of_ports.ensures.journals, dump_text-is, ← all) c.boards.invariant.wrote

pub returns-clause-printable : goal.returns-clause-printable
returns-clause-printable g c =
    let all = take_all c.boards.board-index c.boards-of_ports.result.now (omega arith) in
    rw (← c.boards-of_ports.ensures.journals) (All-map (IsPrintedWell c.args.what) journal_view c.boards-of_ports.result.now (rw all at c.boards.invariant.printable))
