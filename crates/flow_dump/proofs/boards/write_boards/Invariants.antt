use Rattle.std.proofs.Common.{take}
use Rattle.std.specs.Prelude.{All}
use Rattle.std.specs.List.{flat_map}
use Rattle.edge_io.specs.Written.{HasWritten}
use Rattle.pmd_board.specs.BoardView.{journal_view}
use Rattle.flow_dump.specs.Boards.{IsPrintedWell}
use Rattle.flow_dump.proofs.Lines.{text_of_board}
use Rattle.flow_dump.proofs.boards.write_boards.Given as goal

abbrev pub invariant-boards : goal.invariant-boards
invariant-boards g l = record {
  wrote : HasWritten g.S.Shelf l.fn.shelf l.shelf (flat_map (text_of_board l.what g.C.Case.run) (take l.board-index l.of_ports));
  printable : All (λ board. IsPrintedWell l.what (journal_view board)) (take l.board-index l.of_ports);
}
