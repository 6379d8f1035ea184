use Rattle.std.proofs.Common.{take}
use Rattle.std.specs.List.{flat_map}
use Rattle.edge_io.specs.Written.{HasWritten}
use Rattle.pmd_board.specs.BoardView.{state_of}
use Rattle.flow_dump.specs.Numbered.{line_of_number}
use Rattle.flow_dump.proofs.megaflows.write_entries.Given as goal

abbrev pub invariant-numbers : goal.invariant-numbers
invariant-numbers g l =
    HasWritten g.S.Shelf l.fn.shelf l.shelf (flat_map (line_of_number l.board.port (state_of g.C.Case.run l.board).entries) (take l.number-index l.live))
