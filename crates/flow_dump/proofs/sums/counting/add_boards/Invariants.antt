use Rattle.flow_dump.proofs.sums.Boards.{AreCounted}
use Rattle.flow_dump.proofs.sums.counting.add_boards.Given as goal

abbrev pub invariant-boards : goal.invariant-boards
invariant-boards g l = AreCounted g.C.Case.run l.boards l.board-index l.counts
