use Rattle.std.proofs.Common.{ℕ, ◌<◌, slice_index_or}
use Rattle.pmd_board.specs.BoardView.{BoardView}
use Rattle.run_boards.specs.Scheduled.{IsKnown}
use Rattle.run_boards.proofs.finished.recall_laws.Given as goal

abbrev pub invariant-boards : goal.invariant-boards
invariant-boards g l = (k : ℕ) (d : BoardView) → k < l.board-index → IsKnown g.C.Case.run (slice_index_or l.boards k d)
