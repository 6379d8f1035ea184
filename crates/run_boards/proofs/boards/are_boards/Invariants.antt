use Rattle.std.proofs.Common.{ℕ, ◌<◌, slice_index_or}
use Rattle.pmd_board.specs.BoardView.{BoardView}
use Rattle.run_boards.specs.Boards.{IsOf}
use Rattle.run_boards.proofs.boards.are_boards.Given as goal

abbrev pub invariant-boards : goal.invariant-boards
invariant-boards g l = (k : ℕ) (d : BoardView) → k < l.at → IsOf l.flow_limit (slice_index_or l.ports k 0) (slice_index_or l.boards k d)
