use Rattle.std.proofs.Common.{◌≡◌, ℕ, ◌<◌, slice_index_or}
use Rattle.pmd_board.specs.BoardView.{BoardView, state_of}
use Rattle.run_boards.proofs.boards.are_in.Given as goal

abbrev pub invariant-boards : goal.invariant-boards
invariant-boards g l = (k : ℕ) (d : BoardView) → k < l.at → (state_of g.C.Case.run (slice_index_or l.boards k d)).block ≡ l.block
