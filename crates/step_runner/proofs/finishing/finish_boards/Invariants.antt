use Rattle.std.proofs.Common.{◌≡◌, ℕ, ◌<◌, ◌≤◌, length, slice_index_or}
use Rattle.pmd_board.specs.BoardView.{BoardView}
use Rattle.run_boards.specs.Scheduled.{TookTurn}
use Rattle.step_runner.proofs.finishing.finish_boards.Given as goal

abbrev pub invariant-boards : goal.invariant-boards
invariant-boards g l = record {
  count : length l.board-items ≡ length l.initial.board-items;
  others : (k : ℕ) (d : BoardView) → l.board-index ≤ k → slice_index_or l.board-items k d ≡ slice_index_or l.initial.board-items k d;
  done : (k : ℕ) (d : BoardView) → k < l.board-index → TookTurn g.C.Case.run l.block l.tables (slice_index_or l.initial.board-items k d) (slice_index_or l.board-items k d);
}
