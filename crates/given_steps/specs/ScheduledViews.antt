-- What a board that takes given steps is seen as.
use Rattle.std.specs.Prelude.{List}
use Rattle.spec_case.specs.Run.{Run}
use Rattle.spec_board.specs.Schedules as schedules
use Rattle.pmd_board.specs.BoardView.{BoardView, state_of}

-- a board, and the places and entries for which translations are kept, each with its version
pub record ScheduledView : Type 0 where
  pub board : BoardView
  pub snaps : List schedules.Kept
  pub checks : List schedules.Kept

-- as the definition of schedules sees it
abbrev pub scheduled : Run → ScheduledView → schedules.Board
scheduled run b = record {
  port = b.board.port;
  steps = b.board.journal;
  state = state_of run b.board;
  snaps = b.snaps;
  checks = b.checks;
}
