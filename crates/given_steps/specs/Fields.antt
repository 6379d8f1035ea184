-- What the type of a board that takes given steps keeps.
use Rattle.std.specs.Prelude.{◌≡◌, ℕ}
use Rattle.spec_case.specs.Run.{Run}
use Rattle.spec_board.specs.State.{State}
use Rattle.run_xlate.specs.Views.{XlateView}
use Rattle.pmd_board.specs.BoardView.{state_of}
use Rattle.given_steps.specs.Translations.{kept_views, Each}
use Rattle.given_steps.specs.Keys.{IsKeyOfPlace, IsKeyOfEntry}
use Rattle.given_steps.specs.ScheduledViews.{ScheduledView}
use Rattle.given_steps.specs.declared.scheduled_board.ScheduledBoard.TheInside.{Inside}

abbrev pub view_of : {X : Type 0} → Inside X → ScheduledView
view_of b = record { board = b.board; snaps = kept_views b.snaps.entries; checks = kept_views b.checks.entries }

-- A translation is of the frame of its place, or of the entry of its number.
abbrev pub IsOfPlace : Run → ℕ → ℕ → XlateView → Type 0
IsOfPlace run port place xlate = IsKeyOfPlace run port place xlate.key

abbrev pub IsOfEntry : State → ℕ → XlateView → Type 0
IsOfEntry s number xlate = IsKeyOfEntry s number xlate.key

-- The board has the flow limit of the run, and each translation is of what it is kept for.
pub record IsKept {X : Type 0} (run : Run) (b : Inside X) : Type 0 where
  pub limit : b.board.flow_limit ≡ run.flow_limit
  pub snaps : Each (IsOfPlace run b.board.port) b.snaps.entries
  pub checks : Each (IsOfEntry (state_of run b.board)) b.checks.entries
