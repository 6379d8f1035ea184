-- What a given step does.
use Rattle.std.specs.Prelude.{◌≡◌, ℕ, Bool, if◌then◌else◌, List}
use Rattle.spec_case.specs.Run.{Run}
use Rattle.spec_case.specs.declared.run_step.RunStep.{RunStep}
use Rattle.spec_board.specs.Schedules as schedules
use Rattle.spec_board.specs.GivenSteps.{given_step}
use Rattle.pmd_board.specs.BoardView.{BoardView, state_of}
use Rattle.run_boards.specs.Scheduled.{under_way}
use Rattle.given_steps.specs.Keys.{IsKeyOfEntry}
use Rattle.given_steps.specs.ScheduledViews.{ScheduledView, scheduled}
use Rattle.given_steps.specs.ByNumber.{by_number}

-- It is the board of the same port, with the same limit. The entries that are still live have the keys that they had.
pub record GoesOn (run : Run) (before after : BoardView) : Type 0 where
  pub port : after.port ≡ before.port
  pub limit : after.flow_limit ≡ before.flow_limit
  pub keys : (number : ℕ) (key : List ℕ) → IsKeyOfEntry (state_of run before) number key → IsKeyOfEntry (state_of run after) number key

-- A step was taken exactly where it may be: then the board has it, and else it is as it was.
pub record TookIf (run : Run) (may : Bool) (stepped : schedules.Board) (before : BoardView) (took : Bool)
    (after : BoardView) : Type 0 where
  pub met : took ≡ may
  pub taken : under_way run after ≡ (if took then stepped else under_way run before)

-- A given step was met exactly where the definition has it, and the board is after it as the definition has it, in
-- whatever order translations are kept.
pub record Takes (run : Run) (newest : ℕ) (step : RunStep) (before : ScheduledView) (met : Bool)
    (after : ScheduledView) : Type 0 where
  pub met_is : met ≡ (given_step run newest step (scheduled run before)).0
  pub taken : by_number (scheduled run after) ≡ by_number (given_step run newest step (scheduled run before)).1
  pub port : after.board.port ≡ before.board.port
