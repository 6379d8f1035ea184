-- Boards under way, of which is asked what is kept for each number and not in which order: no step depends on that.
use Rattle.std.specs.Prelude.{ℕ, List, map, Option}
use Rattle.spec_board.specs.Steps.{Step}
use Rattle.spec_board.specs.State.{State}
use Rattle.spec_board.specs.Schedules.{Board, Schedule}
use Rattle.given_steps.specs.Translations.{versions}

pub record NumberedBoard : Type 0 where
  pub port : ℕ
  pub steps : List Step
  pub state : State
  pub snaps : ℕ → Option ℕ
  pub checks : ℕ → Option ℕ

abbrev pub by_number : Board → NumberedBoard
by_number b = record {
  port = b.port;
  steps = b.steps;
  state = b.state;
  snaps = versions b.snaps;
  checks = versions b.checks;
}

pub record NumberedSchedule : Type 0 where
  pub newest : ℕ
  pub boards : List NumberedBoard
  pub unmet : ℕ

abbrev pub all_by_number : Schedule → NumberedSchedule
all_by_number s = record { newest = s.newest; boards = map by_number s.boards; unmet = s.unmet }
