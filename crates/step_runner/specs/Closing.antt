-- How a phase of workers ends.
use Rattle.std.specs.Prelude.{◌≡◌, ℕ, Bool, List, MatchBool, map}
use Rattle.spec_case.specs.Run.{Run}
use Rattle.spec_board.specs.Schedules as schedules
use Rattle.pmd_board.specs.BoardView.{BoardView}
use Rattle.run_boards.specs.Scheduled.{under_way, schedule_of}

-- where so many bundles are published, the boards of a phase finish its block if they fit; else all blocks are finished from
-- new boards
abbrev pub ClosesBy : Run → ℕ → List BoardView → Bool → List BoardView → Type 0
ClosesBy run newest boards fit left =
    MatchBool fit (schedule_of run newest left ≡ schedules.finish_block run (schedule_of run newest boards))
    (map (under_way run) left ≡ (schedules.finish run (schedules.new_schedule run)).boards)
