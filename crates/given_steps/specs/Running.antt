-- The boards of a run on which given steps are taken, and what is left of them when the last one was.
use Rattle.std.specs.Prelude.{◌≡◌, ℕ, Bool, ◌==◌, if◌then◌else◌, List, [], map, Option}
use Rattle.std.specs.List.{find}
use Rattle.spec_case.specs.declared.run_step.RunStep.{RunStep}
use Rattle.spec_case.specs.Run.{Run}
use Rattle.spec_case.specs.Blocks.{last_block}
use Rattle.spec_board.specs.Schedules.{Board, Schedule, least_block}
use Rattle.spec_board.specs.GivenSteps.{counted, given_step, port_of, with_step_at}
use Rattle.given_steps.specs.ByNumber.{all_by_number}
use Rattle.given_steps.specs.ScheduledViews.{ScheduledView, scheduled}

-- There is one for each port, in the order of the words.
abbrev pub AreOfPorts : Run → List ScheduledView → Type 0
AreOfPorts run boards = map (λ (b : ScheduledView). b.board.port) boards ≡ run.ports

-- as the definition of schedules sees them, where so many bundles are published and so many steps were not met
abbrev pub schedule_in : Run → ℕ → ℕ → List ScheduledView → Schedule
schedule_in run newest unmet boards = record { newest = newest; boards = map (scheduled run) boards; unmet = unmet }

-- the least block that one of them is in
abbrev pub block_of_all : Run → List ScheduledView → ℕ
block_of_all run boards = least_block (last_block run) (map (scheduled run) boards)

-- the board of a port
abbrev pub board_of : ℕ → List Board → Option Board
board_of port boards = find (λ (b : Board). b.port == port) boards

-- the board of a port after a given step, and another as it is
abbrev pub stepped_at : Run → ℕ → RunStep → ℕ → Board → Board
stepped_at run newest step port b = if b.port == port then (given_step run newest step b).1 else b

-- a board whose kept translations are given up
abbrev pub without_kept : Board → Board
without_kept b = record b { snaps = []; checks = [] }

-- A given step does to the boards and to how many bundles are published what the definition has it do, in whatever order
-- translations are kept, and is counted where it isn't met.
abbrev pub TakesGiven : Run → RunStep → ℕ → List ScheduledView → Bool → ℕ → List ScheduledView → Type 0
TakesGiven run step newest before met newest_then after =
    (unmet : ℕ) → all_by_number (schedule_in run newest_then (counted met unmet) after) ≡ all_by_number (with_step_at run step (port_of step) (schedule_in run newest unmet before))
