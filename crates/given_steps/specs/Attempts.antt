-- The steps of a board that are taken if nothing refuses them: each says whether it was, and what the board is then.
use Rattle.std.specs.Prelude.{ℕ, Bool}
use Rattle.std.specs.Option.{is_none}
use Rattle.spec_case.specs.Run.{Run}
use Rattle.spec_board.specs.Refusals.{open_fault, look_fault, settle_fault, begin_fault, put_fault, end_fault}
use Rattle.spec_board.specs.Schedules as schedules
use Rattle.spec_board.specs.Steps.{Open, Begin, End}
use Rattle.pmd_board.specs.BoardView.{BoardView, state_of}
use Rattle.run_boards.specs.Scheduled.{under_way}
use Rattle.given_steps.specs.Taken.{TookIf}

-- a block is opened
abbrev pub TookOpen : Run → ℕ → BoardView → Bool → BoardView → Type 0
TookOpen run block old took new = TookIf run (is_none (open_fault run old.port (state_of run old) block)) (schedules.with_step run (Open block) (under_way run old)) old took new

-- the frame at a place is looked up, which is the next one
abbrev pub TookLook : Run → ℕ → BoardView → Bool → BoardView → Type 0
TookLook run place old took new = TookIf run (is_none (look_fault run old.port (state_of run old) place)) (schedules.look_next run (under_way run old)) old took new

-- the frame at a place is settled by a translation under a version
abbrev pub TookSettle : Run → ℕ → ℕ → BoardView → Bool → BoardView → Type 0
TookSettle run version place old took new = TookIf run (is_none (settle_fault run (state_of run old) place version)) (schedules.settle_at run version place (under_way run old)) old took new

-- a sweep begins, under a version
abbrev pub TookBegin : Run → ℕ → BoardView → Bool → BoardView → Type 0
TookBegin run version old took new = TookIf run (is_none (begin_fault run (state_of run old) version)) (schedules.with_step run (Begin version) (under_way run old)) old took new

-- the entry of a number is put by a translation under a version
abbrev pub TookPut : Run → ℕ → ℕ → BoardView → Bool → BoardView → Type 0
TookPut run version number old took new = TookIf run (is_none (put_fault run (state_of run old) number version)) (schedules.put_at run version number (under_way run old)) old took new

-- the sweep ends
abbrev pub TookEnd : Run → BoardView → Bool → BoardView → Type 0
TookEnd run old took new = TookIf run (is_none (end_fault (state_of run old))) (schedules.with_step run End (under_way run old)) old took new
