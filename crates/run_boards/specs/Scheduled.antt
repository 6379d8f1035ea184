-- Boards, as the definition of schedules sees them.
use Rattle.std.specs.Prelude.{◌≡◌, ℕ, ◌<◌, ◌≤◌, ◌==◌, if◌then◌else◌, List, [], length, map, slice_index_or}
use Rattle.std.specs.List.{fold}
use Rattle.spec_case.specs.Run.{Run, last_version}
use Rattle.spec_case.specs.Blocks.{AreInOrder, last_block}
use Rattle.spec_board.specs.State.{place_at, is_pending}
use Rattle.spec_board.specs.Journals.{IsLegal, IsFinished}
use Rattle.spec_board.specs.Schedules as schedules
use Rattle.board_laws.specs.Entries.{HasKeys}
use Rattle.pmd_board.specs.BoardView.{BoardView, IsLawful, state_of}
use Rattle.run_boards.specs.Progress.{OnlyPlans, IsPast}

-- a board for which no translation is kept
abbrev pub under_way : Run → BoardView → schedules.Board
under_way run b = record { port = b.port; steps = b.journal; state = state_of run b; snaps = []; checks = [] }

-- boards, where so many bundles are published
abbrev pub schedule_of : Run → ℕ → List BoardView → schedules.Schedule
schedule_of run newest boards = record { newest = newest; boards = map (under_way run) boards; unmet = 0 }

-- the least block that one of them is in
abbrev pub block_to_finish : Run → List BoardView → ℕ
block_to_finish run boards = schedules.least_block (last_block run) (map (under_way run) boards)

-- a board each of whose listed entries is put under a version, in rising order
abbrev pub with_listed_put : Run → ℕ → schedules.Board → schedules.Board
with_listed_put run v b = fold (λ board number. schedules.put_at run v number board) b b.state.listed

-- a board whose frame of a place is settled under a version if it is pending
abbrev pub settled_if_pending : Run → ℕ → ℕ → schedules.Board → schedules.Board
settled_if_pending run v place b = if is_pending (place_at place b.state) then schedules.settle_at run v place b else b

-- a board after the turn of a block
abbrev pub finished_in : Run → ℕ → ℕ → schedules.Board → schedules.Board
finished_in run block v b = if b.state.block == block then schedules.finish_board run v b else b

-- nothing was done at the board
pub record IsNew (limit : ℕ) (b : BoardView) : Type 0 where
  pub has_limit : b.flow_limit ≡ limit
  pub no_steps : b.journal ≡ []

-- So many blocks are finished at a board, or all of them.
pub record HasDone (run : Run) (blocks : ℕ) (b : BoardView) : Type 0 where
  pub reached : blocks ≤ last_block run → blocks ≤ (state_of run b).block
  pub finished : last_block run < blocks → IsFinished run (state_of run b)

-- A board took the turn of a block: if it was in that block, it finished it, and else it is as it was.
pub record TookTurn (run : Run) (block v : ℕ) (before after : BoardView) : Type 0 where
  pub port : after.port ≡ before.port
  pub limit : after.flow_limit ≡ before.flow_limit
  pub scheduled : under_way run after ≡ finished_in run block v (under_way run before)
  pub only_plans : OnlyPlans run before.port (state_of run before) (state_of run after)
  pub past : (state_of run before).block ≡ block → IsPast run (state_of run after) block
  pub there : (state_of run before).block ≤ last_block run

-- Each of some boards took it.
pub record TookTurns (run : Run) (block v : ℕ) (before after : List BoardView) : Type 0 where
  pub count : length after ≡ length before
  pub each : (k : ℕ) (d : BoardView) → k < length before → TookTurn run block v (slice_index_or before k d) (slice_index_or after k d)

-- They are boards of the same ports. Each frame is as far as it was, or it is decided under the last version of its block.
pub record AreOnlyPlanned (run : Run) (before after : List BoardView) : Type 0 where
  pub count : length after ≡ length before
  pub ports : (k : ℕ) (d : BoardView) → k < length before → (slice_index_or after k d).port ≡ (slice_index_or before k d).port
  pub each : (k : ℕ) (d : BoardView) → k < length before
      → OnlyPlans run (slice_index_or before k d).port (state_of run (slice_index_or before k d)) (state_of run (slice_index_or after k d))

-- What is so of every board: its journal is legal, the frames that it looked up have keys, and the laws of boards hold.
pub record IsKnown (run : Run) (b : BoardView) : Type 0 where
  pub legal : IsLegal run b.port b.flow_limit b.journal
  pub keys : HasKeys run b.port (state_of run b).next
  pub in_order : AreInOrder run.syncs (last_version run)
  pub lawful : IsLawful run b
