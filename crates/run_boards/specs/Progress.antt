-- How far a board is.
use Rattle.std.specs.Prelude.{◌≡◌, ◌⊎◌, ℕ, ◌+◌, ◌≤◌, ◌<◌, false, length}
use Rattle.spec_case.specs.Run.{Run, frames_of}
use Rattle.spec_case.specs.Blocks.{hi, last_block, block_of}
use Rattle.pmd_board.specs.BoardView.{BoardView, Appends, state_of}
use Rattle.spec_board.specs.declared.put_done.PutDone.{PutDone}
use Rattle.spec_board.specs.Steps.{Put}
use Rattle.spec_board.specs.Results.{key_at, translated}
use Rattle.spec_board.specs.State.{State, Place, Decided, place_at, is_pending, pending_count}
use Rattle.spec_board.specs.Journals.{IsFinished}
use Rattle.spec_board.specs.Decisions.{IsDecided}

-- the frame of a place, decided under the last version of its block
unfoldable pub planned : Run → ℕ → ℕ → Place
planned run port place =
    let v = hi run (block_of run port place) in
    Decided v (translated run v (key_at run port place)).actions

-- Each frame of a board is decided under the last version of its block.
abbrev pub ArePlanned : Run → BoardView → Type 0
ArePlanned run b = (place : ℕ) → 1 ≤ place → place ≤ length (frames_of run b.port) → place_at place (state_of run b) ≡ planned run b.port place

-- Each frame of a board is decided by one of the steps of its journal, under the last version of its block.
abbrev pub AreDecided : Run → BoardView → Type 0
AreDecided run b =
    (place : ℕ) → 1 ≤ place → place ≤ length (frames_of run b.port)
    → (d : IsDecided run b.port b.journal place) × (d.decision.version ≡ hi run (block_of run b.port place))

-- The frame of each place is as far as it was, or it is decided under the last version of its block.
abbrev pub OnlyPlans : Run → ℕ → State → State → Type 0
OnlyPlans run port before after = (place : ℕ) → (place_at place after ≡ place_at place before) ⊎ (place_at place after ≡ planned run port place)

-- The frames are as far as they were, in the same block.
pub record IsAsFar (before after : State) : Type 0 where
  pub block : after.block ≡ before.block
  pub next : after.next ≡ before.next
  pub places : after.places ≡ before.places

-- The same, and so are the sweeps but for what is listed.
pub record OnlyPuts (before after : State) : Type 0 where
  pub as_far : IsAsFar before after
  pub floor : after.floor ≡ before.floor
  pub done : after.done ≡ before.done
  pub is_sweeping : after.is_sweeping ≡ before.is_sweeping

-- The frame of a place that was pending is decided under the last version of its block.
pub record SettlesAsPlanned (run : Run) (port place : ℕ) (before after : State) : Type 0 where
  pub block : after.block ≡ before.block
  pub next : after.next ≡ before.next
  pub done : after.done ≡ before.done
  pub is_sweeping : after.is_sweeping ≡ before.is_sweeping
  pub pending : pending_count after + 1 ≡ pending_count before
  pub others : (other : ℕ) → (other ≡ place → ⊥) → place_at other after ≡ place_at other before
  pub decided : place_at place after ≡ planned run port place

-- A place is pending no more: if it was, its frame is decided under the last version of its block.
pub record LeavesNonePending (run : Run) (port place : ℕ) (before after : State) : Type 0 where
  pub block : after.block ≡ before.block
  pub next : after.next ≡ before.next
  pub is_sweeping : after.is_sweeping ≡ before.is_sweeping
  pub others : (other : ℕ) → (other ≡ place → ⊥) → place_at other after ≡ place_at other before
  pub only_plans : OnlyPlans run port before after
  pub none_pending : is_pending (place_at place after) ≡ false

-- It is in a block, at rest: no sweep runs, and no frame is pending.
pub record IsAtRest (s : State) (block : ℕ) : Type 0 where
  pub in_block : s.block ≡ block
  pub no_sweep : s.is_sweeping ≡ false
  pub none_pending : pending_count s ≡ 0

-- It is so, and a sweep of the last version of the block was completed.
pub record IsSwept (run : Run) (s : State) (block : ℕ) : Type 0 where
  pub at_rest : IsAtRest s block
  pub swept : s.done ≡ hi run block

-- It finished a block: it is in the next one, or after the last block nothing is left to be done.
pub record IsPast (run : Run) (s : State) (block : ℕ) : Type 0 where
  pub next : block < last_block run → s.block ≡ block + 1
  pub finished : block ≡ last_block run → IsFinished run s

-- The second board is the first with one more step, a legal put of an entry under a version.
pub record HasPut (run : Run) (before : BoardView) (number version : ℕ) (after : BoardView) : Type 0 where
  pub result : PutDone
  pub appends : Appends run before (Put number version result) after

-- It is the board of the same port, with the same limit.
pub record IsSameBoard (before after : BoardView) : Type 0 where
  pub port : after.port ≡ before.port
  pub limit : after.flow_limit ≡ before.flow_limit
