-- The versions of a board, in order.
use Rattle.std.specs.Prelude.{◌≡◌, ◌≤◌, false, []}
use Rattle.spec_case.specs.Run.{Run}
use Rattle.spec_case.specs.Blocks.{hi, lo, last_block}
use Rattle.spec_board.specs.State.{Entry, State}
use Rattle.spec_board.specs.Effects.{is_among}

-- The versions of a board stand in order, within those of its block, which is one of the run. Between sweeps no entry
-- is listed.
pub record HasVersionsInOrder (run : Run) (s : State) : Type 0 where
  pub from_block : lo run s.block ≤ s.done
  pub done_floor : s.done ≤ s.floor
  pub floor_newest : s.floor ≤ s.newest
  pub within_block : s.newest ≤ hi run s.block
  pub at_rest : s.is_sweeping ≡ false → s.done ≡ s.floor
  pub none_listed : s.is_sweeping ≡ false → s.listed ≡ []
  pub block_there : s.block ≤ last_block run

-- The version of an entry is one of those that may decide; one that isn't listed was translated since the last sweep
-- began.
pub record IsRecent (s : State) (e : Entry) : Type 0 where
  pub not_older : s.done ≤ e.version
  pub not_newer : e.version ≤ s.newest
  pub swept : is_among s.listed e.number ≡ false → s.floor ≤ e.version
