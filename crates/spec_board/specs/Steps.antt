-- The steps of a board, with their results.
use Rattle.std.specs.Prelude.{ℕ, List}
use Rattle.spec_board.specs.declared.looked.Looked.{Looked}
use Rattle.spec_board.specs.declared.put_done.PutDone.{PutDone}

-- What the settle of a frame did beside deciding it: an entry covers its key already; there are as many entries as
-- may be; or an entry of this number is new, and those that it overlaps, in rising order, are dropped.
pub data Settled : Type 0 where
  Present : ℕ → Settled
  Full : Settled
  Installed : ℕ → List ℕ → Settled

-- Open has a block; Look a place; Settle a place and a version; Begin a version; Put the number of an entry and a
-- version.
pub data Step : Type 0 where
  Open : ℕ → Step
  Look : ℕ → Looked → Step
  Settle : ℕ → ℕ → Settled → Step
  Begin : ℕ → Step
  Put : ℕ → ℕ → PutDone → Step
  End : Step
