-- The keys for which translations are kept.
use Rattle.std.specs.Prelude.{◌≡◌, ℕ, ◌≤◌, List, Some}
use Rattle.spec_case.specs.Run.{Run}
use Rattle.spec_board.specs.State.{Entry, State}
use Rattle.spec_board.specs.Results.{key_at, entry_of}
use Rattle.run_case.specs.Places.{HasPlace}

-- There is such a place, and this is the key of its frame.
pub record IsKeyOfPlace (run : Run) (port place : ℕ) (key : List ℕ) : Type 0 where
  pub there : HasPlace run port place
  pub same : key ≡ key_at run port place

-- Such an entry was made, and for as long as it is live this is its key. No other entry ever has the number.
pub record IsKeyOfEntry (s : State) (number : ℕ) (key : List ℕ) : Type 0 where
  pub made : number ≤ s.made
  pub same : (e : Entry) → entry_of number s.entries ≡ Some e → key ≡ e.key
