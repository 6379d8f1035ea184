-- When two lists of written slots are the same cache. The definitions put the newest slot in front and leave an older
-- one of that number behind it, where nothing finds it.
use Rattle.std.specs.Prelude.{◌≡◌, ℕ, List}
use Rattle.spec_board.specs.State.{Slot}
use Rattle.spec_board.specs.Cache.{slot_at}

-- Each slot holds the same in both.
abbrev pub AreSameSlots : List Slot → List Slot → Type 0
AreSameSlots a b = (number : ℕ) → slot_at a number ≡ slot_at b number
