-- What the exact-match cache keeps of a look.
use Rattle.std.specs.Prelude.{ℕ, List}
use Rattle.spec_board.specs.declared.looked.Looked.{Looked}
use Rattle.spec_board.specs.declared.looked.Looked.TheVariants.{Exact, Mega, Miss}
use Rattle.spec_board.specs.State.{Slot}
use Rattle.spec_board.specs.Cache.{with_cached}

-- the slots after a look of a key
abbrev pub slots_after : Looked → List ℕ → List Slot → List Slot
slots_after (Exact n) key slots = slots
slots_after (Mega n) key slots = with_cached key n slots
slots_after Miss key slots = slots
