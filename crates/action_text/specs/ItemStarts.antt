-- Where items begin.
use Rattle.std.specs.Prelude.{◌≡◌, ℕ, ◌<◌, true, false, List, [], length, slice_index}
use Rattle.spec_flow_text.specs.Items.{Word, is_separator}
use Rattle.spec_flow_text.specs.Actions.{items}

-- the items of a stretch of a line
abbrev pub items_in : Word → List Word
items_in w = items [] true w.at w.text

-- An item stands at the start of a text, if the text isn't empty.
abbrev pub BeginsItem : List ℕ → Type 0
BeginsItem text = 0 < length text → is_separator (slice_index text 0) ≡ false
