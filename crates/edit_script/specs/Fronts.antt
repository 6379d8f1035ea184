-- The front of a word, which tells it from all others if it is short.
use Rattle.std.specs.Prelude.{◌≡◌, ℕ, ◌<◌, ◌==◌, Bool, List, bytes_eq, length}
use Rattle.spec_flow_text.specs.Items.{Word}
use Rattle.edit_script.specs.declared.line_words.TheConstants.{LONG_WORD}

-- A word is short that has fewer bytes than `LONG_WORD`. No short word is told by the front as another one than by the
-- whole; and a short front is the whole.
pub record IsFront (front whole : Word) : Type 0 where
  pub same : (word : List ℕ) → length word < LONG_WORD → bytes_eq word front.text ≡ bytes_eq word whole.text
  pub short : length front.text < LONG_WORD → front ≡ whole

abbrev pub is_empty : Word → Bool
is_empty w = length w.text == 0
