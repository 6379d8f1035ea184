-- The line of a look, in the parts that lines before it may have too.
use Rattle.std.specs.Prelude.{◌≡◌, ℕ, zero, suc, ◌<◌, List, [], ◌∷◌, ◌++◌, length, slice_set, codes}
use Rattle.std.specs.Fmt.{decimal}
use Rattle.spec_board.specs.declared.looked.Looked.{Looked}
use Rattle.spec_board.specs.Texts.{line_of, looked_text}

-- the digits of a place before the last one, where these are its tens
abbrev pub leading : ℕ → List ℕ
leading zero = []
leading (suc n) = decimal (suc n)

-- what stands before the last digit of a place
abbrev pub head_text : ℕ → List ℕ
head_text tens = codes "look " ++ leading tens

-- what stands behind the place
abbrev pub tail_text : Looked → List ℕ
tail_text result = line_of (codes " " ++ looked_text result)

-- A text is the line of looks that found this, at places of these tens, but for the last digit of the place, which stands here.
pub record IsLookLine (tens : ℕ) (found : Looked) (digit : ℕ) (text : List ℕ) : Type 0 where
  pub within : digit < length text
  pub line : (last : ℕ) → slice_set text digit last ≡ (head_text tens ++ last ∷ []) ++ tail_text found
