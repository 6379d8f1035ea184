-- The checksum of the Internet protocols (RFC 1071), and how it is updated (RFC 1624).
use Rattle.std.specs.Prelude.{ℕ, ◌+◌, ◌-◌, ◌/◌, ◌%◌, ◌^◌, List, [], ◌∷◌, fold}

-- how many words of 16 bits there are
abbrev pub words : ℕ
words = 2 ^ 16

-- the ones' complement of a word
abbrev pub complement : ℕ → ℕ
complement word = words - 1 - word

-- the ones' complement sum: what is carried out of the word is added again at its end
abbrev pub ones_add : ℕ → ℕ → ℕ
ones_add a b = (a + b) % words + (a + b) / words

abbrev pub ones_sum : List ℕ → ℕ
ones_sum list = fold ones_add 0 list

-- the checksum of words of 16 bits, its own place among them being 0
unfoldable pub checksum : List ℕ → ℕ
checksum list = complement (ones_sum list)

-- the checksum after a word has changed (RFC 1624, equation 3)
unfoldable pub updated : ℕ → ℕ → ℕ → ℕ
updated sum from to = complement (ones_sum (complement sum ∷ complement from ∷ to ∷ []))
