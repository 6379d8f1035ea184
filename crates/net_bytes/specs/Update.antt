-- The update of a checksum, against computing it anew.
use Rattle.std.specs.Prelude.{◌≡◌, ℕ, ◌-◌, ◌<◌, List, ◌∷◌, ◌++◌, All, Any}
use Rattle.spec_exec.specs.Checksum.{words, checksum, updated}

-- a word of 16 bits
abbrev pub IsWord : ℕ → Type 0
IsWord word = word < words

-- One of the words was `from` and is `to` now: the updated checksum is the one of the words as they are now, if any of
-- these is above 0. If all are 0, the two are the two zeros of ones' complement.
pub record IsRecomputed (before now : List ℕ) (from to : ℕ) : Type 0 where
  pub same : Any (λ word. 0 < word) now → updated (checksum before) from to ≡ checksum now
  pub zeros : All (λ word. word ≡ 0) now → (updated (checksum before) from to ≡ 0) × (checksum now ≡ words - 1)

-- Wherever a word changes, updating is recomputing.
abbrev pub UpdateIsRecomputing : Type 0
UpdateIsRecomputing = (prefix back : List ℕ) (from to : ℕ) → All IsWord prefix → All IsWord back → IsWord from → IsWord to
    → IsRecomputed (prefix ++ from ∷ back) (prefix ++ to ∷ back) from to
