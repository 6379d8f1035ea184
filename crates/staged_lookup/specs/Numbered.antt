-- Rules by their numbers.
use Rattle.std.specs.Prelude.{◌≡◌, ℕ, ◌≤◌, ◌==◌, not, List, filter, count_by}
use Rattle.spec_tables.specs.Rules.{Rule}
use Rattle.table_laws.specs.Members.{Among}

-- no two of the rules have the same number
abbrev pub AreDistinct : List Rule → Type 0
AreDistinct rs = (n : ℕ) → count_by (λ r. r.number == n) rs ≤ 1

-- the rules but the one of a number
abbrev pub without : ℕ → List Rule → List Rule
without number rs = filter (λ r. not (r.number == number)) rs

-- one of the rules has this number and this key
abbrev pub HasNumberAt : ℕ → List ℕ → List Rule → Type 0
HasNumberAt number key rs = (r : Rule) × Among r rs × (r.number ≡ number) × (r.matching.key ≡ key)

-- none of them has it
abbrev pub HasNoNumber : ℕ → List Rule → Type 0
HasNoNumber number rs = (r : Rule) → Among r rs → r.number ≡ number → ⊥
