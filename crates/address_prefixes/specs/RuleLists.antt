-- Lists of rules: of which one has a rule once more, and of which a key matches none.
use Rattle.std.specs.Prelude.{◌≡◌, ℕ, ◌+◌, Bool, false, if◌then◌else◌, List, count_by}
use Rattle.spec_tables.specs.Rules.{Rule, is_matched}
use Rattle.table_laws.specs.Members.{Among}

-- the second has this rule once more than the first, in whatever order they stand
abbrev pub HasOneMore : Rule → List Rule → List Rule → Type 0
HasOneMore r rs all = (p : Rule → Bool) → count_by p all ≡ count_by p rs + (if p r then 1 else 0)

-- a key matches none of the rules of a mask
abbrev pub NoneMatches : List ℕ → List ℕ → List Rule → Type 0
NoneMatches key mask rs = (r : Rule) → Among r rs → r.matching.mask ≡ mask → is_matched key r.matching ≡ false
