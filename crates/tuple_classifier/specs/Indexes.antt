-- What is kept of the rules of one mask for lookups.
use Rattle.std.specs.Prelude.{◌≡◌, ℕ, ◌<◌, ◌==◌, List, count_by, vec_len, vec_capacity}
use Rattle.spec_tables.specs.Rules.{Rule}
use Rattle.address_prefixes.specs.Addresses.{AreOfMask}
use Rattle.tuple_classifier.specs.declared.indexes.Indexes.{Indexes}
use Rattle.tuple_classifier.specs.Numbers.{times, numbers_in}

-- they are those of these rules of a mask
pub record AreIndexes (x : Indexes) (mask : List ℕ) (rs : List Rule) : Type 0 where
  pub prefixed : AreOfMask x.prefixes mask
  pub prioritised : (n : ℕ) → times n (numbers_in x.priorities.items.items) ≡ count_by (λ r. r.priority == n) rs

-- there is room for one more rule
abbrev pub HaveRoom : Indexes → Type 0
HaveRoom x = vec_len x.priorities.items < vec_capacity x.priorities.items

-- a rule of this priority is among them
abbrev pub HavePriority : ℕ → Indexes → Type 0
HavePriority priority x = 0 < times priority (numbers_in x.priorities.items.items)
