-- What prefixes tell of a number.
use Rattle.std.specs.Prelude.{◌≡◌, ℕ, suc, ◌<◌, ◌≤◌, max, if◌then◌else◌, List}
use Rattle.std.specs.Int.{bit_at}
use Rattle.spec_xlate.specs.Lookup.{Prefix, some_begins, deciding}
use Rattle.table_laws.specs.Members.{Among}
use Rattle.address_prefixes.specs.declared.tracker.found.Found.{Found}
use Rattle.address_prefixes.specs.Prefixes.{in_common}

-- 1 where a number of this width begins with one of the prefixes that have n + 1 bits, and else 0
abbrev pub begun : ℕ → ℕ → ℕ → List Prefix → ℕ
begun width value n ps = if some_begins width value (suc n) ps then 1 else 0

-- it is what the prefixes tell of a number
pub record IsFound (width value : ℕ) (found : Found) (ps : List Prefix) : Type 0 where
  pub lengths : (n : ℕ) → bit_at found.lengths n ≡ begun width value n ps
  pub bits : found.bits ≡ deciding width value ps

-- what was found, and what these prefixes tell besides
pub record Adds (width value : ℕ) (old new : Found) (ps : List Prefix) : Type 0 where
  pub lengths : (n : ℕ) → bit_at new.lengths n ≡ max (bit_at old.lengths n) (begun width value n ps)
  pub bits : new.bits ≡ max old.bits (deciding width value ps)

-- what all prefixes tell is what was found, and what those that are left tell besides
pub record Leaves (width value : ℕ) (all : List Prefix) (found : Found) (left : List Prefix) : Type 0 where
  pub lengths : (n : ℕ) → begun width value n all ≡ max (bit_at found.lengths n) (begun width value n left)
  pub bits : deciding width value all ≡ max found.bits (deciding width value left)

-- a prefix is longer than n bits, of which a number has just these in common with it
pub record IsApart (width value n : ℕ) (p : Prefix) : Type 0 where
  pub long : n < p.length
  pub within : p.length ≤ width
  pub common : in_common width value p.value ≡ n

abbrev pub AllApart : ℕ → ℕ → ℕ → List Prefix → Type 0
AllApart width value n ps = (p : Prefix) → Among p ps → IsApart width value n p
