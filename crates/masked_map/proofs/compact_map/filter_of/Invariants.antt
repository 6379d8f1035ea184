use Rattle.std.proofs.Common.{◌≡◌, ℕ, false, List}
use Rattle.std.specs.Map.{lookup}
use Rattle.spec_keys.specs.Keys.{same}
use Rattle.masked_map.specs.Compact.{list_of}
use Rattle.masked_map.specs.Filters.{may_have}
use Rattle.masked_map.specs.Listed.{listed}
use Rattle.masked_map.proofs.compact_map.filter_of.Given as goal

-- what is ruled out isn't among the keys that were added
abbrev pub invariant-entries : goal.invariant-entries
invariant-entries g l =
    (q : List ℕ) → may_have l.filter q ≡ false → lookup (same q) (listed list_of l.key-iterator) ≡ lookup (same q) (listed list_of l.by_key.entries)
