-- What stands in a map from compact fields, by lists with a number for each field.
use Rattle.std.specs.Prelude.{ℕ, List, Option}
use Rattle.std.specs.Map.{lookup}
use Rattle.spec_keys.specs.Keys.{same}
use Rattle.masked_map.specs.declared.compact_map.CompactMap.{CompactMap}
use Rattle.masked_map.specs.Compact.{list_of}
use Rattle.masked_map.specs.Listed.{listed}

module _ {V : Type 0} where
  abbrev pub value_in : CompactMap V → List ℕ → Option V
  value_in m key = lookup (same key) (listed list_of m.by_key.entries)
