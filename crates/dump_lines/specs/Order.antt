-- Places in the order of the dump.
use Rattle.std.specs.Prelude.{Bool, List}
use Rattle.std.specs.Ordering.{nat_cmp, is_lt, ordering_then}
use Rattle.std.specs.declared.cmp.Ordering.{Ordering}
use Rattle.spec_base.specs.Sorting.{sort_by}
use Rattle.dump_lines.specs.declared.rules.places.RulePlace.{RulePlace}

-- by table, then by falling priority, then by number
abbrev pub place_cmp : RulePlace → RulePlace → Ordering
place_cmp a b = ordering_then (nat_cmp a.table b.table) (ordering_then (nat_cmp b.priority.0 a.priority.0) (nat_cmp a.number b.number))

abbrev pub stands_before : RulePlace → RulePlace → Bool
stands_before a b = is_lt (place_cmp a b)

abbrev pub places_in_order : List RulePlace → List RulePlace
places_in_order places = sort_by stands_before places
