use Rattle.std.proofs.Common.{◌≡◌, ◌++◌}
use Rattle.masked_map.specs.Compact.{list_of}
use Rattle.masked_map.specs.Maps.{wanted_values, listed}
use Rattle.masked_map.proofs.map.add_with_bits.Given as goal

-- what was added, and what is left
abbrev pub invariant-entries : goal.invariant-entries
invariant-entries g l =
    l.found.items ++ wanted_values (list_of l.wanted) (list_of l.mask) (listed list_of l.fields-iterator)
    ≡ l.initial.found.items ++ wanted_values (list_of l.wanted) (list_of l.mask) (listed list_of l.map.entries)
