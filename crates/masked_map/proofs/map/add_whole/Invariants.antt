use Rattle.std.proofs.Common.{◌≡◌, ◌++◌}
use Rattle.ovs_fields.specs.Packed.{numbers, bits}
use Rattle.masked_map.specs.Maps.{agreeing, listed}
use Rattle.masked_map.proofs.map.add_whole.Given as goal

-- what was added, and what is left
abbrev pub invariant-entries : goal.invariant-entries
invariant-entries g l =
    l.found.items ++ agreeing (numbers l.key) (bits l.mask) (listed numbers l.own-iterator)
    ≡ l.initial.found.items ++ agreeing (numbers l.key) (bits l.mask) (listed numbers l.map.entries)
