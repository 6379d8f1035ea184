use Rattle.std.proofs.Common.{◌≡◌, drop, map}
use Rattle.spec_xlate.specs.Consulted.{whole}
use Rattle.spec_xlate.specs.Lookup.{added}
use Rattle.ovs_fields.specs.Packed.{bits}
use Rattle.table_diff.proofs.whole.add_whole.Given as goal

-- what is left of the fields leads where all of them lead
abbrev pub invariant-fields : goal.invariant-fields
invariant-fields l = added (bits l.mask) (map whole (drop l.field-index l.fields)) ≡ added (bits l.fn.mask) (map whole l.fields)
