use Rattle.std.proofs.Common.{◌≡◌, drop}
use Rattle.spec_keys.specs.Keys.{none}
use Rattle.ovs_fields.specs.Packed.{bits}
use Rattle.table_diff.specs.Following.{with_left}
use Rattle.table_diff.proofs.written.left_of.Given as goal

-- what is left of the fields leads where all of them lead
abbrev pub invariant-fields : goal.invariant-fields
invariant-fields l = with_left (bits l.known) (bits l.written) (drop l.field-index l.fields) (bits l.left) ≡ with_left (bits l.known) (bits l.written) l.fields none
