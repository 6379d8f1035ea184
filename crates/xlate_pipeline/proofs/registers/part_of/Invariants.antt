use Rattle.std.proofs.Common.{◌≡◌, drop}
use Rattle.spec_keys.specs.Keys.{none}
use Rattle.ovs_fields.specs.Packed.{bits}
use Rattle.xlate_pipeline.specs.Parts.{with_part}
use Rattle.xlate_pipeline.proofs.registers.part_of.Given as goal

-- what is left of the fields leads where all of them lead
abbrev pub invariant-fields : goal.invariant-fields
invariant-fields l = with_part (bits l.mask) (drop l.field-index l.fields) (bits l.part) ≡ with_part (bits l.mask) l.fields none
