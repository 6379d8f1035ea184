use Rattle.std.proofs.Common.{◌≡◌, drop}
use Rattle.std.specs.List.{flat_map}
use Rattle.spec_xlate.specs.Lookup.{added}
use Rattle.ovs_fields.specs.Packed.{numbers, bits}
use Rattle.spec_tools.specs.TraceTexts.{carried_bits}
use Rattle.ofp_trace.proofs.lines.keys.add_all_carried.Given as goal

-- what is left of the fields leads where all of them lead
abbrev pub invariant-fields : goal.invariant-fields
invariant-fields l =
    added (bits l.mask) (flat_map (carried_bits (numbers l.key)) (drop l.field-index l.fields))
    ≡ added (bits l.fn.mask) (flat_map (carried_bits (numbers l.key)) l.fields)
