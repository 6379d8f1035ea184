use Rattle.std.proofs.Common.{ℕ, List, ap₂, ◌∙◌}
use Rattle.std.specs.List.{flat_map}
use Rattle.spec_keys.specs.declared.field_id.FieldId.{FieldId}
use Rattle.spec_xlate.specs.Lookup.{added}
use Rattle.ovs_fields.specs.Packed.{numbers}
use Rattle.spec_tools.specs.TraceTexts.{carried_bits, carried}
use Rattle.ofp_trace.proofs.lines.keys.carried.Goals as goal

pub returns : goal.returns
unfolding carried
returns c =
    c.add_all_carried.ensures
    ∙ ap₂ (λ (m : List ℕ) (fs : List FieldId). added m (flat_map (carried_bits (numbers c.args.key.now)) fs)) c.none-mask.ensures c.all_fields.ensures
