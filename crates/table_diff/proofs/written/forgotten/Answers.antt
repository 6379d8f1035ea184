use Rattle.std.proofs.Common.{List, ℕ, ap, ap₂, ◌∙◌}
use Rattle.spec_keys.specs.declared.field_id.FieldId.{FieldId}
use Rattle.spec_keys.specs.Keys.{none}
use Rattle.spec_xlate.specs.Lookup.{added}
use Rattle.ovs_fields.specs.Packed.{bits}
use Rattle.table_diff.specs.Following.{writes, with_left}
use Rattle.table_diff.proofs.written.forgotten.Goals as goal

pub returns : goal.returns
returns c =
    c.left_of.ensures
    ∙ ap₂ (λ (w : List ℕ) (fs : List FieldId). with_left (bits c.args.known.now) w fs none)
    (c.add_written.ensures ∙ ap (λ (m : List ℕ). added m (writes c.args.action)) c.none-written.ensures) c.all_fields.ensures
