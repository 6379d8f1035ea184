use Rattle.std.proofs.Common.{ℕ, List, map, ap, ap₂, ◌∙◌}
use Rattle.spec_keys.specs.declared.field_id.FieldId.{FieldId}
use Rattle.spec_keys.specs.Fields.{register_fields}
use Rattle.spec_xlate.specs.Consulted.{whole, without}
use Rattle.spec_xlate.specs.Lookup.{added}
use Rattle.table_diff.proofs.WholeLaws.{all_bits_same}
use Rattle.table_diff.proofs.whole.frame_bits.Goals as goal

pub returns-clause-one : goal.returns-clause-one
returns-clause-one c a b fa fb h =
    all_bits_same a b _ fa fb
    (c.without_registers.ensures
    ∙ ap (without register_fields) (c.add_whole.ensures ∙ ap₂ (λ (m : List ℕ) (fs : List FieldId). added m (map whole fs)) c.none-mask.ensures c.all_fields.ensures)) h
