use Rattle.std.proofs.Common.{◌≡◌, ℕ, ◌+◌, ◌<◌, List, length, get_or, drop, ap, sym, ◌∙◌}
use Rattle.std.proofs.lemmas.List.{drop_more}
use Rattle.spec_keys.specs.declared.field_id.FieldId.{FieldId}
use Rattle.spec_keys.specs.Fields.{place_of}
use Rattle.spec_keys.specs.Keys.{value_of, joined, only_at}
use Rattle.ovs_fields.specs.Packed.{bits}
use Rattle.xlate_pipeline.specs.Parts.{with_part}
use Rattle.xlate_pipeline.proofs.registers.part_of.Goals as goal

-- one field more
next : (mask : List ℕ) (fields : List FieldId) (i : ℕ) (d : FieldId) (part part' : List ℕ) (value : ℕ) → i < length fields → value ≡ value_of mask (get_or fields i d)
    → part' ≡ joined part (only_at (place_of (get_or fields i d)) value) → with_part mask (drop (i + 1) fields) part' ≡ with_part mask (drop i fields) part
next mask fields i d part part' value within read one =
    ap (with_part mask (drop (i + 1) fields)) (one ∙ ap (λ (x : ℕ). joined part (only_at (place_of (get_or fields i d)) x)) read)
    ∙ sym (ap (λ (fs : List FieldId). with_part mask fs part) (drop_more fields i d within))

pub fields-preserved : goal.fields-preserved
fields-preserved c =
    next (bits c.args.mask.now) c.args.fields.now c.fields.field-index _ (bits c.fields.part) (bits c.add.new.self) c.get.result c.fields-test.true c.get.ensures.value c.add.ensures ∙ c.fields.invariant
