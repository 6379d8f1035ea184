use Rattle.std.proofs.Common.{◌≡◌, ℕ, ◌+◌, ◌<◌, List, length, get_or, drop, map, ap, sym, ◌∙◌}
use Rattle.std.proofs.lemmas.List.{drop_more}
use Rattle.spec_keys.specs.declared.field_id.FieldId.{FieldId}
use Rattle.spec_keys.specs.Keys.{joined}
use Rattle.spec_xlate.specs.Lookup.{added}
use Rattle.spec_xlate.specs.Consulted.{whole}
use Rattle.ovs_fields.specs.Packed.{bits}
use Rattle.xlate_pipeline.proofs.fields.consult_fields.Goals as goal

-- one field more
next : (fields : List FieldId) (i : ℕ) (d : FieldId) (m m' : List ℕ) → i < length fields → m' ≡ joined m (whole (get_or fields i d))
    → added m' (map whole (drop (i + 1) fields)) ≡ added m (map whole (drop i fields))
next fields i d m m' within one =
    ap (λ (z : List ℕ). added z (map whole (drop (i + 1) fields))) one ∙ sym (ap (λ (fs : List FieldId). added m (map whole fs)) (drop_more fields i d within))

pub fields-preserved : goal.fields-preserved
fields-preserved c = next c.args.fields.now c.fields.field-index _ (bits c.fields.mask) (bits c.consult_whole.new.mask) c.fields-test.true c.consult_whole.ensures ∙ c.fields.invariant
