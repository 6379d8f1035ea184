use Rattle.std.proofs.Common.{◌≡◌, ℕ, ◌+◌, ◌<◌, List, length, get_or, drop, ap, sym, ◌∙◌}
use Rattle.std.specs.List.{flat_map}
use Rattle.std.proofs.lemmas.List.{drop_more}
use Rattle.spec_keys.specs.declared.field_id.FieldId.{FieldId}
use Rattle.spec_xlate.specs.Lookup.{added}
use Rattle.table_laws.proofs.UnionLaws.{added-append}
use Rattle.ovs_fields.specs.Packed.{numbers, bits}
use Rattle.spec_tools.specs.TraceTexts.{carried_bits}
use Rattle.ofp_trace.proofs.lines.keys.add_all_carried.Goals as goal

-- one field more
next : (of : FieldId → List (List ℕ)) (fields : List FieldId) (i : ℕ) (d : FieldId) (m m' : List ℕ) → i < length fields → m' ≡ added m (of (get_or fields i d))
    → added m' (flat_map of (drop (i + 1) fields)) ≡ added m (flat_map of (drop i fields))
next of fields i d m m' within one =
    ap (λ (z : List ℕ). added z (flat_map of (drop (i + 1) fields))) one
    ∙ sym (added-append m (of (get_or fields i d)) (flat_map of (drop (i + 1) fields)))
    ∙ sym (ap (λ (fs : List FieldId). added m (flat_map of fs)) (drop_more fields i d within))

pub fields-preserved : goal.fields-preserved
fields-preserved c =
    next (carried_bits (numbers c.args.key.now)) c.args.fields.now c.fields.field-index _ (bits c.fields.mask) (bits c.add_carried.new.mask) c.fields-test.true c.add_carried.ensures
    ∙ c.fields.invariant
