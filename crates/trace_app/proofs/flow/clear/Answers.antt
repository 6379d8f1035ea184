use Rattle.std.proofs.Common.{◌≡◌, ℕ, ◌+◌, ◌<◌, List, length, get_or, set, drop, ap, sym, ◌∙◌}
use Rattle.std.proofs.lemmas.List.{drop_more}
use Rattle.spec_keys.specs.declared.field_id.FieldId.{FieldId}
use Rattle.spec_keys.specs.Fields.{place_of}
use Rattle.spec_xlate.specs.Consulted.{without}
use Rattle.ovs_fields.specs.Packed.{numbers}
use Rattle.trace_app.proofs.flow.clear.Goals as goal

-- one field more
next : (fields : List FieldId) (i : ℕ) (d : FieldId) (m m' : List ℕ) → i < length fields → m' ≡ set m (place_of (get_or fields i d)) 0
    → without (drop (i + 1) fields) m' ≡ without (drop i fields) m
next fields i d m m' within one =
    ap (without (drop (i + 1) fields)) one ∙ sym (ap (λ (fs : List FieldId). without fs m) (drop_more fields i d within))

pub fields-preserved : goal.fields-preserved
fields-preserved c = next c.args.fields.now c.fields.field-index _ (numbers c.fields.key) (numbers c.set.new.self) c.fields-test.true c.set.ensures ∙ c.fields.invariant
