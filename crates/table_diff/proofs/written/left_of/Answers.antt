use Rattle.std.proofs.Common.{◌≡◌, ℕ, ◌+◌, ◌<◌, ◌≤◌, ◌==◌, if◌then◌else◌, List, length, get_or, drop, ap, sym, ◌∙◌}
use Rattle.std.proofs.Math.ListN.{drop_of_length-le}
use Rattle.std.proofs.lemmas.List.{drop_more}
use Rattle.spec_keys.specs.declared.field_id.FieldId.{FieldId}
use Rattle.spec_keys.specs.Fields.{place_of}
use Rattle.spec_keys.specs.Keys.{value_of, joined, only_at}
use Rattle.ovs_fields.specs.Packed.{bits}
use Rattle.table_diff.specs.Following.{with_left}
use Rattle.table_diff.proofs.written.left_of.Goals as goal

-- one field more
next : (known written : List ℕ) (fields : List FieldId) (i : ℕ) (d : FieldId) (left left' : List ℕ) → i < length fields
    → left' ≡ (if value_of written (get_or fields i d) == 0 then joined left (only_at (place_of (get_or fields i d)) (value_of known (get_or fields i d))) else left)
    → with_left known written (drop (i + 1) fields) left' ≡ with_left known written (drop i fields) left
unfolding with_left
next known written fields i d left left' within one =
    ap (with_left known written (drop (i + 1) fields)) one
    ∙ sym (ap (λ (fs : List FieldId). with_left known written fs left) (drop_more fields i d within))

pub fields-preserved : goal.fields-preserved
fields-preserved c =
    next (bits c.args.known.now) (bits c.args.written.now) c.args.fields.now c.fields.field-index _ (bits c.fields.left) (bits c.add_left.new.left) c.fields-test.true c.add_left.ensures
    ∙ c.fields.invariant

pub returns : goal.returns
unfolding with_left
returns c =
    let past : length c.args.fields.now ≤ c.fields.field-index = c.fields-test.false in
    ap (λ (fs : List FieldId). with_left (bits c.args.known.now) (bits c.args.written.now) fs (bits c.fields.left)) (sym (drop_of_length-le c.args.fields.now past))
    ∙ c.fields.invariant
