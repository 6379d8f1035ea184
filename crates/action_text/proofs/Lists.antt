-- What a write within its field has.
use Rattle.std.proofs.Common.{ℕ, ◌^◌, nat_lt, IsTrue, ltb-true}
use Rattle.std.proofs.lemmas.Bool.{and_parts}
use Rattle.spec_keys.specs.declared.field_id.FieldId.{FieldId}
use Rattle.spec_keys.specs.Fields.{width_of}
use Rattle.spec_actions.specs.declared.action.DpAction.TheVariants.{Set}
use Rattle.spec_flow_text.specs.Within.{is_within_field}
use Rattle.field_text.specs.Views.{FitsWidth}

pub set_fits : (f : FieldId) (value mask : ℕ) → IsTrue (is_within_field (Set f value mask)) → FitsWidth f (record { value = value; mask = mask })
set_fits f value mask within =
    let fits = and_parts (nat_lt value (2 ^ width_of f)) (nat_lt mask (2 ^ width_of f)) within in
    (ltb-true value (2 ^ width_of f) fits.0, ltb-true mask (2 ^ width_of f) fits.1)
