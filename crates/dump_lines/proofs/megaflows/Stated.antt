-- What is stated of a field, behind a comma or not.
use Rattle.std.proofs.Common.{◌≡◌, ℕ, Bool, true, false, ◌==◌, List, [], ◌++◌, Ok, refl, ap, sym, append-nil, String, string_bytes}
use Rattle.spec_actions.specs.declared.named_field.NamedField.{NamedField}
use Rattle.spec_flow_text.specs.Values.{Bits, within_mask}
use Rattle.spec_flow_text.specs.Printed.{Value, shown_text, shown_bits}
use Rattle.text_numbers.specs.Added.{Adds}
use Rattle.match_text.specs.Shown.{lead, items_text}

-- no text
pub none_added : {Z A E : Type 0} (text : String Z) (x : A) → Adds {E = E} text text [] (Ok x)
none_added text x = record { text = sym (append-nil (string_bytes text)); kept = tt }

pub nothing_stated : (begun : Bool) (name : NamedField) (b : Bits) → (b.mask == 0) ≡ true → items_text begun (shown_bits name b) ≡ []
unfolding items_text
nothing_stated begun name b is = rw is refl

pub something_stated : (begun : Bool) (name : NamedField) (b : Bits) → (b.mask == 0) ≡ false
    → lead begun ++ shown_text (Value name (within_mask b)) ≡ items_text begun (shown_bits name b)
unfolding items_text
something_stated begun name b is =
    rw is (ap (λ t. lead begun ++ t) (sym (append-nil (shown_text (Value name (within_mask b))))))
