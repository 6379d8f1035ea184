-- Printed bits of a named field are read as those bits.
use Rattle.std.proofs.Common.{◌≡◌, ℕ, ◌<◌, ◌≤◌, ◌^◌, Bool, true, false, cond, List, ◌∷◌, ◌++◌, refl, sym, ap, ◌∙◌, Some, decimal, eqb-true}
use Rattle.std.specs.Prelude.{◌||◌, ◌==◌}
use Rattle.std.proofs.lemmas.Bool.{both_ways}
use Rattle.spec_base.specs.Bits.{all_bits}
use Rattle.spec_keys.specs.Fields.{Form, Decimal, Hexadecimal, FourDigits, Mac, Ipv4, Ipv6}
use Rattle.spec_actions.specs.declared.named_field.NamedField.{NamedField}
use Rattle.spec_actions.specs.declared.named_field.NamedField.TheVariants as field
use Rattle.spec_actions.specs.Named.{named}
use Rattle.spec_flow_text.specs.Characters.{slash, is_value_character}
use Rattle.spec_flow_text.specs.Numbers.{where_found, split_once, number_upto, mac}
use Rattle.spec_flow_text.specs.Addresses.{ipv4, ipv6, ipv4_mask, ipv6_mask}
use Rattle.spec_flow_text.specs.NumbersPrinted.{hexadecimal, hexadecimal4, mac_text, ipv4_text, ipv6_text, ipv4_mask_text, ipv6_mask_text}
use Rattle.spec_flow_text.specs.declared.part.ValueForm.{ValueForm}
use Rattle.spec_flow_text.specs.declared.part.ValueForm.TheVariants as form
use Rattle.spec_flow_text.specs.Values.{Bits, bits, form_of, most_of, value_in, mask_in, whole_value, masked_value, value_of}
use Rattle.spec_flow_text.specs.Printed.{printed_form, value_text, masked_text, mask_text, value_and_mask, value_of_form, value_in_text}
use Rattle.text_laws.proofs.Cuts.{lacks_by, split_once-front, split_once-lacks}
use Rattle.text_laws.proofs.PlainValues.{ValueTexts, HasValueCharacters}

-- what is known of printed values that are read
pub record ReadValues : Type 0 where
  pub texts : ValueTexts
  pub decimal_characters : (n : ℕ) → n < 2 ^ 128 → HasValueCharacters (decimal n)
  pub hexadecimal_characters : (n : ℕ) → n < 2 ^ 128 → HasValueCharacters (hexadecimal n)
  pub decimals : (most n : ℕ) → n ≤ most → n < 2 ^ 128 → number_upto most (decimal n) ≡ Some n
  pub hexadecimals : (most n : ℕ) → n ≤ most → n < 2 ^ 128 → number_upto most (hexadecimal n) ≡ Some n
  pub four_digits : (most n : ℕ) → n ≤ most → n < 2 ^ 16 → number_upto most (hexadecimal4 n) ≡ Some n
  pub macs : (n : ℕ) → n < 2 ^ 48 → mac (mac_text n) ≡ Some n
  pub ipv4s : (n : ℕ) → n < 2 ^ 32 → ipv4 (ipv4_text n) ≡ Some n
  pub ipv6s : (n : ℕ) → n < 2 ^ 128 → ipv6 (ipv6_text n) ≡ Some n
  pub ipv4_masks : (mask : ℕ) → mask < 2 ^ 32 → ipv4_mask (ipv4_mask_text mask) ≡ Some mask
  pub ipv6_masks : (mask : ℕ) → mask < 2 ^ 128 → ipv6_mask (ipv6_mask_text mask) ≡ Some mask

-- the widest number of a form
abbrev pub width_limit : Form → ℕ
width_limit FourDigits = 16
width_limit Mac = 48
width_limit Ipv4 = 32
width_limit form = 128

abbrev pub Fits : Form → ℕ → Type 0
Fits form n = n < 2 ^ width_limit form

-- a form in which values are read, and one in which they are printed
abbrev pub AreAlike : ValueForm → Form → Type 0
AreAlike form.Number Decimal = Unit {0}
AreAlike form.Number Hexadecimal = Unit {0}
AreAlike form.Number FourDigits = Unit {0}
AreAlike form.Mac Mac = Unit {0}
AreAlike form.Ipv4 Ipv4 = Unit {0}
AreAlike form.Ipv6 Ipv6 = Unit {0}
AreAlike form printed = ⊥

value_back : ReadValues → (form : ValueForm) (printed : Form) → AreAlike form printed → (most n : ℕ) → n ≤ most → Fits printed n → value_in form most (value_text printed n) ≡ Some n
unfolding value_in
value_back r form.Number Decimal h most n le fits = r.decimals most n le fits
value_back r form.Number Hexadecimal h most n le fits = r.hexadecimals most n le fits
value_back r form.Number FourDigits h most n le fits = r.four_digits most n le fits
value_back r form.Mac Mac h most n le fits = r.macs n fits
value_back r form.Ipv4 Ipv4 h most n le fits = r.ipv4s n fits
value_back r form.Ipv6 Ipv6 h most n le fits = r.ipv6s n fits
value_back r form printed h most n le fits = absurd h

masked_back : ReadValues → (form : ValueForm) (printed : Form) → AreAlike form printed → (most n : ℕ) → n ≤ most → Fits printed n → value_in form most (masked_text printed n) ≡ Some n
unfolding value_in
masked_back r form.Number Decimal h most n le fits = r.hexadecimals most n le fits
masked_back r form.Number Hexadecimal h most n le fits = r.hexadecimals most n le fits
masked_back r form.Number FourDigits h most n le fits = r.four_digits most n le fits
masked_back r form.Mac Mac h most n le fits = r.macs n fits
masked_back r form.Ipv4 Ipv4 h most n le fits = r.ipv4s n fits
masked_back r form.Ipv6 Ipv6 h most n le fits = r.ipv6s n fits
masked_back r form printed h most n le fits = absurd h

mask_back : ReadValues → (form : ValueForm) (printed : Form) → AreAlike form printed → (most n : ℕ) → n ≤ most → Fits printed n → mask_in form most (mask_text printed n) ≡ Some n
unfolding mask_in
mask_back r form.Number Decimal h most n le fits = r.hexadecimals most n le fits
mask_back r form.Number Hexadecimal h most n le fits = r.hexadecimals most n le fits
mask_back r form.Number FourDigits h most n le fits = r.four_digits most n le fits
mask_back r form.Mac Mac h most n le fits = r.macs n fits
mask_back r form.Ipv4 Ipv4 h most n le fits = r.ipv4_masks n fits
mask_back r form.Ipv6 Ipv6 h most n le fits = r.ipv6_masks n fits
mask_back r form printed h most n le fits = absurd h

-- the characters of these
pub value_has : ReadValues → (form : ValueForm) (printed : Form) → AreAlike form printed → (n : ℕ) → Fits printed n → HasValueCharacters (value_text printed n)
value_has r form.Number Decimal h n fits = r.decimal_characters n fits
value_has r form.Number Hexadecimal h n fits = r.hexadecimal_characters n fits
value_has r form.Number FourDigits h n fits = r.texts.four_digits n fits
value_has r form.Mac Mac h n fits = r.texts.macs n
value_has r form.Ipv4 Ipv4 h n fits = r.texts.ipv4s n
value_has r form.Ipv6 Ipv6 h n fits = r.texts.ipv6s n
value_has r form printed h n fits = absurd h

pub masked_has : ReadValues → (form : ValueForm) (printed : Form) → AreAlike form printed → (n : ℕ) → Fits printed n → HasValueCharacters (masked_text printed n)
masked_has r form.Number Decimal h n fits = r.hexadecimal_characters n fits
masked_has r form.Number Hexadecimal h n fits = r.hexadecimal_characters n fits
masked_has r form.Number FourDigits h n fits = r.texts.four_digits n fits
masked_has r form.Mac Mac h n fits = r.texts.macs n
masked_has r form.Ipv4 Ipv4 h n fits = r.texts.ipv4s n
masked_has r form.Ipv6 Ipv6 h n fits = r.texts.ipv6s n
masked_has r form printed h n fits = absurd h

pub mask_has : ReadValues → (form : ValueForm) (printed : Form) → AreAlike form printed → (n : ℕ) → Fits printed n → HasValueCharacters (mask_text printed n)
mask_has r form.Number Decimal h n fits = r.hexadecimal_characters n fits
mask_has r form.Number Hexadecimal h n fits = r.hexadecimal_characters n fits
mask_has r form.Number FourDigits h n fits = r.texts.four_digits n fits
mask_has r form.Mac Mac h n fits = r.texts.macs n
mask_has r form.Ipv4 Ipv4 h n fits = r.texts.ipv4_masks n
mask_has r form.Ipv6 Ipv6 h n fits = r.texts.ipv6_masks n
mask_has r form printed h n fits = absurd h

-- bits of a form that is no word
pub no_word : (form : ValueForm) (printed : Form) → AreAlike form printed → (full : ℕ) (b : Bits) → value_of_form printed full b ≡ value_and_mask printed full b
no_word form.Number Decimal h full b = refl
no_word form.Number Hexadecimal h full b = refl
no_word form.Number FourDigits h full b = refl
no_word form.Mac Mac h full b = refl
no_word form.Ipv4 Ipv4 h full b = refl
no_word form.Ipv6 Ipv6 h full b = refl
no_word form printed h full b = absurd h

pub read_as_value : (f : NamedField) (text : List ℕ) → AreAlike (form_of f) (printed_form f) → value_of f text ≡ where_found (split_once slash text) (masked_value f) (whole_value f text)
unfolding value_of
read_as_value field.IpFrag text h = absurd h
read_as_value f text h = refl

-- bits that a named field has room for, and that can be spelled
pub record IsSpelled (f : NamedField) (b : Bits) : Type 0 where
  pub alike : AreAlike (form_of f) (printed_form f)
  pub value_most : b.value ≤ most_of f
  pub mask_most : (named f).maskable ≡ true → b.mask ≤ most_of f
  pub value_fits : Fits (printed_form f) b.value
  pub mask_fits : Fits (printed_form f) b.mask
  pub maskable : ((named f).maskable || (b.mask == all_bits (named f).bits)) ≡ true

whole_back : ReadValues → (f : NamedField) (b : Bits) → IsSpelled f b → b.mask ≡ all_bits (named f).bits
    → where_found (split_once slash (value_text (printed_form f) b.value)) (masked_value f) (whole_value f (value_text (printed_form f) b.value)) ≡ Some b
unfolding whole_value
whole_back r f b h full =
    rw (
      split_once-lacks slash (value_text (printed_form f) b.value) (lacks_by is_value_character slash (value_text (printed_form f) b.value) refl (value_has r (form_of f) (printed_form f) h.alike b.value h.value_fits)),
      value_back r (form_of f) (printed_form f) h.alike (most_of f) b.value h.value_most h.value_fits,
    ) (ap (λ m. Some (bits b.value m)) (sym full))

parts_back : ReadValues → (f : NamedField) (b : Bits) → IsSpelled f b → (named f).maskable ≡ true
    → where_found (split_once slash (masked_text (printed_form f) b.value ++ (slash ∷ mask_text (printed_form f) b.mask))) (masked_value f) (whole_value f (masked_text (printed_form f) b.value ++ (slash ∷ mask_text (printed_form f) b.mask))) ≡ Some b
unfolding masked_value
parts_back r f b h maskable =
    rw (
      split_once-front slash (masked_text (printed_form f) b.value) (mask_text (printed_form f) b.mask) (lacks_by is_value_character slash (masked_text (printed_form f) b.value) refl (masked_has r (form_of f) (printed_form f) h.alike b.value h.value_fits)),
      masked_back r (form_of f) (printed_form f) h.alike (most_of f) b.value h.value_most h.value_fits,
      mask_back r (form_of f) (printed_form f) h.alike (most_of f) b.mask (h.mask_most maskable) h.mask_fits,
      maskable,
    ) refl

other : (x y : Bool) → (x || y) ≡ true → y ≡ false → x ≡ true
other true y h e = refl
other false y h e = absurd (both_ways y e h)

pub bits_back : ReadValues → (f : NamedField) (b : Bits) → IsSpelled f b → value_of f (value_in_text f b) ≡ Some b
unfolding value_in_text
bits_back r f b h =
    ap (value_of f) (no_word (form_of f) (printed_form f) h.alike (all_bits (named f).bits) b)
    ∙ read_as_value f (value_and_mask (printed_form f) (all_bits (named f).bits) b) h.alike
    ∙ by_test (b.mask == all_bits (named f).bits) refl
  where
    by_test : (t : Bool) → (b.mask == all_bits (named f).bits) ≡ t
        → where_found (split_once slash (cond t (value_text (printed_form f) b.value) (masked_text (printed_form f) b.value ++ (slash ∷ mask_text (printed_form f) b.mask)))) (masked_value f) (whole_value f (cond t (value_text (printed_form f) b.value) (masked_text (printed_form f) b.value ++ (slash ∷ mask_text (printed_form f) b.mask)))) ≡ Some b
    by_test true is = whole_back r f b h (eqb-true b.mask (all_bits (named f).bits) is)
    by_test false is = parts_back r f b h (other (named f).maskable (b.mask == all_bits (named f).bits) h.maskable is)
