-- Texts of digits are ASCII, have no sign, and parse.
use Rattle.std.proofs.Common.{◌≡◌, ℕ, zero, suc, ◌<◌, ◌≤◌, ◌^◌, true, false, List, [], ◌∷◌, length, refl, arith, None}
use Rattle.std.specs.Prelude.{nat_le}
use Rattle.std.specs.List.{list_all}
use Rattle.std.specs.Char.{is_digit, digit_value}
use Rattle.std.specs.Str.{IsAscii, IsUtf8}
use Rattle.std.specs.Str.Parse.{AllDigits, IsNumeral, digits_value, without_leading_plus}
use Rattle.std.proofs.lemmas.Str.{IsUtf8-from_ascii}
use Rattle.std.proofs.lemmas.Bool.{and_parts, ltb-true, ne_eqb}
use Rattle.std.proofs.lemmas.Bool.Decides.{nat_tests}
use Rattle.spec_flow_text.specs.Numbers.{are_digits, digits_upto}

-- a digit is below 128, and no plus
digit_range : (base c : ℕ) → base ≤ 16 → digit_value c < base → (c < 128) × (48 ≤ c)
digit_range base c le lt = grind (arith, nat_tests)

pub all_digits : (base : ℕ) (text : List ℕ) → list_all (λ c. is_digit c base) text ≡ true → AllDigits base text
all_digits base [] h = tt
all_digits base (c ∷ cs) h = let p = and_parts _ _ h in (ltb-true _ _ p.0, all_digits base cs p.1)

pub ascii : (base : ℕ) → base ≤ 16 → (text : List ℕ) → AllDigits base text → IsAscii text
ascii base le [] h i = omega arith
ascii base le (c ∷ cs) h zero = (digit_range base c le h.0).0
ascii base le (c ∷ cs) h (suc i) = ascii base le cs h.1 i

pub no_plus : (base : ℕ) → base ≤ 16 → (text : List ℕ) → AllDigits base text → without_leading_plus text ≡ text
no_plus base le [] h = refl
no_plus base le (c ∷ cs) h = let r = digit_range base c le h.0 in rw (ne_eqb c 43 (omega arith)) refl

pub utf8 : (base : ℕ) → base ≤ 16 → (text : List ℕ) → are_digits base text ≡ true → IsUtf8 text
utf8 base le text h = IsUtf8-from_ascii text (ascii base le text (all_digits base text (and_parts _ _ h).1))

-- where digits don't parse, their number passes each number of 128 bits
pub too_great : (base most : ℕ) (text same : List ℕ) → base ≤ 16 → most < 2 ^ 128 → are_digits base text ≡ true → same ≡ text
    → (IsNumeral base (without_leading_plus same) × (digits_value base (without_leading_plus same) < 2 ^ 128) → ⊥) → digits_upto base most text ≡ None
unfolding digits_upto
too_great base most text same le fits h is refused =
    let parts = and_parts _ _ h in
    let digits : AllDigits base text = all_digits base text parts.1 in
    let bare : without_leading_plus same ≡ text = rw is (no_plus base le text digits) in
    let some : 0 < length text = grind (arith, nat_tests) in
    let none : digits_value base text < 2 ^ 128 → ⊥ = λ lt. (rw bare at refused) ((some, digits), lt) in
    let past : nat_le (digits_value base text) most ≡ false = at_test (digits_value base text) most (λ le2. none (omega arith)) in
    rw (h, past) refl
  where
    at_test : (a b : ℕ) → (a ≤ b → ⊥) → nat_le a b ≡ false
    at_test a b refused = grind (arith, nat_tests)
