-- Octets of two digits.
use Rattle.std.proofs.Common.{◌≡◌, ℕ, ◌+◌, ◌*◌, ◌<◌, ◌≤◌, true, false, if◌then◌else◌, List, [], ◌∷◌, length, Option, Some, None, refl, sym, ap, ◌∙◌, arith, inl, inr}
use Rattle.std.specs.Prelude.{◌==◌, ◌&&◌, nat_le, nat_lt}
use Rattle.std.specs.Char.{digit_value}
use Rattle.std.proofs.lemmas.Bool.{lt-ltb, ne_eqb, cases_lt}
use Rattle.std.proofs.lemmas.Bool.Decides.{nat_tests}
use Rattle.spec_flow_text.specs.Characters.{colon}
use Rattle.spec_flow_text.specs.Numbers.{octet, octet_before_colon, digits_upto}

-- the octet of two digits of these values
abbrev octet_of : ℕ → ℕ → Option ℕ
octet_of high low =
    if (nat_lt high 16 && (nat_lt low 16 && true)) && nat_le ((0 * 16 + high) * 16 + low) 255 then Some ((0 * 16 + high) * 16 + low) else None

octet_is : (high low : ℕ) → octet (high ∷ low ∷ []) ≡ octet_of (digit_value high) (digit_value low)
unfolding octet digits_upto
octet_is high low = refl

both : (high low : ℕ) → high < 16 → low < 16 → octet_of high low ≡ Some (high * 16 + low)
both high low h l = grind (arith, nat_tests)

no_high : (high low : ℕ) → 16 ≤ high → octet_of high low ≡ None
no_high high low h = grind (arith, nat_tests)

no_low : (high low : ℕ) → 16 ≤ low → octet_of high low ≡ None
no_low high low l = grind (arith, nat_tests)

pub two_digits : (high low : ℕ) → digit_value high < 16 → digit_value low < 16 → octet (high ∷ low ∷ []) ≡ Some (digit_value high * 16 + digit_value low)
two_digits high low h l = octet_is high low ∙ both (digit_value high) (digit_value low) h l

pub no_high_digit : (high low : ℕ) → 16 ≤ digit_value high → octet (high ∷ low ∷ []) ≡ None
no_high_digit high low h = octet_is high low ∙ no_high (digit_value high) (digit_value low) h

pub no_low_digit : (high low : ℕ) → 16 ≤ digit_value low → octet (high ∷ low ∷ []) ≡ None
no_low_digit high low l = octet_is high low ∙ no_low (digit_value high) (digit_value low) l

-- a colon is no digit
no_colon : (byte : ℕ) → digit_value byte < 16 → (byte ≡ colon → ⊥)
no_colon byte lt same = let none : digit_value colon ≡ 36 = refl in omega (arith, none, ap digit_value same)

digits_of : (high low n : ℕ) → Some n ≡ octet (high ∷ low ∷ []) → (digit_value high < 16) × (digit_value low < 16)
digits_of high low n is = elim (cases_lt (digit_value high) 16) [
  | inr le ↦ absurd (cc (is ∙ no_high_digit high low le))
  | inl h ↦ elim (cases_lt (digit_value low) 16) [
    | inr le ↦ absurd (cc (is ∙ no_low_digit high low le))
    | inl l ↦ (h, l)
  ]
]

-- where two digits stand before a colon, it is the first one
pub two_digits_before_colon : (high low : ℕ) (text rest : List ℕ) (n : ℕ) → text ≡ high ∷ low ∷ colon ∷ rest → Some n ≡ octet (high ∷ low ∷ []) → Some (n, rest) ≡ octet_before_colon text
unfolding octet_before_colon
two_digits_before_colon high low text rest n text_is is =
    let digits = digits_of high low n is in
    let first = ne_eqb high colon (no_colon high digits.0) in
    let second = ne_eqb low colon (no_colon low digits.1) in
    let within : nat_lt 2 (length (high ∷ low ∷ colon ∷ rest)) ≡ true = lt-ltb _ _ (omega arith) in
    rw (text_is, first, second, within, ← is) refl
