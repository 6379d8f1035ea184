-- A few digits, read one after the other.
use Rattle.std.proofs.Common.{◌≡◌, ℕ, zero, suc, ◌+◌, ◌*◌, ◌<◌, ◌≤◌, ◌^◌, true, false, List, [], ◌∷◌, length, get_or, Some, None, refl, arith, take}
use Rattle.std.proofs.Math.Nat.{pow-le-pow_left, pow-le-pow_right, mul-le-mul_left}
use Rattle.std.proofs.lemmas.Bool.{and_from, lt-ltb, false_from_ne_true}
use Rattle.std.proofs.lemmas.Int.Digits.{digits_value-lt, digits_more, digits_value_more}
use Rattle.std.specs.List.{list_all}
use Rattle.std.specs.Char.{is_digit, digit_value}
use Rattle.std.specs.Str.Parse.{AllDigits, digits_value}
use Rattle.text_numbers.proofs.Digits.{all_digits}
use Rattle.text_numbers.specs.Digits.{number_of_digits}

-- what 14 digits write, which leaves room for one more in 64 bits
pub few_below : (base : ℕ) (text : List ℕ) → base ≤ 16 → length text ≤ 14 → AllDigits base text → digits_value base text < 16 ^ 14
few_below base text high few h =
    let longest : 16 ^ length text ≤ 16 ^ 14 = pow-le-pow_right (omega arith) few in
    omega (arith, digits_value-lt base text h, pow-le-pow_left high (length text), longest)

-- a product with the base, and one more digit
pub one_more_fits : (number base digit : ℕ) → number < 16 ^ 14 → base ≤ 16 → digit < 16 → number * base + digit < 2 ^ 64
one_more_fits number base digit n high lt = omega (arith, mul-le-mul_left number high)

are_all : (base : ℕ) (text : List ℕ) → AllDigits base text → list_all (λ c. is_digit c base) text ≡ true
are_all base [] h = refl
are_all base (c ∷ cs) h = and_from _ _ (lt-ltb _ _ h.0) (are_all base cs h.1)

-- the number of a text whose bytes are digits
pub some_number : (base : ℕ) (text : List ℕ) → AllDigits base text → number_of_digits base text ≡ Some (digits_value base text)
some_number base text h = rw (are_all base text h) refl

digit_at : (base : ℕ) (text : List ℕ) (i : ℕ) → AllDigits base text → i < length text → digit_value (get_or text i 0) < base
digit_at base [] i h l = absurd (omega arith)
digit_at base (c ∷ cs) zero h l = h.0
digit_at base (c ∷ cs) (suc i) h l = digit_at base cs i h.1 (omega arith)

-- a text with a byte that isn't one
pub no_number : (base : ℕ) (text : List ℕ) (i : ℕ) → i < length text → base ≤ digit_value (get_or text i 0) → number_of_digits base text ≡ None
no_number base text i l other =
    let some : list_all (λ c. is_digit c base) text ≡ false =
    false_from_ne_true _ (λ all. omega (arith, digit_at base text i (all_digits base text all) l)) in
    rw some refl

-- one byte more that is a digit
pub one_more : (base : ℕ) (text : List ℕ) (i number product char digit wide : ℕ) → i < length text → AllDigits base (take i text) → number ≡ digits_value base (take i text)
    → char ≡ get_or text i 0 → (digit_value char < base) × (digit ≡ digit_value char) → product ≡ number * base → wide ≡ digit
    → AllDigits base (take (i + 1) text) × (product + wide ≡ digits_value base (take (i + 1) text))
one_more base text i number product char digit wide l all is at h p w =
    (digits_more base text i l all (rw (← at) h.0), rw (digits_value_more base text i l, ← is, ← at, ← h.1, p, w) refl)
