-- Printed digits read back.
use Rattle.std.proofs.Common.{◌≡◌, ◌≢◌, ℕ, zero, suc, ◌+◌, ◌/◌, ◌%◌, ◌<◌, ◌≤◌, ◌^◌, ◌⊎◌, inl, inr, true, false, List, [], ◌∷◌, ◌++◌, length, get_or, refl, ap, arith, Some, decimal, ne_eqb, le-leb, lt-ltb, lit<, lit≤, length-append}
use Rattle.std.specs.Prelude.{not, ◌==◌}
use Rattle.std.specs.List.{list_all}
use Rattle.std.specs.Char.{is_digit, digit_value}
use Rattle.std.specs.Fmt.{digits}
use Rattle.std.specs.Str.Parse.{AllDigits, IsNumeral, digits_value}
use Rattle.std.proofs.lemmas.Bool.{and_from}
use Rattle.std.proofs.lemmas.Bool.Decides.{nat_tests}
use Rattle.std.proofs.Math.ListN.{get_or-append}
use Rattle.std.proofs.lemmas.Fmt.{decimal_is_IsNumeral_wide, digits_is_IsNumeral, decimal_digit, decimal_by_steps_wide}
use Rattle.std.proofs.lemmas.Str.{digit_value-digit_char}
use Rattle.spec_flow_text.specs.Numbers.{digits_upto, decimal_upto, number_upto, is_hexadecimal, has_leading_zero, octet}
use Rattle.spec_flow_text.specs.NumbersPrinted.{hexadecimal, octet_digits, hexadecimal4}
use Rattle.text_laws.proofs.values.Cuts.{lacks}

test_digits : (base : ℕ) (text : List ℕ) → AllDigits base text → list_all (λ c. is_digit c base) text ≡ true
test_digits base [] h = refl
test_digits base (c ∷ cs) h = and_from _ _ (lt-ltb (digit_value c) base h.0) (test_digits base cs h.1)

-- digits have no byte that is none
pub digits_lack : (base byte : ℕ) (text : List ℕ) → base ≤ digit_value byte → AllDigits base text → lacks byte text ≡ true
digits_lack base byte [] le h = refl
digits_lack base byte (c ∷ cs) le h =
    let other : c ≢ byte = λ e. apart (digit_value c) (digit_value byte) le h.0 (ap digit_value e) in
    and_from _ _ (rw (ne_eqb c byte other) refl) (digits_lack base byte cs le h.1)
  where
    apart : (x y : ℕ) → base ≤ y → x < base → x ≡ y → ⊥
    apart x y le lt e = omega arith

pub numeral_reads_back : (base most n : ℕ) (text : List ℕ) → IsNumeral base text → digits_value base text ≡ n → n ≤ most → digits_upto base most text ≡ Some n
unfolding digits_upto
numeral_reads_back base most n text h e le =
    let long : not (length text == 0) ≡ true = longer (length text) h.0 in
    rw (long, test_digits base text h.1, e, le-leb n most le) refl
  where
    longer : (k : ℕ) → 0 < k → not (k == 0) ≡ true
    longer k lt = grind (arith, nat_tests)

-- ---- decimal

-- the first digit of a number that isn't 0 isn't 0
first_digit : (n : ℕ) → 0 < n → n < 10 ^ 64 → 48 < get_or (decimal n) 0 0
first_digit n some small =
    (decimal_by_steps_wide (λ m ds. (0 < length ds) × (0 < m → 48 < get_or ds 0 0)) (λ m l. (omega arith, λ a. omega arith))
    (λ m ds l h. (omega (arith, length-append ds ((48 + m % 10) ∷ [])), λ a. omega (arith, get_or-append ds ((48 + m % 10) ∷ []) 0 0 h.0, h.1 (omega arith)))) n small).1 some

begins_well : (n : ℕ) → n < 10 ^ 64 → (decimal n ≡ 48 ∷ []) ⊎ (get_or (decimal n) 0 0 ≢ 48)
begins_well zero small = inl (decimal_digit 0 (lit< tt))
begins_well (suc n) small = let first : 48 < get_or (decimal (suc n)) 0 0 = first_digit (suc n) (omega arith) small in inr (λ e. omega arith)

no_leading_zero : (text : List ℕ) → (text ≡ 48 ∷ []) ⊎ (get_or text 0 0 ≢ 48) → has_leading_zero text ≡ false
no_leading_zero text (inl e) = rw e refl
no_leading_zero text (inr ne) = rw (ne_eqb (get_or text 0 0) 48 ne) refl

no_hexadecimal : (text : List ℕ) → (text ≡ 48 ∷ []) ⊎ (get_or text 0 0 ≢ 48) → is_hexadecimal text ≡ false
no_hexadecimal text (inl e) = rw e refl
no_hexadecimal text (inr ne) = rw (ne_eqb (get_or text 0 0) 48 ne) refl

pub decimal_upto-decimal : (most n : ℕ) → n ≤ most → n < 10 ^ 64 → decimal_upto most (decimal n) ≡ Some n
unfolding decimal_upto
decimal_upto-decimal most n le small =
    let d = decimal_is_IsNumeral_wide n small in
    rw (no_leading_zero (decimal n) (begins_well n small), numeral_reads_back 10 most n (decimal n) d.0 d.1 le) refl

pub number_upto-decimal : (most n : ℕ) → n ≤ most → n < 10 ^ 64 → number_upto most (decimal n) ≡ Some n
unfolding number_upto
number_upto-decimal most n le small = rw (no_hexadecimal (decimal n) (begins_well n small), decimal_upto-decimal most n le small) refl

-- ---- hexadecimal

pub hexadecimal_numeral : (n : ℕ) → n < 16 ^ 64 → IsNumeral 16 (digits 16 false n) × (digits_value 16 (digits 16 false n) ≡ n)
hexadecimal_numeral n small = digits_is_IsNumeral 16 false (lit≤ tt) (lit≤ tt) n small

pub number_upto-hexadecimal : (most n : ℕ) → n ≤ most → n < 16 ^ 64 → number_upto most (hexadecimal n) ≡ Some n
unfolding number_upto hexadecimal
number_upto-hexadecimal most n le small = let d = hexadecimal_numeral n small in numeral_reads_back 16 most n (digits 16 false n) d.0 d.1 le

-- the two digits of an octet
pub octet_digits-AllDigits : (n : ℕ) → n < 256 → AllDigits 16 (octet_digits n)
octet_digits-AllDigits n lt =
    let high : n / 16 < 16 = omega arith in
    let low : n % 16 < 16 = omega arith in
    (rw (digit_value-digit_char (n / 16) (omega arith)) high, (rw (digit_value-digit_char (n % 16) (omega arith)) low, tt))

pub octet-octet_digits : (n : ℕ) → n < 256 → octet (octet_digits n) ≡ Some n
unfolding octet
octet-octet_digits n lt =
    let value : digits_value 16 (octet_digits n) ≡ n = rw (digit_value-digit_char (n / 16) (omega arith), digit_value-digit_char (n % 16) (omega arith)) (omega arith) in
    numeral_reads_back 16 255 n (octet_digits n) (lit< tt, octet_digits-AllDigits n lt) value (omega arith)

pub number_upto-hexadecimal4 : (most n : ℕ) → n ≤ most → n < 2 ^ 16 → number_upto most (hexadecimal4 n) ≡ Some n
unfolding number_upto hexadecimal4
number_upto-hexadecimal4 most n le small =
    let a = octet_digits-AllDigits (n / 256) (omega arith) in
    let b = octet_digits-AllDigits (n % 256) (omega arith) in
    let value : digits_value 16 (octet_digits (n / 256) ++ octet_digits (n % 256)) ≡ n =
    rw (digit_value-digit_char (n / 256 / 16) (omega arith), digit_value-digit_char (n / 256 % 16) (omega arith), digit_value-digit_char (n % 256 / 16) (omega arith), digit_value-digit_char (n % 256 % 16) (omega arith)) (omega arith) in
    numeral_reads_back 16 most n (octet_digits (n / 256) ++ octet_digits (n % 256)) (lit< tt, (a.0, (a.1.0, b))) value le
