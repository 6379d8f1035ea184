-- The leading bits that two numbers have in common, by their first difference.
use Rattle.std.proofs.Common.{◌≡◌, ℕ, ◌+◌, ◌-◌, ◌*◌, ◌/◌, ◌^◌, ◌<◌, ◌≤◌, Bool, true, false, nat_le, bit_and, refl, sym, ap, ◌∙◌, subst, arith, eqb-true, eq-eqb}
use Rattle.std.specs.Prelude.{bit_xor}
use Rattle.std.specs.Int.Bits.{xor_self, xor_add_and}
use Rattle.std.specs.Int.Count.{count_leading_zeros}
use Rattle.std.proofs.lemmas.Nat.{pow_pos, pow-add, and_le_l, and_le_r, xor_lt, xor_shr, leading_length}
use Rattle.std.proofs.Math.Nat.{div-eq_of_lt, lt-div-mul-add, mul-div_cancel}
use Rattle.std.proofs.Math.Pow.{pow_mono}
use Rattle.std.proofs.lemmas.Nat.Bits.{and_high_mask}
use Rattle.spec_base.specs.Bits.{leading_bits}
use Rattle.spec_xlate.specs.Lookup.{starts_alike}
use Rattle.address_prefixes.specs.Prefixes.{in_common}
use Rattle.std.proofs.lemmas.Bool.{leb-true, le-leb, leb-false}
use Rattle.std.proofs.lemmas.Bool.Decides.{same_from_decides}
use Rattle.address_prefixes.proofs.tracker.Alike.{common_from}

leading_of : (w n v : ℕ) → v < 2 ^ w → bit_and v (leading_bits w n) ≡ v / 2 ^ (w - n) * 2 ^ (w - n)
leading_of w n v fits = let within : w - n ≤ w = omega arith in and_high_mask w (w - n) within v fits

equal-from_xor : (a b : ℕ) → bit_xor a b ≡ 0 → a ≡ b
equal-from_xor a b none =
    let s = xor_add_and a b in
    let l = and_le_l a b in
    let r = and_le_r a b in
    omega (arith, none, s, l, r)

twice : (k : ℕ) → 2 ^ (k + 1) ≡ 2 * 2 ^ k
twice k = let e : 2 ^ (k + 1) ≡ 2 ^ k * 2 ^ 1 = pow-add 2 k 1 in omega (arith, e)

-- the exclusive or of two numbers has m bits: so many bits from the first that differs
module _ (w x y m : ℕ) (fx : x < 2 ^ w) (fy : y < 2 ^ w) (within : m ≤ w) (less : bit_xor x y < 2 ^ m) (more : 2 ^ m ≤ 2 * bit_xor x y + 1) where
  alike_before : (n : ℕ) → n ≤ w → n ≤ w - m → starts_alike w x y n ≡ true
  alike_before n nw le =
      let wide : m ≤ w - n = omega arith in
      let small : bit_xor x y < 2 ^ (w - n) = (let p = pow_mono wide in omega (arith, p, less)) in
      let same : x / 2 ^ (w - n) ≡ y / 2 ^ (w - n) = equal-from_xor (x / 2 ^ (w - n)) (y / 2 ^ (w - n)) (sym (xor_shr x y (w - n)) ∙ div-eq_of_lt small) in
      eq-eqb _ _ (leading_of w n x fx ∙ ap (λ q. q * 2 ^ (w - n)) same ∙ sym (leading_of w n y fy))

  alike_after : (n : ℕ) → n ≤ w → starts_alike w x y n ≡ true → n ≤ w - m
  alike_after n nw h =
      let e : x / 2 ^ (w - n) * 2 ^ (w - n) ≡ y / 2 ^ (w - n) * 2 ^ (w - n) = sym (leading_of w n x fx) ∙ eqb-true _ _ h ∙ leading_of w n y fy in
      let same : x / 2 ^ (w - n) ≡ y / 2 ^ (w - n) =
      sym (mul-div_cancel (x / 2 ^ (w - n)) (pow_pos (w - n))) ∙ ap (λ q. q / 2 ^ (w - n)) e ∙ mul-div_cancel (y / 2 ^ (w - n)) (pow_pos (w - n)) in
      let none : bit_xor x y / 2 ^ (w - n) ≡ 0 = xor_shr x y (w - n) ∙ ap (λ q. bit_xor q (y / 2 ^ (w - n))) same ∙ xor_self (y / 2 ^ (w - n)) in
      let rest : bit_xor x y < bit_xor x y / 2 ^ (w - n) * 2 ^ (w - n) + 2 ^ (w - n) = lt-div-mul-add (pow_pos (w - n)) in
      let small : bit_xor x y < 0 * 2 ^ (w - n) + 2 ^ (w - n) = subst (λ q. bit_xor x y < q * 2 ^ (w - n) + 2 ^ (w - n)) none rest in
      by (nat_le m (w - n)) refl (omega (arith, small))
    where
      by : (t : Bool) → nat_le m (w - n) ≡ t → bit_xor x y < 2 ^ (w - n) → n ≤ w - m
      by true e small = let le = leb-true m (w - n) e in omega (arith, le, within)
      by false e small =
          let past : w - n + 1 ≤ m = (let lt = leb-false m (w - n) e in omega (arith, lt)) in
          let p = pow_mono past in
          let double : 2 ^ (w - n + 1) ≡ 2 * 2 ^ (w - n) = twice (w - n) in
          absurd (omega (arith, p, double, small, more))

  pub alike_tests : (n : ℕ) → n ≤ w → starts_alike w x y n ≡ nat_le n (w - m)
  alike_tests n nw = same_from_decides (starts_alike w x y n) (nat_le n (w - m)) (alike_after n nw, alike_before n nw) (leb-true n (w - m), le-leb n (w - m))

short : (w m z : ℕ) → z < 2 ^ w → 2 ^ m ≤ 2 * z + 1 → m ≤ w
short w m z fits more = by (nat_le m w) refl
  where
    by : (t : Bool) → nat_le m w ≡ t → m ≤ w
    by true e = leb-true m w e
    by false e =
        let past : w + 1 ≤ m = (let lt = leb-false m w e in omega (arith, lt)) in
        let p = pow_mono past in
        let double : 2 ^ (w + 1) ≡ 2 * 2 ^ w = twice w in
        absurd (omega (arith, p, double, fits, more))

-- so many bits has a number of 128 bits but for those that are 0 before its first
pub common_by_zeros : (w x y : ℕ) → w ≤ 128 → x < 2 ^ w → y < 2 ^ w
    → (128 - count_leading_zeros 128 (bit_xor x y) ≤ w) × (in_common w x y ≡ w - (128 - count_leading_zeros 128 (bit_xor x y)))
common_by_zeros w x y wide fx fy =
    let fits : bit_xor x y < 2 ^ w = xor_lt w x y fx fy in
    let wider = pow_mono wide in
    let l = leading_length 128 (bit_xor x y) (omega (arith, fits, wider)) in
    let within : l.0 ≤ w = short w l.0 (bit_xor x y) fits l.3 in
    let is : l.0 ≡ 128 - count_leading_zeros 128 (bit_xor x y) = (let sum = l.1 in omega (arith, sum)) in (
      subst (λ m. m ≤ w) is within,
      common_from w x y (w - l.0) (omega arith) (λ n nw. alike_tests w x y l.0 fx fy within l.2 l.3 n nw) ∙ ap (λ m. w - m) is,
    )
