-- Lengths of prefixes that are above 0, or 0.
use Rattle.std.proofs.Common.{◌≡◌, ℕ, zero, suc, ◌+◌, ◌-◌, ◌*◌, ◌^◌, ◌<◌, ◌≤◌, Bool, true, false, ◌==◌, if◌then◌else◌, refl, arith, eqb-true}
use Rattle.std.proofs.lemmas.Nat.{pow_pos, pow-add}
use Rattle.std.proofs.Math.Pow.{pow_mono}
use Rattle.spec_base.specs.Bits.{leading_bits}
use Rattle.spec_xlate.specs.Lookup.{length_up_to}

pub not_zero : (n : ℕ) → 0 < n → (n == 0) ≡ false
not_zero n some = at (n == 0) refl
  where
    at : (t : Bool) → (n == 0) ≡ t → t ≡ false
    at true e = let zero = eqb-true n 0 e in absurd (omega (arith, zero, some))
    at false e = refl

-- no bits are no prefix
pub length_of_none : (w n : ℕ) → n ≤ w → length_up_to w 0 n ≡ 0
unfolding length_up_to
length_of_none w zero le = refl
length_of_none w (suc n) le = at (0 == leading_bits w (suc n)) refl (length_of_none w n (omega (arith, le)))
  where
    at : (t : Bool) → (0 == leading_bits w (suc n)) ≡ t → length_up_to w 0 n ≡ 0 → (if t then suc n else length_up_to w 0 n) ≡ 0
    at true e ih =
        let none = eqb-true 0 (leading_bits w (suc n)) e in
        let less : w - suc n + 1 ≤ w = omega (arith, le) in
        let p = pow_mono less in
        let some = pow_pos (w - suc n) in
        let double : 2 ^ (w - suc n + 1) ≡ 2 ^ (w - suc n) * 2 ^ 1 = pow-add 2 (w - suc n) 1 in
        absurd (omega (arith, none, p, some, double))
    at false e ih = ih
