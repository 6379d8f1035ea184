-- The length of the prefix that has a mask, sought from the greatest length down.
use Rattle.std.proofs.Common.{◌≡◌, ◌≢◌, ℕ, zero, suc, ◌-◌, ◌<◌, Some, None, refl, sym, arith, eq-eqb, ne_eqb}
use Rattle.spec_base.specs.Bits.{leading_bits}
use Rattle.spec_flow_text.specs.NumbersPrinted.{prefix_length_up_to}

pub found : (width mask len : ℕ) → 0 < len → leading_bits width len ≡ mask → prefix_length_up_to width mask len ≡ Some len
unfolding prefix_length_up_to
found width mask zero lt e = absurd (omega arith)
found width mask (suc len) lt e = rw (eq-eqb mask (leading_bits width (suc len)) (sym e)) refl

pub goes_on : (width mask len : ℕ) → 0 < len → leading_bits width len ≢ mask → prefix_length_up_to width mask (len - 1) ≡ prefix_length_up_to width mask len
unfolding prefix_length_up_to
goes_on width mask zero lt e = absurd (omega arith)
goes_on width mask (suc len) lt e =
    let one : suc len - 1 ≡ len = omega arith in
    rw (ne_eqb mask (leading_bits width (suc len)) (λ same. e (sym same)), one) refl

pub zero_found : (width mask len : ℕ) → len ≡ 0 → mask ≡ 0 → prefix_length_up_to width mask len ≡ Some 0
unfolding prefix_length_up_to
zero_found width mask zero e nothing = rw (eq-eqb mask 0 nothing) refl
zero_found width mask (suc len) e nothing = absurd (omega arith)

pub none_found : (width mask len : ℕ) → len ≡ 0 → mask ≢ 0 → prefix_length_up_to width mask len ≡ None
unfolding prefix_length_up_to
none_found width mask zero e some = rw (ne_eqb mask 0 some) refl
none_found width mask (suc len) e some = absurd (omega arith)
