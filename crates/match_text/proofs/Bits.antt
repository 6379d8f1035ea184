-- A key with the bits of one more part is normalised as the one before.
use Rattle.std.proofs.Common.{◌≡◌, ℕ, zero, suc, min, max, List, [], ◌∷◌, set, bit_and, bit_or, refl, sym, ap, ap₂, ◌∙◌, arith}
use Rattle.std.specs.Int.{bit_at}
use Rattle.std.specs.Int.Bits.{or_zero_r}
use Rattle.std.proofs.lemmas.Nat.Bits.{bit_at_or, bit_at_and, same_from_bits}
use Rattle.spec_keys.specs.Keys.{none, masked, joined, only_at, number_at}

-- bits that a mask has are in a wider mask too, with others that are
pub both_kept : (x v b m : ℕ) → bit_and x b ≡ x → bit_and v m ≡ v → bit_and (bit_or x v) (bit_or b m) ≡ bit_or x v
both_kept x v b m kept more_kept = same_from_bits _ _ (λ i.
    let first : min (bit_at x i) (bit_at b i) ≡ bit_at x i = sym (bit_at_and x b i) ∙ ap (λ (z : ℕ). bit_at z i) kept in
    let second : min (bit_at v i) (bit_at m i) ≡ bit_at v i = sym (bit_at_and v m i) ∙ ap (λ (z : ℕ). bit_at z i) more_kept in
    let bits : min (max (bit_at x i) (bit_at v i)) (max (bit_at b i) (bit_at m i)) ≡ max (bit_at x i) (bit_at v i) = omega arith in
    bit_at_and (bit_or x v) (bit_or b m) i
    ∙ ap₂ (λ (y z : ℕ). min y z) (bit_at_or x v i) (bit_at_or b m i)
    ∙ bits
    ∙ sym (bit_at_or x v i))

joined_with_none : (mask : List ℕ) → joined mask [] ≡ mask
unfolding joined
joined_with_none [] = refl
joined_with_none (b ∷ mask) = refl

pub more_is_normalised : (key mask : List ℕ) (place value bits : ℕ) → bit_and value bits ≡ value → masked key mask ≡ key
    → masked (set key place (bit_or (number_at key place) value)) (joined mask (only_at place bits)) ≡ set key place (bit_or (number_at key place) value)
unfolding masked joined only_at
more_is_normalised [] mask place value bits kept normal = refl
more_is_normalised (x ∷ key) [] zero value bits kept normal =
    let nothing : bit_and x 0 ≡ x = cc normal in
    ap₂ (λ (n : ℕ) (ns : List ℕ). n ∷ ns) (both_kept x value 0 bits nothing kept) (cc normal)
more_is_normalised (x ∷ key) (b ∷ mask) zero value bits kept normal =
    let first : bit_and x b ≡ x = cc normal in
    ap₂ (λ (n : ℕ) (ns : List ℕ). n ∷ ns) (both_kept x value b bits first kept) (rw (joined_with_none mask) (cc normal))
more_is_normalised (x ∷ key) [] (suc place) value bits kept normal =
    let rest : masked key [] ≡ key = cc normal in
    let nothing : 0 ≡ x = cc normal in
    ap₂ (λ (n : ℕ) (ns : List ℕ). n ∷ ns) (ap (λ n. bit_and n 0) (sym nothing) ∙ nothing) (more_is_normalised key [] place value bits kept rest)
more_is_normalised (x ∷ key) (b ∷ mask) (suc place) value bits kept normal =
    let rest : masked key mask ≡ key = cc normal in
    let first : bit_and x b ≡ x = cc normal in
    ap₂ (λ (n : ℕ) (ns : List ℕ). n ∷ ns) (rw or_zero_r first) (more_is_normalised key mask place value bits kept rest)

-- and the key without a bit is
pub nothing_is_normalised : masked none none ≡ none
unfolding masked none
nothing_is_normalised = refl
