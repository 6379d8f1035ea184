use Rattle.std.proofs.Common.{◌≡◌, ℕ, min, List, [], ◌∷◌, bit_and, refl, sym, ap, ap₂, ◌∙◌, arith}
use Rattle.std.specs.Int.{bit_at}
use Rattle.std.proofs.lemmas.Nat.Bits.{bit_at_and, same_from_bits}
use Rattle.spec_keys.specs.Keys.{masked}
use Rattle.structure_tests.proofs.subtables.match_of.Goals as goal

and_twice : (x b : ℕ) → bit_and (bit_and x b) b ≡ bit_and x b
and_twice x b = same_from_bits _ _ (λ i.
    let bits : min (min (bit_at x i) (bit_at b i)) (bit_at b i) ≡ min (bit_at x i) (bit_at b i) = omega arith in
    bit_at_and (bit_and x b) b i ∙ ap (λ (z : ℕ). min z (bit_at b i)) (bit_at_and x b i) ∙ bits ∙ sym (bit_at_and x b i))

masked_twice : (key mask : List ℕ) → masked (masked key mask) mask ≡ masked key mask
unfolding masked
masked_twice [] mask = refl
masked_twice (x ∷ key) [] = ap (λ (ns : List ℕ). 0 ∷ ns) (masked_twice key [])
masked_twice (x ∷ key) (b ∷ mask) = ap₂ (λ (n : ℕ) (ns : List ℕ). n ∷ ns) (and_twice x b) (masked_twice key mask)

pub invariant_of-result : goal.invariant_of-result
invariant_of-result c = record { normalised = rw c.masked.ensures (masked_twice _ _) }
