-- Keys under two masks: a key that agrees with two pairs of a key and a mask shows that they overlap.
use Rattle.std.proofs.Common.{◌≡◌, ℕ, List, [], ◌∷◌, true, false, refl, sym, ap, ap₂, ◌∙◌, inl, inr}
use Rattle.std.proofs.lemmas.Bool.{cases_Bool, false≢true}
use Rattle.std.specs.Prelude.{bit_and}
use Rattle.std.specs.Int.Bits.{and_zero_l, and_zero_r, and_self}
use Rattle.std.proofs.lemmas.Nat.{and_assoc, and_comm}
use Rattle.spec_keys.specs.Keys.{agree, overlap, masked, common_bits}
use Rattle.ovs_fields.specs.Equality.{equal_from_same, same_from_equal}

-- a key under one mask and then another
masked-masked : (a m n : List ℕ) → masked a (masked m n) ≡ masked (masked a m) n
unfolding masked
masked-masked [] m n = refl
masked-masked (x ∷ xs) [] [] = ap₂ (λ (y : ℕ) (ys : List ℕ). y ∷ ys) refl (masked-masked xs [] [])
masked-masked (x ∷ xs) [] (c ∷ n) = ap₂ (λ (y : ℕ) (ys : List ℕ). y ∷ ys) (sym (and_zero_l c)) (masked-masked xs [] n)
masked-masked (x ∷ xs) (b ∷ m) [] = ap₂ (λ (y : ℕ) (ys : List ℕ). y ∷ ys) (and_zero_r x) (masked-masked xs m [])
masked-masked (x ∷ xs) (b ∷ m) (c ∷ n) = ap₂ (λ (y : ℕ) (ys : List ℕ). y ∷ ys) (sym (and_assoc c x b)) (masked-masked xs m n)

masked-turned : (a m n : List ℕ) → masked a (masked m n) ≡ masked a (masked n m)
unfolding masked
masked-turned [] m n = refl
masked-turned (x ∷ xs) [] [] = refl
masked-turned (x ∷ xs) [] (c ∷ n) = ap₂ (λ (y : ℕ) (ys : List ℕ). y ∷ ys) (sym (and_zero_r x)) (masked-turned xs [] n)
masked-turned (x ∷ xs) (b ∷ m) [] = ap₂ (λ (y : ℕ) (ys : List ℕ). y ∷ ys) (and_zero_r x) (masked-turned xs m [])
masked-turned (x ∷ xs) (b ∷ m) (c ∷ n) =
    ap₂ (λ (y : ℕ) (ys : List ℕ). y ∷ ys) (λ i. bit_and x (and_comm b c i)) (masked-turned xs m n)

masked_again : (a m : List ℕ) → masked (masked a m) m ≡ masked a m
unfolding masked
masked_again [] m = refl
masked_again (x ∷ xs) [] = ap₂ (λ (y : ℕ) (ys : List ℕ). y ∷ ys) refl (masked_again xs [])
masked_again (x ∷ xs) (b ∷ m) = ap₂ (λ (y : ℕ) (ys : List ℕ). y ∷ ys) (and_assoc b x b ∙ ap (bit_and x) (and_self b)) (masked_again xs m)

-- a key under a mask has its bits in common with another mask
pub masked_common : (a m n : List ℕ) → masked (masked a n) (common_bits m n) ≡ masked a (common_bits m n)
masked_common a m n = sym (masked-masked a n (masked m n)) ∙ masked-turned a n (masked m n) ∙ ap (masked a) (masked_again m n)

-- fewer bits
fewer : (a b m n : List ℕ) → masked a m ≡ masked b m → masked a (masked m n) ≡ masked b (masked m n)
fewer a b m n equal = masked-masked a m n ∙ (λ i. masked (equal i) n) ∙ sym (masked-masked b m n)

-- two pairs that a key agrees with overlap
pub overlap_from_agree : (k a m b n : List ℕ) → agree k a m ≡ true → agree k b n ≡ true → overlap a m b n ≡ true
overlap_from_agree k a m b n first second =
    let left = fewer k a m n (equal_from_same (masked k m) (masked a m) first) in
    let right = masked-turned k m n ∙ fewer k b n m (equal_from_same (masked k n) (masked b n) second) ∙ masked-turned b n m in
    same_from_equal (masked a (common_bits m n)) (masked b (common_bits m n)) (sym left ∙ right)

-- the order of two pairs is free
pub overlap_turned : (a m b n : List ℕ) → overlap b n a m ≡ false → overlap a m b n ≡ false
overlap_turned a m b n apart =
    elim (cases_Bool (overlap a m b n)) [
      | inl holds ↦
          absurd (false≢true (sym apart ∙ same_from_equal (masked b (common_bits n m)) (masked a (common_bits n m)) (masked-turned b n m ∙ sym (equal_from_same (masked a (common_bits m n)) (masked b (common_bits m n)) holds) ∙ masked-turned a m n)))
      | inr fails ↦ fails
    ]
