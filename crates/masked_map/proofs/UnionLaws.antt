-- Masks that are added to others: in any order, and one without bits.
use Rattle.std.proofs.Common.{◌≡◌, ℕ, zero, suc, ◌≤◌, List, [], ◌∷◌, length, replicate, refl, sym, ap, ap₂, ◌∙◌, arith}
use Rattle.std.specs.Int.Bits.{or_zero_r}
use Rattle.spec_keys.specs.Fields.{field_count}
use Rattle.spec_keys.specs.Keys.{joined, none, IsKey}
use Rattle.table_laws.proofs.UnionLaws.{joined_assoc, joined_comm}

-- which of two comes first makes no difference
pub joined_turned : (m x y : List ℕ) → joined (joined m x) y ≡ joined (joined m y) x
joined_turned m x y = joined_assoc m x y ∙ ap (joined m) (joined_comm x y) ∙ sym (joined_assoc m y x)

joined-zeros : (m : List ℕ) (n : ℕ) → n ≤ length m → joined m (replicate n 0) ≡ m
unfolding joined
joined-zeros [] zero le = refl
joined-zeros [] (suc n) le = absurd (omega (arith, le))
joined-zeros (a ∷ m) zero le = refl
joined-zeros (a ∷ m) (suc n) le = ap₂ (λ (x : ℕ) (l : List ℕ). x ∷ l) (or_zero_r a) (joined-zeros m n (omega (arith, le)))

pub joined-none : (m : List ℕ) → IsKey m → joined m none ≡ m
unfolding none
joined-none m is = joined-zeros m field_count (let l = is.fields in omega (arith, l))
