-- Tests of numbers that differ.
use Rattle.std.proofs.Common.{◌≡◌, ℕ, Bool, true, false, ◌==◌, refl, eqb-true}

pub not_equal : (a b : ℕ) → (a ≡ b → ⊥) → (a == b) ≡ false
not_equal a b differ = at (a == b) refl
  where
    at : (t : Bool) → (a == b) ≡ t → t ≡ false
    at true e = absurd (differ (eqb-true a b e))
    at false e = refl
