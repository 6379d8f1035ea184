-- The rules of which the first places of some tell, as they become one more.
use Rattle.std.proofs.Common.{◌≡◌, ℕ, zero, suc, ◌+◌, List, [], ◌∷◌, ◌++◌, append-nil, take, drop, length, Option, Some, None, refl, ap, ◌∙◌, arith}
use Rattle.std.specs.Prelude.{slice_get}
use Rattle.std.specs.List.{cons_option}
use Rattle.std.proofs.lemmas.List.{take_all}
use Rattle.std.proofs.lemmas.Option.{none-some, same_Some}
use Rattle.spec_tables.specs.Rules.{Rule}
use Rattle.rule_tables.specs.Bare.{told}

cons_append : (o : Option Rule) (xs ys : List Rule) → cons_option o (xs ++ ys) ≡ cons_option o xs ++ ys
cons_append None xs ys = refl
cons_append (Some r) xs ys = refl

told_next : (os : List (Option Rule)) (n : ℕ) (o : Option Rule) → slice_get os n ≡ Some o → told (take (suc n) os) ≡ told (take n os) ++ cons_option o []
told_next [] n o at = absurd (none-some o at)
told_next (p ∷ os) zero o at = ap (λ (q : Option Rule). cons_option q []) (same_Some p o at)
told_next (p ∷ os) (suc n) o at = ap (cons_option p) (told_next os n o at) ∙ cons_append p (told (take n os)) (cons_option o [])

-- a place that tells of a rule, and one that tells of none
pub told_more : (os : List (Option Rule)) (n : ℕ) (r : Rule) → slice_get os n ≡ Some (Some r) → told (take (n + 1) os) ≡ told (take n os) ++ r ∷ []
told_more os n r at = let next : n + 1 ≡ suc n = omega arith in ap (λ (k : ℕ). told (take k os)) next ∙ told_next os n (Some r) at

pub told_same : (os : List (Option Rule)) (n : ℕ) → slice_get os n ≡ Some None → told (take (n + 1) os) ≡ told (take n os)
told_same os n at = let next : n + 1 ≡ suc n = omega arith in ap (λ (k : ℕ). told (take k os)) next ∙ told_next os n None at ∙ append-nil (told (take n os))

-- the rule of a place stands behind those of the places before it
pub told_around : (os : List (Option Rule)) (n : ℕ) (r : Rule) → slice_get os n ≡ Some (Some r) → told os ≡ told (take n os) ++ r ∷ told (drop (suc n) os)
told_around [] n r at = absurd (none-some (Some r) at)
told_around (p ∷ os) zero r at = ap (λ (q : Option Rule). cons_option q (told os)) (same_Some p (Some r) at)
told_around (p ∷ os) (suc n) r at = ap (cons_option p) (told_around os n r at) ∙ cons_append p (told (take n os)) (r ∷ told (drop (suc n) os))

pub told_all : (os : List (Option Rule)) (n : ℕ) → n ≡ length os → told (take n os) ≡ told os
told_all os n is = ap (λ (k : ℕ). told (take k os)) is ∙ ap told (take_all (length os) os (omega arith))

-- the first none tell of no rule
pub told_none : (os : List (Option Rule)) → told (take 0 os) ≡ []
told_none [] = refl
told_none (o ∷ os) = refl
