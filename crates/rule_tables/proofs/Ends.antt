-- What stands at each place once a rule's life has ended.
use Rattle.std.proofs.Common.{◌≡◌, ℕ, zero, suc, ◌<◌, List, [], ◌∷◌, ◌++◌, length, take, drop, Option, Some, None, refl, sym, ap, ◌∙◌, arith, ◌⊎◌, inl, inr}
use Rattle.std.specs.Prelude.{slice_get, slice_set}
use Rattle.std.proofs.lemmas.Option.{none-some, same_Some}
use Rattle.std.proofs.Math.Seq.{take-append_seam}
use Rattle.rule_tables.specs.declared.stored.StoredRule.{StoredRule}
use Rattle.rule_tables.specs.Stored.{ended, with_end}

-- how the rule t at place i came from the rule s there: its life ended, if it is the one at the old place, or it stayed
abbrev pub Follows : Option ℕ → ℕ → ℕ → StoredRule → StoredRule → Type 0
Follows old gone i s t = ((old ≡ Some i) × (t ≡ record s { gone = Some gone })) ⊎ ((old ≡ Some i → ⊥) × (t ≡ s))

pub length-ended : (place gone : ℕ) (xs : List StoredRule) → length (ended place gone xs) ≡ length xs
length-ended place gone [] = refl
length-ended zero gone (x ∷ xs) = refl
length-ended (suc place) gone (x ∷ xs) = ap suc (length-ended place gone xs)

pub length-with_end : (old : Option ℕ) (gone : ℕ) (xs : List StoredRule) → length (with_end old gone xs) ≡ length xs
length-with_end None gone xs = refl
length-with_end (Some place) gone xs = length-ended place gone xs

pub ended_cases : (place gone i : ℕ) (xs : List StoredRule) (t : StoredRule) → slice_get (ended place gone xs) i ≡ Some t
    → (s : StoredRule) × (slice_get xs i ≡ Some s) × (((i ≡ place) × (t ≡ record s { gone = Some gone })) ⊎ ((i ≡ place → ⊥) × (t ≡ s)))
ended_cases place gone i [] t at = absurd (none-some t at)
ended_cases zero gone zero (x ∷ xs) t at = (x, refl, inl (refl, sym (same_Some (record x { gone = Some gone }) t at)))
ended_cases zero gone (suc i) (x ∷ xs) t at = (t, at, inr (λ e. omega arith, refl))
ended_cases (suc place) gone zero (x ∷ xs) t at = (x, refl, inr (λ e. omega arith, sym (same_Some x t at)))
ended_cases (suc place) gone (suc i) (x ∷ xs) t at =
    let rest = ended_cases place gone i xs t at in
    (rest.0, rest.1, elim rest.2 [ inl (e, is) ↦ inl (ap suc e, is) | inr (ne, is) ↦ inr (λ e. ne (omega arith), is) ])

pub with_end_cases : (old : Option ℕ) (gone i : ℕ) (xs : List StoredRule) (t : StoredRule) → slice_get (with_end old gone xs) i ≡ Some t
    → (s : StoredRule) × (slice_get xs i ≡ Some s) × Follows old gone i s t
with_end_cases None gone i xs t at = (t, at, inr (λ e. none-some i e, refl))
with_end_cases (Some place) gone i xs t at =
    let rest = ended_cases place gone i xs t at in (
      rest.0,
      rest.1,
      elim rest.2 [
        | inl (e, is) ↦ inl (ap (λ (k : ℕ). Some k) (sym e), is)
        | inr (ne, is) ↦ inr (λ e. ne (sym (same_Some place i e)), is)
      ],
    )

-- a write at the place does it
pub set-ended : (xs : List StoredRule) (place gone : ℕ) (s : StoredRule) → slice_get xs place ≡ Some s → slice_set xs place (record s { gone = Some gone }) ≡ ended place gone xs
set-ended [] place gone s at = absurd (none-some s at)
set-ended (x ∷ xs) zero gone s at = ap (λ (r : StoredRule). record r { gone = Some gone } ∷ xs) (sym (same_Some x s at))
set-ended (x ∷ xs) (suc place) gone s at = ap (λ (rest : List StoredRule). x ∷ rest) (set-ended xs place gone s at)

-- one more rule after stays
pub with_end-push : (old : Option ℕ) (gone : ℕ) (xs : List StoredRule) (x : StoredRule) → ((i : ℕ) → old ≡ Some i → i < length xs) → with_end old gone (xs ++ x ∷ []) ≡ with_end old gone xs ++ x ∷ []
with_end-push None gone xs x within = refl
with_end-push (Some place) gone xs x within = ended-push place gone xs x (within place refl)
  where
    ended-push : (place gone : ℕ) (xs : List StoredRule) (x : StoredRule) → place < length xs → ended place gone (xs ++ x ∷ []) ≡ ended place gone xs ++ x ∷ []
    ended-push place gone [] x lt = absurd (omega arith)
    ended-push zero gone (y ∷ ys) x lt = refl
    ended-push (suc place) gone (y ∷ ys) x lt = ap (λ (rest : List StoredRule). y ∷ rest) (ended-push place gone ys x (omega arith))

-- a slice of all of a vector's elements, once written
pub written : (n : ℕ) (xs ys : List StoredRule) → n ≡ length xs → take n (xs ++ drop (length xs) ys) ≡ xs
written n xs ys all = ap (λ (m : ℕ). take m (xs ++ drop (length xs) ys)) all ∙ take-append_seam xs (drop (length xs) ys)
