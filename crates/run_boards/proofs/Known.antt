-- What is so of each board of a list.
use Rattle.std.proofs.Common.{◌≡◌, ◌⊎◌, inl, inr, ℕ, ◌+◌, ◌<◌, List, length, slice_index_or, sym, ◌∙◌, subst, arith}
use Rattle.std.proofs.lemmas.Bool.{cases_eq}
use Rattle.std.proofs.lemmas.List.{get_or_default}
use Rattle.pmd_board.specs.BoardView.{BoardView}

-- what is so of those before a place, and at it, is so of one more
pub one_known : (P : BoardView → Type 0) (bs : List BoardView) (i : ℕ) (b : BoardView) → i < length bs → b ≡ slice_index_or bs i b → P b
    → ((k : ℕ) (d : BoardView) → k < i → P (slice_index_or bs k d)) → (k : ℕ) (d : BoardView) → k < i + 1 → P (slice_index_or bs k d)
one_known P bs i b within is here before k d upto = by_cases (cases_eq k i)
  where
    by_cases : (k ≡ i) ⊎ (k ≡ i → ⊥) → P (slice_index_or bs k d)
    by_cases (inl e) = subst (λ j. P (slice_index_or bs j d)) (sym e) (subst P (is ∙ get_or_default bs i b d within) here)
    by_cases (inr n) = before k d (omega (arith, upto, n))
