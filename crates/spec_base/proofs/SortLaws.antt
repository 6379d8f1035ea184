-- A sorted list has the elements that it had.
use Rattle.std.proofs.Common.{◌≡◌, ◌+◌, Bool, true, false, if◌then◌else◌, List, [], ◌∷◌, length, All, refl, arith, inl, inr}
use Rattle.std.proofs.lemmas.Bool.{cases_Bool}
use Rattle.std.proofs.lemmas.List.Elements.{All-cons, All-head, All-tail}
use Rattle.spec_base.specs.Sorting.{insert_by, sort_by}

module _ {A : Type 0} (before : A → A → Bool) where
  pub All-insert_by : (P : A → Type 0) (a : A) (bs : List A) → P a → All P bs → All P (insert_by before a bs)
  unfolding insert_by
  All-insert_by P a [] first rest = All-cons P a [] first rest
  All-insert_by P a (b ∷ bs) first rest = elim (cases_Bool (before b a)) [
    | inl after ↦
        rw after (All-cons P b (insert_by before a bs) (All-head P b bs rest) (All-insert_by P a bs first (All-tail P b bs rest)))
    | inr here ↦ rw here (All-cons P a (b ∷ bs) first rest)
  ]

  pub All-sort_by : (P : A → Type 0) (xs : List A) → All P xs → All P (sort_by before xs)
  unfolding sort_by
  All-sort_by P [] all = all
  All-sort_by P (a ∷ rest) all = All-insert_by P a (sort_by before rest) (All-head P a rest all) (All-sort_by P rest (All-tail P a rest all))

  length-insert_by : (a : A) (bs : List A) → length (insert_by before a bs) ≡ length bs + 1
  unfolding insert_by
  length-insert_by a [] = refl
  length-insert_by a (b ∷ bs) = at (before b a) (length-insert_by a bs)
    where
      at : (t : Bool) → length (insert_by before a bs) ≡ length bs + 1
          → length (if t then b ∷ insert_by before a bs else a ∷ b ∷ bs) ≡ length (b ∷ bs) + 1
      at true same = omega (arith, same)
      at false same = omega arith

  pub length-sort_by : (xs : List A) → length (sort_by before xs) ≡ length xs
  unfolding sort_by
  length-sort_by [] = refl
  length-sort_by (a ∷ rest) = omega (arith, length-insert_by a (sort_by before rest), length-sort_by rest)
