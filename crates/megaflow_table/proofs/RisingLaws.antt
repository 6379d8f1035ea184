-- Numbers that rise: what a filter and a sort make of them, and that there is but one such list of the same numbers.
use Rattle.std.proofs.Common.{◌≡◌, ℕ, suc, ◌<◌, ◌⊎◌, Bool, true, false, cond, nat_eq, List, [], ◌∷◌, ◌++◌, length, filter, refl, sym, ap, ap₂, subst, ◌∙◌, inl, inr, arith, ne_eqb}
use Rattle.std.specs.List.{Contains, AllPairs, AllByRecursion, IsDistinct}
use Rattle.std.specs.Cmp.{nat_eq_equiv}
use Rattle.std.specs.List.Sorted.{IsPermutation, IsNonDecreasing}
use Rattle.std.proofs.lemmas.Bool.{false≢true}
use Rattle.std.proofs.lemmas.List.Kept.{AllPairs-from_increasing}
use Rattle.std.proofs.lemmas.List.Sorted.{Contains-permutation, IsPermutation-sym}
use Rattle.std.proofs.lemmas.Map.Keys.{IsDistinct-IsPermutation, IsStrictlyIncreasing-from_distinct}
use Rattle.megaflow_table.specs.Live.{IsIn, IsRising}
use Rattle.megaflow_table.proofs.LiveLaws.{in_get, stands_at}

-- ---- those that pass a test

module _ (p : ℕ → Bool) where
  pub in_filter : (n : ℕ) (xs : List ℕ) → IsIn n (filter p xs) → IsIn n xs × (p n ≡ true)
  in_filter n [] none = absurd none
  in_filter n (x ∷ xs) is_in = at (p x) refl (in_filter n xs) is_in
    where
      at : (t : Bool) → p x ≡ t → (IsIn n (filter p xs) → IsIn n xs × (p n ≡ true)) → IsIn n (cond t (x ∷ filter p xs) (filter p xs)) → IsIn n (x ∷ xs) × (p n ≡ true)
      at true passes tail (inl equal) = (inl equal, ap p equal ∙ passes)
      at true passes tail (inr later) = let rest = tail later in (inr rest.0, rest.1)
      at false fails tail later = let rest = tail later in (inr rest.0, rest.1)

  pub filter_in : (n : ℕ) (xs : List ℕ) → IsIn n xs → p n ≡ true → IsIn n (filter p xs)
  filter_in n [] none passes = absurd none
  filter_in n (x ∷ xs) is_in passes = at (p x) refl (λ later. filter_in n xs later passes) is_in
    where
      at : (t : Bool) → p x ≡ t → (IsIn n xs → IsIn n (filter p xs)) → IsIn n (x ∷ xs) → IsIn n (cond t (x ∷ filter p xs) (filter p xs))
      at true is tail (inl equal) = inl equal
      at true is tail (inr later) = inr (tail later)
      at false is tail (inl equal) = absurd (false≢true (sym is ∙ ap p (sym equal) ∙ passes))
      at false is tail (inr later) = tail later

  pub rising_filter : (xs : List ℕ) → IsRising xs → IsRising (filter p xs)
  rising_filter [] rising = tt
  rising_filter (x ∷ xs) rising = at (p x) (rising_filter xs rising.1)
    where
      at : (t : Bool) → IsRising (filter p xs) → IsRising (cond t (x ∷ filter p xs) (filter p xs))
      at true tail = (λ n is_in. rising.0 n (in_filter n xs is_in).0, tail)
      at false tail = tail

-- ---- each once

-- no number stands twice
abbrev pub AreDistinct : List ℕ → Type 0
AreDistinct [] = Unit {0}
AreDistinct (x ∷ xs) = (IsIn x xs → ⊥) × AreDistinct xs

pub in_appended : (n : ℕ) (xs ys : List ℕ) → IsIn n (xs ++ ys) → IsIn n xs ⊎ IsIn n ys
in_appended n [] ys is_in = inr is_in
in_appended n (x ∷ xs) ys (inl equal) = inl (inl equal)
in_appended n (x ∷ xs) ys (inr later) = elim (in_appended n xs ys later) [ inl first ↦ inl (inr first) | inr second ↦ inr second ]

pub in_first : (n : ℕ) (xs ys : List ℕ) → IsIn n xs → IsIn n (xs ++ ys)
in_first n [] ys none = absurd none
in_first n (x ∷ xs) ys (inl equal) = inl equal
in_first n (x ∷ xs) ys (inr later) = inr (in_first n xs ys later)

pub in_second : (n : ℕ) (xs ys : List ℕ) → IsIn n ys → IsIn n (xs ++ ys)
in_second n [] ys is_in = is_in
in_second n (x ∷ xs) ys is_in = inr (in_second n xs ys is_in)

pub distinct_appended : (xs ys : List ℕ) → AreDistinct xs → AreDistinct ys → ((n : ℕ) → IsIn n xs → IsIn n ys → ⊥) → AreDistinct (xs ++ ys)
distinct_appended [] ys left right apart = right
distinct_appended (x ∷ xs) ys left right apart = (
  λ is_in. elim (in_appended x xs ys is_in) [ inl first ↦ left.0 first | inr second ↦ apart x (inl refl) second ],
  distinct_appended xs ys left.1 right (λ n first second. apart n (inr first) second),
)

others_differ : (x : ℕ) (xs : List ℕ) → (IsIn x xs → ⊥) → AllByRecursion (λ y. nat_eq x y ≡ false) xs
others_differ x [] other = tt
others_differ x (y ∷ ys) other = (ne_eqb x y (λ equal. other (inl equal)), others_differ x ys (λ later. other (inr later)))

is_distinct : (xs : List ℕ) → AreDistinct xs → IsDistinct nat_eq xs
unfolding IsDistinct
is_distinct [] distinct = tt
is_distinct (x ∷ xs) distinct = (others_differ x xs distinct.0, is_distinct xs distinct.1)

-- ---- in rising order

behind_first : (x y n : ℕ) (ys : List ℕ) → x ≡ y → x < n → (n ≡ y) ⊎ IsIn n ys → IsIn n ys
behind_first x y n ys equal below (inl is) = absurd (omega (arith, equal, below, is))
behind_first x y n ys equal below (inr later) = later

-- lists that rise and have the same numbers are the same
same_rising : (xs ys : List ℕ) → IsRising xs → IsRising ys → ((n : ℕ) → IsIn n xs → IsIn n ys) → ((n : ℕ) → IsIn n ys → IsIn n xs) → xs ≡ ys
same_rising [] [] left right forth back = refl
same_rising [] (y ∷ ys) left right forth back = absurd (back y (inl refl))
same_rising (x ∷ xs) [] left right forth back = absurd (forth x (inl refl))
same_rising (x ∷ xs) (y ∷ ys) left right forth back =
    let equal = least (forth x (inl refl)) (back y (inl refl)) in
    ap₂ (λ (z : ℕ) (zs : List ℕ). z ∷ zs) equal
    (same_rising xs ys left.1 right.1
    (λ n is_in. behind_first x y n ys equal (left.0 n is_in) (forth n (inr is_in)))
    (λ n is_in. behind_first y x n xs (sym equal) (right.0 n is_in) (back n (inr is_in))))
  where
    least : (x ≡ y) ⊎ IsIn x ys → (y ≡ x) ⊎ IsIn y xs → x ≡ y
    least (inl equal) other = equal
    least (inr later) (inl equal) = sym equal
    least (inr later) (inr sooner) = let above : y < x = right.0 x later in let below : x < y = left.0 y sooner in absurd (omega (arith, above, below))

rising_from_pairs : (xs : List ℕ) → AllPairs (λ x y. x < y) xs → IsRising xs
rising_from_pairs [] pairs = tt
rising_from_pairs (x ∷ xs) pairs = (
  λ n is_in.
      let there = stands_at n xs is_in in
      let within : there.0 < length xs = there.1 in
      subst (λ m. x < m) there.2 (pairs 0 (suc there.0) 0 (omega arith) (omega (arith, within))),
  rising_from_pairs xs (λ i j d lt within. pairs (suc i) (suc j) d (omega arith) (omega arith)),
)

contains_from_in : (n : ℕ) (xs : List ℕ) → IsIn n xs → Contains xs n
contains_from_in n [] none = absurd none
contains_from_in n (x ∷ xs) (inl equal) = (0, omega arith, sym equal)
contains_from_in n (x ∷ xs) (inr later) =
    let there = contains_from_in n xs later in let within : there.0 < length xs = there.1 in (suc there.0, omega (arith, within), there.2)

in_permuted : (n : ℕ) (xs ys : List ℕ) → IsPermutation xs ys → IsIn n xs → IsIn n ys
in_permuted n xs ys moved is_in =
    let there = Contains-permutation xs ys n moved (contains_from_in n xs is_in) in subst (λ m. IsIn m ys) there.2 (in_get ys there.0 n there.1)

-- distinct numbers, sorted, are those of a list that rises which pass a test, if they are the same numbers
pub sorted_filter : (p : ℕ → Bool) (live xs ys : List ℕ) → IsRising live → AreDistinct xs → IsPermutation xs ys → IsNonDecreasing ys
    → ((n : ℕ) → IsIn n xs → IsIn n live × (p n ≡ true)) → ((n : ℕ) → IsIn n live → p n ≡ true → IsIn n xs) → ys ≡ filter p live
sorted_filter p live xs ys rising distinct moved sorted sound whole =
    same_rising ys (filter p live)
    (rising_from_pairs ys (AllPairs-from_increasing ys (IsStrictlyIncreasing-from_distinct ys sorted (IsDistinct-IsPermutation nat_eq nat_eq_equiv.symm xs ys moved (is_distinct xs distinct)))))
    (rising_filter p live rising)
    (λ n is_in. let found = sound n (in_permuted n ys xs (IsPermutation-sym xs ys moved) is_in) in filter_in p n live found.0 found.1)
    (λ n is_in. let kept = in_filter p n live is_in in in_permuted n xs ys moved (whole n kept.0 kept.1))
