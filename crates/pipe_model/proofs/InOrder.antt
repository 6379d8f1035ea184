-- Numbers in rising order: there is but one such list of the same numbers, each as often.
use Rattle.std.proofs.Common.{◌≡◌, inl, inr, ℕ, ◌+◌, ◌≤◌, ◌<◌, Bool, true, false, ◌==◌, if◌then◌else◌, List, [], ◌∷◌, filter, refl, sym, ap, ap₂, ◌∙◌, subst, eq-eqb, ne_eqb, le_refl, arith, nat_lt}
use Rattle.std.proofs.lemmas.Bool.{cases_lt, cases_eq, ltb-true, ltb-false}
use Rattle.spec_base.specs.Sorting.{insert_by, sort_by}
use Rattle.spec_xlate.specs.Translation.{rising}

-- how often a number stands in a list
abbrev occurrences : ℕ → List ℕ → ℕ
occurrences v [] = 0
occurrences v (x ∷ xs) = (if x == v then 1 else 0) + occurrences v xs

-- Numbers rise, from a bound on.
abbrev pub Rise : ℕ → List ℕ → Type 0
Rise low [] = Unit {0}
Rise low (x ∷ xs) = (low ≤ x) × Rise x xs

rise_lower : (low lower : ℕ) (xs : List ℕ) → lower ≤ low → Rise low xs → Rise lower xs
rise_lower low lower [] le h = tt
rise_lower low lower (x ∷ xs) le h = (omega (arith, h.0, le), h.1)

-- ---- the same numbers in rising order are the same list

here : (v : ℕ) (xs : List ℕ) → occurrences v (v ∷ xs) ≡ 1 + occurrences v xs
here v xs = ap (λ t. (if t then 1 else 0) + occurrences v xs) (eq-eqb v v refl)

elsewhere : (v x : ℕ) (xs : List ℕ) → (x ≡ v → ⊥) → occurrences v (x ∷ xs) ≡ occurrences v xs
elsewhere v x xs other = ap (λ t. (if t then 1 else 0) + occurrences v xs) (ne_eqb x v other) ∙ omega arith

none_below : (v low : ℕ) (xs : List ℕ) → v < low → Rise low xs → occurrences v xs ≡ 0
none_below v low [] lt h = refl
none_below v low (x ∷ xs) lt h =
    let later : v < x = omega (arith, h.0, lt) in elsewhere v x xs (λ e. omega arith) ∙ none_below v x xs later h.1

same_rising : (low : ℕ) (ys zs : List ℕ) → Rise low ys → Rise low zs → ((v : ℕ) → occurrences v ys ≡ occurrences v zs) → ys ≡ zs
same_rising low [] [] left right same = refl
same_rising low [] (z ∷ zs) left right same = let one = here z zs in let none = same z in absurd (omega arith)
same_rising low (y ∷ ys) [] left right same = let one = here y ys in let none = same y in absurd (omega arith)
same_rising low (y ∷ ys) (z ∷ zs) left right same =
    elim (cases_eq y z) [
      | inl equal ↦
          let rest : (v : ℕ) → occurrences v ys ≡ occurrences v zs = λ v.
          let all : (if y == v then 1 else 0) + occurrences v ys ≡ (if y == v then 1 else 0) + occurrences v zs = same v ∙ ap (λ x. (if x == v then 1 else 0) + occurrences v zs) (sym equal) in omega (arith, all) in
          ap₂ (λ x xs. x ∷ xs) equal (same_rising y ys zs left.1 (subst (λ x. Rise x zs) (sym equal) right.1) rest)
      | inr other ↦ elim (cases_lt y z) [
        | inl less ↦
            let one = here y ys in
            let none = none_below y z (z ∷ zs) less (le_refl z, right.1) in
            let same_y = same y in absurd (omega arith)
        | inr more ↦
            let less : z < y = omega arith in
            let one = here z zs in
            let none = none_below z y (y ∷ ys) less (le_refl y, left.1) in
            let same_z = same z in absurd (omega arith)
      ]
    ]

-- ---- what the definition of rising order makes

rise_inserted : (low n : ℕ) (xs : List ℕ) → low ≤ n → Rise low xs → Rise low (insert_by nat_lt n xs)
unfolding insert_by
rise_inserted low n [] le h = (le, tt)
rise_inserted low n (x ∷ xs) le h = by_test (nat_lt x n) refl (λ after. rise_inserted x n xs after h.1)
  where
    by_test : (t : Bool) → nat_lt x n ≡ t → (x ≤ n → Rise x (insert_by nat_lt n xs)) → Rise low (if t then x ∷ insert_by nat_lt n xs else n ∷ x ∷ xs)
    by_test true test further = let after : x < n = ltb-true x n test in (h.0, further (omega arith))
    by_test false test further = (le, (ltb-false x n test, h.1))

pub rise_rising : (xs : List ℕ) → Rise 0 (rising xs)
unfolding sort_by
rise_rising [] = tt
rise_rising (x ∷ xs) = rise_inserted 0 x (rising xs) (omega arith) (rise_rising xs)

occurrences-inserted : (v n : ℕ) (xs : List ℕ) → occurrences v (insert_by nat_lt n xs) ≡ occurrences v (n ∷ xs)
unfolding insert_by
occurrences-inserted v n [] = refl
occurrences-inserted v n (x ∷ xs) = by_test (nat_lt x n) (occurrences-inserted v n xs)
  where
    by_test : (t : Bool) → occurrences v (insert_by nat_lt n xs) ≡ occurrences v (n ∷ xs) → occurrences v (if t then x ∷ insert_by nat_lt n xs else n ∷ x ∷ xs) ≡ occurrences v (n ∷ x ∷ xs)
    by_test true further = omega (arith, further)
    by_test false further = refl

occurrences-rising : (v : ℕ) (xs : List ℕ) → occurrences v (rising xs) ≡ occurrences v xs
unfolding sort_by
occurrences-rising v [] = refl
occurrences-rising v (x ∷ xs) = occurrences-inserted v x (rising xs) ∙ ap (λ n. (if x == v then 1 else 0) + n) (occurrences-rising v xs)

-- ---- numbers that are left out

rise_filter : (p : ℕ → Bool) (low : ℕ) (xs : List ℕ) → Rise low xs → Rise low (filter p xs)
rise_filter p low [] h = tt
rise_filter p low (x ∷ xs) h = by_test (p x) (rise_filter p x xs h.1)
  where
    by_test : (t : Bool) → Rise x (filter p xs) → Rise low (if t then x ∷ filter p xs else filter p xs)
    by_test true others = (h.0, others)
    by_test false others = rise_lower x low (filter p xs) h.0 others

occurrences-filter : (p : ℕ → Bool) (v : ℕ) (xs : List ℕ) → occurrences v (filter p xs) ≡ (if p v then occurrences v xs else 0)
occurrences-filter p v [] = at (p v)
  where
    at : (t : Bool) → ◌≡◌ {A = ℕ} 0 (if t then 0 else 0)
    at true = refl
    at false = refl
occurrences-filter p v (x ∷ xs) =
    elim (cases_eq x v) [
      | inl equal ↦ subst (λ y. occurrences v (if p y then y ∷ filter p xs else filter p xs) ≡ (if p v then (if y == v then 1 else 0) + occurrences v xs else 0)) (sym equal) (same_number (p v) (occurrences-filter p v xs))
      | inr other ↦ other_number (p x) other (occurrences-filter p v xs) ∙ ap (λ n. if p v then n else 0) (sym (elsewhere v x xs other))
    ]
  where
    same_number : (t : Bool) → occurrences v (filter p xs) ≡ (if t then occurrences v xs else 0) → occurrences v (if t then v ∷ filter p xs else filter p xs) ≡ (if t then (if v == v then 1 else 0) + occurrences v xs else 0)
    same_number true others = ap (λ n. (if v == v then 1 else 0) + n) others
    same_number false others = others

    other_number : (t : Bool) → (x ≡ v → ⊥) → occurrences v (filter p xs) ≡ (if p v then occurrences v xs else 0) → occurrences v (if t then x ∷ filter p xs else filter p xs) ≡ (if p v then occurrences v xs else 0)
    other_number true other others = elsewhere v x (filter p xs) other ∙ others
    other_number false other others = others

-- left out of those in rising order, or put in rising order after they were left out: the same
pub filter-rising : (p : ℕ → Bool) (xs : List ℕ) → filter p (rising xs) ≡ rising (filter p xs)
filter-rising p xs =
    same_rising 0 (filter p (rising xs)) (rising (filter p xs)) (rise_filter p 0 (rising xs) (rise_rising xs)) (rise_rising (filter p xs))
    (λ v. occurrences-filter p v (rising xs) ∙ ap (λ n. if p v then n else 0) (occurrences-rising v xs) ∙ sym (occurrences-filter p v xs) ∙ sym (occurrences-rising v (filter p xs)))
