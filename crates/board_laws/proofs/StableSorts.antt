-- There is but one way to sort a list stably, and it is that of the definition.
use Rattle.std.proofs.Common.{◌≡◌, suc, Bool, true, false, cond, List, [], ◌∷◌, filter, All, AllPairs, refl, sym, ap, ap₂, subst, ◌∙◌, arith, inl, inr}
use Rattle.std.proofs.lemmas.Bool.{cases_Bool}
use Rattle.std.proofs.lemmas.List.Elements.{All-nil, All-head, All-tail, All-cons, All-weaker, All-filter}
use Rattle.std.proofs.lemmas.List.Kept.{AllPairs-cons}
use Rattle.std.proofs.lemmas.List.Sorted.{sorted_far}
use Rattle.std.specs.Cmp.{IsStrictWeakOrder}
use Rattle.std.specs.List.Sorted.{ties, IsSortedBy}
use Rattle.spec_base.specs.Sorting.{insert_by, sort_by}
use Rattle.spec_base.proofs.SortLaws.{All-insert_by}

module _ {X : Type 0} (p : X → Bool) where
  -- of two elements at most one of which is kept, either may stand first
  filter-exchanged : (x y : X) (xs : List X) → (p x ≡ true → p y ≡ false) → filter p (x ∷ y ∷ xs) ≡ filter p (y ∷ x ∷ xs)
  filter-exchanged x y xs one = elim (cases_Bool (p x)) [
    | inl kept ↦ rw (kept, one kept)
    | inr dropped ↦ rw dropped
  ]

  filter-tail : (x : X) (ys zs : List X) → filter p (x ∷ ys) ≡ filter p (x ∷ zs) → filter p ys ≡ filter p zs
  filter-tail x ys zs same = elim (cases_Bool (p x)) [
    | inl kept ↦ let both = rw kept at same in cc
    | inr dropped ↦ rw dropped at same
  ]

module _ {X : Type 0} (lt : X → X → Bool) where
  -- no element comes before one that stands before it
  abbrev Rises : List X → Type 0
  Rises xs = AllPairs (λ x y. lt y x ≡ false) xs

  Rises-head : (x : X) (xs : List X) → Rises (x ∷ xs) → All (λ y. lt y x ≡ false) xs
  Rises-head x xs rises k d within = rises 0 (suc k) d (omega arith) (omega arith)

  Rises-tail : (x : X) (xs : List X) → Rises (x ∷ xs) → Rises xs
  Rises-tail x xs rises i j d before within = rises (suc i) (suc j) d (omega arith) (omega arith)

module _ {X : Type 0} (lt : X → X → Bool) (o : IsStrictWeakOrder lt) where
  Rises-from_sort : (xs : List X) → IsSortedBy lt xs → Rises lt xs
  Rises-from_sort xs sorted i j d before within = sorted_far lt o xs sorted i j d (omega arith) within

  -- of two elements of which one comes before the other, no third ties with both
  ties_with_one : (x y z : X) → lt y z ≡ true → ties lt x y ≡ true → ties lt x z ≡ false
  ties_with_one x y z before tied = grind (arith, o.chain y x z)

  irreflexive : (x : X) → lt x x ≡ false
  irreflexive x = elim (cases_Bool (lt x x)) [ inl before ↦ o.one_way x x before | inr level ↦ level ]

  filter-itself : (x : X) (xs : List X) → filter (ties lt x) (x ∷ xs) ≡ x ∷ filter (ties lt x) xs
  filter-itself x xs = rw irreflexive

  -- y stands before those that tie with it in a list that rises from z on
  level_with_first : (y z : X) (ys zs : List X) → Rises lt (z ∷ zs) → filter (ties lt y) (z ∷ zs) ≡ y ∷ ys → lt y z ≡ false
  level_with_first y z ys zs rises found =
      let P : X → Type 0 = λ x. lt x z ≡ false in
      let kept = All-filter (ties lt y) P (z ∷ zs) (All-cons P z zs (irreflexive z) (Rises-head lt z zs rises)) in
      All-head P y ys (subst (All P) found kept)

  -- two lists that rise, in which the elements that tie with one another stand alike
  same_from_ties : (ys zs : List X) → Rises lt ys → Rises lt zs → ((x : X) → filter (ties lt x) ys ≡ filter (ties lt x) zs) → ys ≡ zs
  same_from_ties [] [] left right same = refl
  same_from_ties [] (z ∷ zs) left right same = let clash = same z ∙ filter-itself z zs in cc
  same_from_ties (y ∷ ys) [] left right same = let clash = sym (same y) ∙ filter-itself y ys in cc
  same_from_ties (y ∷ ys) (z ∷ zs) left right same =
      let at_y = sym (same y) ∙ filter-itself y ys in
      let at_z = same z ∙ filter-itself z zs in
      let fronts = rw (level_with_first y z _ zs right at_y, level_with_first z y _ ys left at_z) at at_y in
      let prefix : y ≡ z = cc in
      let rest : (x : X) → filter (ties lt x) ys ≡ filter (ties lt x) zs = λ x. filter-tail (ties lt x) z ys zs (ap (λ w. filter (ties lt x) (w ∷ ys)) (sym prefix) ∙ same x) in
      ap₂ (λ x xs. x ∷ xs) prefix (same_from_ties ys zs (Rises-tail lt y ys left) (Rises-tail lt z zs right) rest)

  -- ---- what the definition makes

  ties-insert_by : (x a : X) (bs : List X) → filter (ties lt x) (insert_by lt a bs) ≡ filter (ties lt x) (a ∷ bs)
  unfolding insert_by
  ties-insert_by x a [] = refl
  ties-insert_by x a (b ∷ bs) =
      let p = ties lt x in
      elim (cases_Bool (lt b a)) [
        | inl after ↦
            rw after (ap (λ l. cond (p b) (b ∷ l) l) (ties-insert_by x a bs) ∙ filter-exchanged p b a bs (ties_with_one x b a after))
        | inr here ↦ rw here
      ]

  ties-sort_by : (x : X) (xs : List X) → filter (ties lt x) (sort_by lt xs) ≡ filter (ties lt x) xs
  unfolding sort_by
  ties-sort_by x [] = refl
  ties-sort_by x (a ∷ rest) =
      ties-insert_by x a (sort_by lt rest) ∙ ap (λ l. cond (ties lt x a) (a ∷ l) l) (ties-sort_by x rest)

  Rises-insert_by : (a : X) (bs : List X) → Rises lt bs → Rises lt (insert_by lt a bs)
  unfolding insert_by
  Rises-insert_by a [] rises = AllPairs-cons (λ x y. lt y x ≡ false) a [] (All-nil _) rises
  Rises-insert_by a (b ∷ bs) rises =
      let R : X → X → Type 0 = λ x y. lt y x ≡ false in
      let above = Rises-head lt b bs rises in
      elim (cases_Bool (lt b a)) [
        | inl after ↦
            rw after (AllPairs-cons R b (insert_by lt a bs) (All-insert_by lt (R b) a bs (o.one_way b a after) above)
            (Rises-insert_by a bs (Rises-tail lt b bs rises)))
        | inr here ↦
            let rest = All-weaker (R b) (R a) (λ c level. o.chain c b a level here) bs above in
            rw here (AllPairs-cons R a (b ∷ bs) (All-cons (R a) b bs here rest) rises)
      ]

  Rises-sort_by : (xs : List X) → Rises lt (sort_by lt xs)
  unfolding sort_by
  Rises-sort_by [] = λ i j d before within. absurd (omega arith)
  Rises-sort_by (a ∷ rest) = Rises-insert_by a (sort_by lt rest) (Rises-sort_by rest)

  -- a list that is sorted, and whose elements that tie stand as they stood in another, is that one sorted
  pub sorted_stably : (xs ys : List X) → IsSortedBy lt ys → ((x : X) → filter (ties lt x) ys ≡ filter (ties lt x) xs) → ys ≡ sort_by lt xs
  sorted_stably xs ys sorted stable =
      same_from_ties ys (sort_by lt xs) (Rises-from_sort ys sorted) (Rises-sort_by xs) (λ x. stable x ∙ sym (ties-sort_by x xs))
