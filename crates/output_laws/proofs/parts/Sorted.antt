-- Arrivals of which some come before all others are put in order apart.
use Rattle.std.proofs.Common.{◌≡◌, ℕ, ◌+◌, ◌<◌, ◌≤◌, ◌==◌, ◌⊎◌, Bool, true, false, if◌then◌else◌, List, [], ◌∷◌, ◌++◌, map, refl, sym, ap, ◌∙◌, arith, inl, inr}
use Rattle.std.specs.Prelude.{All, nat_lt}
use Rattle.std.specs.Ordering.{nat_cmp, is_lt, ordering_then}
use Rattle.std.specs.declared.cmp.Ordering.TheVariants.{Less, Equal, Greater}
use Rattle.std.proofs.lemmas.Bool.{cases_Bool, cases_order, lt-ltb, le-ltb, eq-eqb, ne_eqb, cond-true, cond-false}
use Rattle.std.proofs.lemmas.List.Elements.{All-cons, All-head, All-tail, All-append, All-weaker, All-map}
use Rattle.spec_case.specs.declared.arrival.Arrival.{Arrival}
use Rattle.spec_base.specs.Sorting.{insert_by, sort_by}
use Rattle.spec_base.proofs.SortLaws.{All-sort_by}
use Rattle.spec_case.specs.Arrivals.{comes_before, in_order}

-- ---- one arrival

-- an arrival that none of the later ones comes before is put among the earlier ones
put_early : (a : Arrival) (xs ys : List Arrival) → All (λ y. comes_before y a ≡ false) ys → insert_by comes_before a (xs ++ ys) ≡ insert_by comes_before a xs ++ ys
unfolding insert_by
put_early a [] [] none = refl
put_early a [] (y ∷ ys) none = cond-false (comes_before y a) _ _ (All-head (λ y. comes_before y a ≡ false) y ys none)
put_early a (x ∷ xs) ys none = at (comes_before x a) refl (put_early a xs ys none)
  where
    at : (t : Bool) → comes_before x a ≡ t → insert_by comes_before a (xs ++ ys) ≡ insert_by comes_before a xs ++ ys
        → (if t then x ∷ insert_by comes_before a (xs ++ ys) else a ∷ x ∷ (xs ++ ys)) ≡ (if t then x ∷ insert_by comes_before a xs else a ∷ x ∷ xs) ++ ys
    at true e more = ap (λ l. x ∷ l) more
    at false e more = refl

-- one that all earlier ones come before is put among the later ones
put_late : (a : Arrival) (xs ys : List Arrival) → All (λ x. comes_before x a ≡ true) xs → insert_by comes_before a (xs ++ ys) ≡ xs ++ insert_by comes_before a ys
unfolding insert_by
put_late a [] ys all = refl
put_late a (x ∷ xs) ys all =
    cond-true (comes_before x a) _ _ (All-head (λ x. comes_before x a ≡ true) x xs all)
    ∙ ap (λ l. x ∷ l) (put_late a xs ys (All-tail (λ x. comes_before x a ≡ true) x xs all))

-- ---- several arrivals

-- arrivals put one by one, from the last to the first
abbrev put_all : List Arrival → List Arrival → List Arrival
put_all [] bs = bs
put_all (a ∷ as_) bs = insert_by comes_before a (put_all as_ bs)

put_all-in_order : (as_ bs : List Arrival) → in_order (as_ ++ bs) ≡ put_all as_ (in_order bs)
unfolding sort_by
put_all-in_order [] bs = refl
put_all-in_order (a ∷ as_) bs = ap (insert_by comes_before a) (put_all-in_order as_ bs)

put_all-append : (as_ bs cs : List Arrival) → put_all (as_ ++ bs) cs ≡ put_all as_ (put_all bs cs)
put_all-append [] bs cs = refl
put_all-append (a ∷ as_) bs cs = ap (insert_by comes_before a) (put_all-append as_ bs cs)

-- ---- before and from a time on

cmp_less : (x y : ℕ) → x < y → nat_cmp x y ≡ Less
cmp_less x y l = cond-true (nat_lt x y) Less _ (lt-ltb x y l)

cmp_greater : (x y : ℕ) → y < x → nat_cmp x y ≡ Greater
cmp_greater x y l =
    cond-false (nat_lt x y) Less _ (le-ltb x y (omega (arith, l))) ∙ cond-false (x == y) Equal Greater (ne_eqb x y (λ e. omega (arith, l, e)))

module _ (time : ℕ) where
  abbrev pub IsEarly : Arrival → Type 0
  IsEarly a = a.time < time

  abbrev pub IsLate : Arrival → Type 0
  IsLate a = time ≤ a.time

  comes_first : (a b : Arrival) → IsEarly a → IsLate b → comes_before a b ≡ true
  comes_first a b early late =
      ap (λ o. is_lt (ordering_then o (ordering_then (nat_cmp a.port b.port) (nat_cmp a.place b.place)))) (cmp_less a.time b.time (omega (arith, early, late)))

  comes_later : (a b : Arrival) → IsEarly a → IsLate b → comes_before b a ≡ false
  comes_later a b early late =
      ap (λ o. is_lt (ordering_then o (ordering_then (nat_cmp b.port a.port) (nat_cmp b.place a.place)))) (cmp_greater b.time a.time (omega (arith, early, late)))

  early_among : (as_ xs ys : List Arrival) → All IsEarly as_ → All IsLate ys → put_all as_ (xs ++ ys) ≡ put_all as_ xs ++ ys
  early_among [] xs ys early late = refl
  early_among (a ∷ as_) xs ys early late =
      ap (insert_by comes_before a) (early_among as_ xs ys (All-tail IsEarly a as_ early) late)
      ∙ put_early a (put_all as_ xs) ys (All-weaker IsLate (λ y. comes_before y a ≡ false) (λ y l. comes_later a y (All-head IsEarly a as_ early) l) ys late)

  late_among : (as_ xs ys : List Arrival) → All IsLate as_ → All IsEarly xs → put_all as_ (xs ++ ys) ≡ xs ++ put_all as_ ys
  late_among [] xs ys late early = refl
  late_among (a ∷ as_) xs ys late early =
      ap (insert_by comes_before a) (late_among as_ xs ys (All-tail IsLate a as_ late) early)
      ∙ put_late a xs (put_all as_ ys) (All-weaker IsEarly (λ x. comes_before x a ≡ true) (λ x l. comes_first x a l (All-head IsLate a as_ late)) xs early)

-- ---- places that are counted from later on

module _ (from : ℕ → ℕ) where
  -- the arrival whose place is so many places later, by its port
  abbrev pub moved : Arrival → Arrival
  moved a = record a { place = from a.port + a.place }

  cmp_moved : (k x y : ℕ) → nat_cmp (k + x) (k + y) ≡ nat_cmp x y
  cmp_moved k x y = by_cases (cases_order x y)
    where
      by_cases : (x ≡ y) ⊎ ((x < y) ⊎ (y < x)) → nat_cmp (k + x) (k + y) ≡ nat_cmp x y
      by_cases (inl e) = rw e (equal (k + y) ∙ sym (equal y))
        where
          equal : (n : ℕ) → nat_cmp n n ≡ Equal
          equal n = cond-false (nat_lt n n) Less _ (le-ltb n n (omega arith)) ∙ cond-true (n == n) Equal Greater (eq-eqb n n refl)
      by_cases (inr (inl l)) = cmp_less (k + x) (k + y) (omega (arith, l)) ∙ sym (cmp_less x y l)
      by_cases (inr (inr l)) = cmp_greater (k + x) (k + y) (omega (arith, l)) ∙ sym (cmp_greater x y l)

  same_order : (b a : Arrival) → comes_before (moved b) (moved a) ≡ comes_before b a
  same_order b a = ap (λ o. is_lt (ordering_then (nat_cmp b.time a.time) o)) (by_port (cases_order b.port a.port))
    where
      by_port : (b.port ≡ a.port) ⊎ ((b.port < a.port) ⊎ (a.port < b.port))
          → ordering_then (nat_cmp b.port a.port) (nat_cmp (from b.port + b.place) (from a.port + a.place)) ≡ ordering_then (nat_cmp b.port a.port) (nat_cmp b.place a.place)
      by_port (inl e) =
          ap (ordering_then (nat_cmp b.port a.port))
          (ap (λ p. nat_cmp (from p + b.place) (from a.port + a.place)) e ∙ cmp_moved (from a.port) b.place a.place)
      by_port (inr (inl l)) = let less = cmp_less b.port a.port l in rw less refl
      by_port (inr (inr l)) = let greater = cmp_greater b.port a.port l in rw greater refl

  put_moved : (a : Arrival) (bs : List Arrival) → insert_by comes_before (moved a) (map moved bs) ≡ map moved (insert_by comes_before a bs)
  unfolding insert_by
  put_moved a [] = refl
  put_moved a (b ∷ bs) = at (comes_before b a) (same_order b a) (put_moved a bs)
    where
      at : (t : Bool) → comes_before (moved b) (moved a) ≡ t → insert_by comes_before (moved a) (map moved bs) ≡ map moved (insert_by comes_before a bs)
          → insert_by comes_before (moved a) (map moved (b ∷ bs)) ≡ map moved (if t then b ∷ insert_by comes_before a bs else a ∷ b ∷ bs)
      at true e more = cond-true _ _ _ e ∙ ap (λ l. moved b ∷ l) more
      at false e more = cond-false _ _ _ e

  put_all-moved : (as_ bs : List Arrival) → put_all (map moved as_) (map moved bs) ≡ map moved (put_all as_ bs)
  put_all-moved [] bs = refl
  put_all-moved (a ∷ as_) bs = ap (insert_by comes_before (moved a)) (put_all-moved as_ bs) ∙ put_moved a (put_all as_ bs)

  -- the arrivals of one port more, some of them early and the others late, where those of other ports stand so in order
  module _ (time : ℕ) (as_ bs all early late : List Arrival) (of_as : All (IsEarly time) as_) (of_bs : All (IsLate time) bs)
      (of_early : All (IsEarly time) early) (of_late : All (IsLate time) late) where
    all_late : (cs : List Arrival) → All (IsLate time) cs → All (IsLate time) (map moved (in_order cs))
    all_late cs of_cs = All-map (IsLate time) moved (in_order cs) (All-sort_by comes_before (IsLate time) cs of_cs)

    pub one_port_more : in_order all ≡ in_order early ++ map moved (in_order late)
        → in_order ((as_ ++ map moved bs) ++ all) ≡ in_order (as_ ++ early) ++ map moved (in_order (bs ++ late))
    one_port_more so =
        put_all-in_order (as_ ++ map moved bs) all
        ∙ ap (put_all (as_ ++ map moved bs)) so
        ∙ put_all-append as_ (map moved bs) (in_order early ++ map moved (in_order late))
        ∙ ap (put_all as_) (late_among time (map moved bs) (in_order early) (map moved (in_order late)) (All-map (IsLate time) moved bs of_bs) (All-sort_by comes_before (IsEarly time) early of_early))
        ∙ ap (λ l. put_all as_ (in_order early ++ l)) (put_all-moved bs (in_order late) ∙ ap (map moved) (sym (put_all-in_order bs late)))
        ∙ early_among time as_ (in_order early) (map moved (in_order (bs ++ late))) of_as (all_late (bs ++ late) (All-append (IsLate time) bs late of_bs of_late))
        ∙ ap (λ l. l ++ map moved (in_order (bs ++ late))) (sym (put_all-in_order as_ early))
