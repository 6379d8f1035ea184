-- The places that an order has, as places come, go and change, and the subtables in that order.
use Rattle.std.proofs.Common.{◌≡◌, ℕ, zero, suc, ◌+◌, ◌<◌, ◌≤◌, Bool, true, false, nat_lt, ◌==◌, if◌then◌else◌, List, [], ◌∷◌, length, set, slice_get, Option, Some, refl, sym, ap, ◌∙◌, arith, eq-eqb}
use Rattle.std.specs.List.{insert, remove, cons_option}
use Rattle.std.proofs.lemmas.Bool.{cond-true, cond-false, lt-ltb, ltb-true}
use Rattle.std.proofs.lemmas.Bool.Decides.{nat_tests}
use Rattle.std.proofs.lemmas.List.Sums.{sum_by-remove, sum_by-insert, sum_by-set}
use Rattle.std.proofs.lemmas.Option.{slice_get_within, get_or_from_slice_get, same_Some}
use Rattle.staged_lookup.proofs.Members.{count-cons}
use Rattle.tuple_classifier.specs.declared.subtable.Subtable.{Subtable}
use Rattle.tuple_classifier.specs.Numbers.{times}
use Rattle.tuple_classifier.specs.Placed.{IsOrderOf, AreWithin, in_order}
use Rattle.tuple_classifier.proofs.Lengths.{not_equal}
use Rattle.tuple_classifier.proofs.PartLaws.{among_from_place, place_among}
use Rattle.tuple_classifier.proofs.Times.{stands, stood}

-- ---- how often a number stands in a list

abbrev pub one_if : ℕ → ℕ → ℕ
one_if x p = if x == p then 1 else 0

times_removed : (p : ℕ) (xs : List ℕ) (k x : ℕ) → slice_get xs k ≡ Some x → times p (remove xs k) + one_if x p ≡ times p xs
times_removed p xs k x at =
    ap (λ (y : ℕ). times p (remove xs k) + one_if y p) (sym (get_or_from_slice_get xs k x x at)) ∙ sum_by-remove (λ (y : ℕ). one_if y p) xs k x (slice_get_within xs k x at)

pub times_inserted : (p : ℕ) (xs : List ℕ) (k x : ℕ) → times p (insert xs k x) ≡ times p xs + one_if x p
times_inserted p xs k x = sum_by-insert (λ (y : ℕ). one_if y p) xs k x

times_set : (p : ℕ) (xs : List ℕ) (k x y : ℕ) → slice_get xs k ≡ Some x → times p (set xs k y) + one_if x p ≡ times p xs + one_if y p
times_set p xs k x y at =
    ap (λ (z : ℕ). times p (set xs k y) + one_if z p) (sym (get_or_from_slice_get xs k x x at)) ∙ sum_by-set (λ (z : ℕ). one_if z p) xs k y x (slice_get_within xs k x at)

one_is : (x p : ℕ) → x ≡ p → one_if x p ≡ 1
one_is x p e = cond-true (x == p) 1 0 (eq-eqb x p e)

at_least : (p : ℕ) (xs : List ℕ) (i : ℕ) → slice_get xs i ≡ Some p → 0 < times p xs
at_least p xs i at = stands p xs (among_from_place xs i p at)

-- what stands in a list once at most stands at one place
once : (p : ℕ) (xs : List ℕ) (i j : ℕ) → times p xs ≤ 1 → slice_get xs i ≡ Some p → slice_get xs j ≡ Some p → i ≡ j
once p [] i j few at_i at_j = absurd (cc)
once p (x ∷ xs) zero zero few at_i at_j = refl
once p (x ∷ xs) zero (suc j) few at_i at_j =
    absurd (let one = one_is x p (same_Some x p at_i) in let more = at_least p xs j at_j in let all = count-cons (λ y. y == p) x xs in omega (arith, one, more, all, few))
once p (x ∷ xs) (suc i) zero few at_i at_j =
    absurd (let one = one_is x p (same_Some x p at_j) in let more = at_least p xs i at_i in let all = count-cons (λ y. y == p) x xs in omega (arith, one, more, all, few))
once p (x ∷ xs) (suc i) (suc j) few at_i at_j = ap suc (once p xs i j (let all = count-cons (λ y. y == p) x xs in omega (arith, all, few)) at_i at_j)

-- ---- each place once

module _ (n : ℕ) (order : List ℕ) (is : IsOrderOf n order) where
  few_times : (p : ℕ) → times p order ≤ 1
  few_times p = by (nat_lt p n) (is p)
    where
      by : (t : Bool) → times p order ≡ (if t then 1 else 0) → times p order ≤ 1
      by true e = omega (arith, e)
      by false e = omega (arith, e)

  pub order_within : AreWithin n order
  order_within p some = by (nat_lt p n) refl (is p)
    where
      by : (t : Bool) → nat_lt p n ≡ t → times p order ≡ (if t then 1 else 0) → p < n
      by true e all = ltb-true p n e
      by false e all = absurd (omega (arith, all, some))

  pub stands_in : (p : ℕ) → p < n → 0 < times p order
  stands_in p less = let all = is p ∙ cond-true (nat_lt p n) 1 0 (lt-ltb p n less) in omega (arith, all)

  pub place_in : (p : ℕ) → p < n → (i : ℕ) × (slice_get order i ≡ Some p)
  place_in p less = place_among p order (stood p order (stands_in p less))

  pub once_in : (i j p : ℕ) → slice_get order i ≡ Some p → slice_get order j ≡ Some p → i ≡ j
  once_in i j p at_i at_j = once p order i j (few_times p) at_i at_j

pub place_within : (n : ℕ) (order : List ℕ) → AreWithin n order → (i p : ℕ) → slice_get order i ≡ Some p → p < n
place_within n order within i p at = within p (at_least p order i at)

next_test : (n p : ℕ) → (if nat_lt p n then 1 else 0) + one_if n p ≡ (if nat_lt p (n + 1) then 1 else 0)
next_test n p = grind (arith, nat_tests)

-- with one more place, and with one less
pub order_more : (n : ℕ) (old new : List ℕ) → IsOrderOf n old → ((p : ℕ) → times p new ≡ times p old + one_if n p) → IsOrderOf (n + 1) new
order_more n old new is more p = more p ∙ ap (λ (k : ℕ). k + one_if n p) (is p) ∙ next_test n p

order_less : (n : ℕ) (old new : List ℕ) → IsOrderOf (n + 1) old → ((p : ℕ) → times p new + one_if n p ≡ times p old) → IsOrderOf n new
order_less n old new is less p = let a = less p ∙ is p in let b = next_test n p in omega (arith, a, b)

-- ---- one place taken out

module _ (n : ℕ) (order : List ℕ) (is : IsOrderOf n order) (k p : ℕ) (at : slice_get order k ≡ Some p) where
  pub left_within : AreWithin n (remove order k)
  left_within q some = order_within n order is q (let all = times_removed q order k p at in omega (arith, all, some))

  -- the others still stand there
  pub left_stands : (q : ℕ) → q < n → (p ≡ q → ⊥) → 0 < times q (remove order k)
  left_stands q less other =
      let old = stands_in n order is q less in
      let all = times_removed q order k p at in
      let none : one_if p q ≡ 0 = cond-false (p == q) 1 0 (not_equal p q other) in
      omega (arith, old, all, none)

  -- and it doesn't
  pub left_gone : (i : ℕ) → slice_get (remove order k) i ≡ Some p → ⊥
  left_gone i at_i =
      let some = at_least p (remove order k) i at_i in
      let all = times_removed p order k p at in
      let one = one_is p p refl in
      let few = few_times n order is p in
      omega (arith, some, all, one, few)

-- the last place taken out, and another that it takes
pub order_popped : (n : ℕ) (order : List ℕ) → IsOrderOf (n + 1) order → (k p : ℕ) → slice_get order k ≡ Some p → p ≡ n → IsOrderOf n (remove order k)
order_popped n order is k p at e = order_less n order (remove order k) is (λ q. ap (λ (m : ℕ). times q (remove order k) + one_if m q) (sym e) ∙ times_removed q order k p at)

pub order_swapped : (n : ℕ) (order : List ℕ) → IsOrderOf (n + 1) order → (k p : ℕ) → slice_get order k ≡ Some p → (j : ℕ) → slice_get (remove order k) j ≡ Some n → IsOrderOf n (set (remove order k) j p)
order_swapped n order is k p at j at_j = order_less n order (set (remove order k) j p) is (λ q. times_set q (remove order k) j n p at_j ∙ times_removed q order k p at)

-- ---- the subtables in an order

in_order-cons : (ss : List Subtable) (p : ℕ) (order : List ℕ) (s : Subtable) → slice_get ss p ≡ Some s → in_order ss (p ∷ order) ≡ s ∷ in_order ss order
in_order-cons ss p order s at = ap (λ (o : Option Subtable). cons_option o (in_order ss order)) at

pub there : {X : Type 0} (xs : List X) (p : ℕ) → p < length xs → (x : X) × (slice_get xs p ≡ Some x)
there [] p less = absurd (omega (arith, less))
there (x ∷ xs) zero less = (x, refl)
there (x ∷ xs) (suc p) less = there xs p (omega (arith, less))

module _ (ss : List Subtable) where
  tail_within : (p : ℕ) (order : List ℕ) → AreWithin (length ss) (p ∷ order) → AreWithin (length ss) order
  tail_within p order within q some = within q (let all = count-cons (λ y. y == q) p order in omega (arith, all, some))

  first_there : (p : ℕ) (order : List ℕ) → AreWithin (length ss) (p ∷ order) → (s : Subtable) × (slice_get ss p ≡ Some s)
  first_there p order within = there ss p (place_within (length ss) (p ∷ order) within 0 p refl)

  pub in_order-length : (order : List ℕ) → AreWithin (length ss) order → length (in_order ss order) ≡ length order
  in_order-length [] within = refl
  in_order-length (p ∷ order) within =
      let s = first_there p order within in
      ap length (in_order-cons ss p order s.0 s.1) ∙ ap suc (in_order-length order (tail_within p order within))

  pub at_in_order : (order : List ℕ) → AreWithin (length ss) order → (i p : ℕ) (s : Subtable) → slice_get order i ≡ Some p → slice_get ss p ≡ Some s → slice_get (in_order ss order) i ≡ Some s
  at_in_order [] within i p s at_i at_p = absurd (cc)
  at_in_order (q ∷ order) within zero p s at_i at_p = ap (λ (xs : List Subtable). slice_get xs 0) (in_order-cons ss q order s (ap (slice_get ss) (same_Some q p at_i) ∙ at_p))
  at_in_order (q ∷ order) within (suc i) p s at_i at_p =
      let t = first_there q order within in
      ap (λ (xs : List Subtable). slice_get xs (suc i)) (in_order-cons ss q order t.0 t.1) ∙ at_in_order order (tail_within q order within) i p s at_i at_p

  pub in_order_at : (order : List ℕ) → AreWithin (length ss) order → (i : ℕ) (s : Subtable) → slice_get (in_order ss order) i ≡ Some s → (p : ℕ) × (slice_get order i ≡ Some p) × (slice_get ss p ≡ Some s)
  in_order_at [] within i s at = absurd (cc)
  in_order_at (q ∷ order) within zero s at =
      let t = first_there q order within in
      (q, refl, t.1 ∙ ap (λ (xs : List Subtable). slice_get xs 0) (sym (in_order-cons ss q order t.0 t.1)) ∙ at)
  in_order_at (q ∷ order) within (suc i) s at =
      let t = first_there q order within in
      in_order_at order (tail_within q order within) i s (ap (λ (xs : List Subtable). slice_get xs (suc i)) (sym (in_order-cons ss q order t.0 t.1)) ∙ at)
