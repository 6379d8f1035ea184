-- The order of subtables by their priorities, as subtables change, come and go.
use Rattle.std.proofs.Common.{◌≡◌, ℕ, ◌+◌, ◌-◌, ◌<◌, ◌≤◌, List, [], ◌∷◌, ◌++◌, length, set, slice_get, Some, inl, inr, ◌⊎◌, refl, sym, ap, ◌∙◌, subst, arith}
use Rattle.std.specs.List.{insert, remove, swap_remove}
use Rattle.std.proofs.lemmas.Bool.{cases_lt}
use Rattle.std.proofs.lemmas.Option.{same_Some}
use Rattle.tuple_classifier.specs.declared.indexes.Indexes.{Indexes}
use Rattle.tuple_classifier.specs.declared.subtable.Subtable.{Subtable}
use Rattle.tuple_classifier.specs.Order.{has_from, IsNotBelow, IsFalling, IsFallingAlong, IsFallingBut}
use Rattle.tuple_classifier.specs.Placed.{AreWithin, in_order}
use Rattle.tuple_classifier.proofs.PlacedLaws.{place_within, in_order_at}
use Rattle.tuple_classifier.proofs.Places.{at_set, at_end_of, moved, moved_not, moved_less, at_removed, Came, before, itself, behind, came, at_swapped}

not_below_trans : (x y z : Indexes) → IsNotBelow x y → IsNotBelow y z → IsNotBelow x z
not_below_trans x y z h k floor e = h floor (k floor e)

-- the subtables in an order that falls
pub falling_in_order : (ss : List Subtable) (order : List ℕ) → AreWithin (length ss) order → IsFallingAlong ss order → IsFalling (in_order ss order)
falling_in_order ss order within falling i j s t less at_i at_j =
    let a = in_order_at ss order within i s at_i in
    let b = in_order_at ss order within j t at_j in
    falling i j a.0 b.0 s t less a.1 b.1 a.2 b.2

-- what stands at a place of an order stood at the same place of another
falling_from : (ss ts : List Subtable) (old new : List ℕ) → ((i p : ℕ) (s : Subtable) → slice_get new i ≡ Some p → slice_get ts p ≡ Some s → (q : ℕ) × (slice_get old i ≡ Some q) × (slice_get ss q ≡ Some s))
    → IsFallingAlong ss old → IsFallingAlong ts new
falling_from ss ts old new stood falling i j p q s t less at_i at_j at_p at_q =
    let a = stood i p s at_i at_p in
    let b = stood j q t at_j at_q in
    falling i j a.0 b.0 s t less a.1 b.1 a.2 b.2

-- ---- one subtable in the place of another, and one more

pub falling_set : (ss : List Subtable) (order : List ℕ) (p : ℕ) (s t : Subtable) → slice_get ss p ≡ Some s → IsFallingAlong ss order → IsFallingBut p (set ss p t) order
falling_set ss order p s t is falling i j m n u v less not_m not_n at_i at_j at_m at_n =
    falling i j m n u v less at_i at_j (kept m u not_m (at_set ss p m s t u is at_m)) (kept n v not_n (at_set ss p n s t v is at_n))
  where
    kept : (k : ℕ) (w : Subtable) → (k ≡ p → ⊥) → ((k ≡ p) × (t ≡ w)) ⊎ ((k ≡ p → ⊥) × (slice_get ss k ≡ Some w)) → slice_get ss k ≡ Some w
    kept k w not_k (inl h) = absurd (not_k h.0)
    kept k w not_k (inr h) = h.1

-- one that has just the priorities of the one before
pub falling_same : (ss : List Subtable) (order : List ℕ) (p : ℕ) (s t : Subtable) → slice_get ss p ≡ Some s → ((floor : ℕ) → has_from floor t.indexes ≡ has_from floor s.indexes) → IsFallingAlong ss order
    → IsFallingAlong (set ss p t) order
falling_same ss order p s t is same falling i j m n u v less at_i at_j at_m at_n floor h =
    let a = was m u (at_set ss p m s t u is at_m) in
    let b = was n v (at_set ss p n s t v is at_n) in
    a.2 floor ∙ falling i j m n a.0 b.0 less at_i at_j a.1 b.1 floor (sym (b.2 floor) ∙ h)
  where
    was : (k : ℕ) (w : Subtable) → ((k ≡ p) × (t ≡ w)) ⊎ ((k ≡ p → ⊥) × (slice_get ss k ≡ Some w)) → (x : Subtable) × (slice_get ss k ≡ Some x) × ((floor : ℕ) → has_from floor w.indexes ≡ has_from floor x.indexes)
    was k w (inl h) = (s, ap (slice_get ss) h.0 ∙ is, λ floor. ap (λ (x : Subtable). has_from floor x.indexes) (sym h.1) ∙ same floor)
    was k w (inr h) = (w, h.1, λ floor. refl)

pub falling_end : (ss : List Subtable) (order : List ℕ) (t : Subtable) → AreWithin (length ss) order → IsFallingAlong ss order → IsFallingAlong (ss ++ t ∷ []) order
falling_end ss order t within falling = falling_from ss (ss ++ t ∷ []) order order stood falling
  where
    stood : (i p : ℕ) (s : Subtable) → slice_get order i ≡ Some p → slice_get (ss ++ t ∷ []) p ≡ Some s → (q : ℕ) × (slice_get order i ≡ Some q) × (slice_get ss q ≡ Some s)
    stood i p s at_i at_p = (p, at_i, by (at_end_of ss t p s at_p))
      where
        by : (slice_get ss p ≡ Some s) ⊎ ((p ≡ length ss) × (t ≡ s)) → slice_get ss p ≡ Some s
        by (inl h) = h
        by (inr h) = absurd (let l = place_within (length ss) order within i p at_i in let e = h.0 in omega (arith, l, e))

-- ---- a place that leaves an order, and one that enters it

pub falling_removed : (ss : List Subtable) (order : List ℕ) (k p : ℕ) → slice_get order k ≡ Some p → ((i : ℕ) → slice_get order i ≡ Some p → i ≡ k) → IsFallingBut p ss order → IsFallingAlong ss (remove order k)
falling_removed ss order k p at once falling i j m n s t less at_i at_j =
    falling (moved k i) (moved k j) m n s t (moved_less k i j less) (other i m at_i) (other j n at_j) (at_removed order k i m at_i) (at_removed order k j n at_j)
  where
    other : (l q : ℕ) → slice_get (remove order k) l ≡ Some q → q ≡ p → ⊥
    other l q at_l e = moved_not k l (once (moved k l) (at_removed order k l q at_l ∙ ap Some e))

pub falling_inserted : (ss : List Subtable) (order : List ℕ) (k x : ℕ) → k ≤ length order → IsFallingAlong ss order
    → ((i p : ℕ) (s t : Subtable) → i < k → slice_get order i ≡ Some p → slice_get ss p ≡ Some s → slice_get ss x ≡ Some t → IsNotBelow s.indexes t.indexes)
    → ((i p : ℕ) (s t : Subtable) → k ≤ i → slice_get order i ≡ Some p → slice_get ss p ≡ Some s → slice_get ss x ≡ Some t → IsNotBelow t.indexes s.indexes)
    → IsFallingAlong ss (insert order k x)
falling_inserted ss order k x within falling above below i j p q s t less at_i at_j at_p at_q = by (came order k x i p within at_i) (came order k x j q within at_j)
  where
    by : Came order k x i p → Came order k x j q → IsNotBelow s.indexes t.indexes
    by (before a is) (before b are) = falling i j p q s t less is are at_p at_q
    by (before a is) (itself b are) = above i p s t a is at_p (ap (slice_get ss) are ∙ at_q)
    by (before a is) (behind n b e are) = falling i n p q s t (omega (arith, a, b)) is are at_p at_q
    by (itself a is) (before b are) = absurd (omega (arith, a, b, less))
    by (itself a is) (itself b are) = absurd (omega (arith, a, b, less))
    by (itself a is) (behind n b e are) = below n q t s b are at_q (ap (slice_get ss) is ∙ at_p)
    by (behind m a e is) (before b are) = absurd (omega (arith, a, e, b, less))
    by (behind m a e is) (itself b are) = absurd (omega (arith, a, e, b, less))
    by (behind m a e is) (behind n b f are) = falling m n p q s t (omega (arith, e, f, less)) is are at_p at_q

-- ---- where a subtable belongs

module _ (ss : List Subtable) (order : List ℕ) (t : Subtable) (k p : ℕ) (s : Subtable) (at_k : slice_get order k ≡ Some p) (at_p : slice_get ss p ≡ Some s) (falling : IsFallingAlong ss order) where
  itself_there : (i q : ℕ) (u : Subtable) → i ≡ k → slice_get order i ≡ Some q → slice_get ss q ≡ Some u → s ≡ u
  itself_there i q u e at_i at_q =
      let same : q ≡ p = same_Some q p (sym at_i ∙ ap (slice_get order) e ∙ at_k) in
      same_Some s u (sym at_p ∙ ap (slice_get ss) (sym same) ∙ at_q)

  -- what it isn't above, nor is it above those before
  pub all_before : IsNotBelow s.indexes t.indexes → (i q : ℕ) (u : Subtable) → i < k + 1 → slice_get order i ≡ Some q → slice_get ss q ≡ Some u → IsNotBelow u.indexes t.indexes
  all_before not_below i q u less at_i at_q = by (cases_lt i k)
    where
      by : (i < k) ⊎ (k ≤ i) → IsNotBelow u.indexes t.indexes
      by (inl lt) = not_below_trans u.indexes s.indexes t.indexes (falling i k q p u s lt at_i at_k at_q at_p) not_below
      by (inr ge) = subst (λ (x : Subtable). IsNotBelow x.indexes t.indexes) (itself_there i q u (omega (arith, less, ge)) at_i at_q) not_below

  -- and what it is above, so it is above those behind
  pub all_behind : IsNotBelow t.indexes s.indexes → (i q : ℕ) (u : Subtable) → k ≤ i → slice_get order i ≡ Some q → slice_get ss q ≡ Some u → IsNotBelow t.indexes u.indexes
  all_behind above i q u le at_i at_q = by (cases_lt k i)
    where
      by : (k < i) ⊎ (i ≤ k) → IsNotBelow t.indexes u.indexes
      by (inl lt) = not_below_trans t.indexes s.indexes u.indexes above (falling k i p q s u lt at_k at_i at_p at_q)
      by (inr ge) = subst (λ (x : Subtable). IsNotBelow t.indexes x.indexes) (itself_there i q u (omega (arith, le, ge)) at_i at_q) above

-- ---- a subtable whose place the last one takes

module _ (ss : List Subtable) (order : List ℕ) (p : ℕ) (d : Subtable) (within : p < length ss) (gone : (i : ℕ) → slice_get order i ≡ Some p → ⊥) (falling : IsFallingAlong ss order) where
  -- where it is the last itself
  pub falling_popped : p ≡ length ss - 1 → IsFallingAlong (swap_remove ss p d) order
  falling_popped is = falling_from ss (swap_remove ss p d) order order stood falling
    where
      stood : (i q : ℕ) (s : Subtable) → slice_get order i ≡ Some q → slice_get (swap_remove ss p d) q ≡ Some s → (r : ℕ) × (slice_get order i ≡ Some r) × (slice_get ss r ≡ Some s)
      stood i q s at_i at_q = (q, at_i, by (at_swapped ss p d within q s at_q).1)
        where
          by : ((q ≡ p) × (slice_get ss (length ss - 1) ≡ Some s)) ⊎ ((q ≡ p → ⊥) × (slice_get ss q ≡ Some s)) → slice_get ss q ≡ Some s
          by (inl h) = absurd (gone i (at_i ∙ ap Some h.0))
          by (inr h) = h.1

  -- and else its place now stands where that of the last did
  pub falling_swapped : (k : ℕ) → slice_get order k ≡ Some (length ss - 1) → IsFallingAlong (swap_remove ss p d) (set order k p)
  falling_swapped k at_k = falling_from ss (swap_remove ss p d) order (set order k p) stood falling
    where
      stood : (i q : ℕ) (s : Subtable) → slice_get (set order k p) i ≡ Some q → slice_get (swap_remove ss p d) q ≡ Some s → (r : ℕ) × (slice_get order i ≡ Some r) × (slice_get ss r ≡ Some s)
      stood i q s at_i at_q = by (at_set order k i (length ss - 1) p q at_k at_i) (at_swapped ss p d within q s at_q).1
        where
          by : ((i ≡ k) × (p ≡ q)) ⊎ ((i ≡ k → ⊥) × (slice_get order i ≡ Some q)) → ((q ≡ p) × (slice_get ss (length ss - 1) ≡ Some s)) ⊎ ((q ≡ p → ⊥) × (slice_get ss q ≡ Some s))
              → (r : ℕ) × (slice_get order i ≡ Some r) × (slice_get ss r ≡ Some s)
          by (inl h) (inl g) = (length ss - 1, ap (slice_get order) h.0 ∙ at_k, g.1)
          by (inl h) (inr g) = absurd (g.0 (sym h.1))
          by (inr h) (inl g) = absurd (gone i (h.1 ∙ ap Some g.0))
          by (inr h) (inr g) = (q, h.1, g.1)
