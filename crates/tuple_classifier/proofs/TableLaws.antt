-- The subtables of a table, as rules come and go.
use Rattle.std.proofs.Common.{◌≡◌, ℕ, ◌-◌, ◌<◌, ◌≤◌, nat_le, Bool, true, false, ◌==◌, not, if◌then◌else◌, List, [], ◌∷◌, ◌++◌, append-nil, length, set, filter, slice_get, Some, inl, inr, ◌⊎◌, refl, sym, ap, ap₂, ◌∙◌, subst, arith, eqb-true}
use Rattle.std.specs.List.{swap_remove, count_by}
use Rattle.std.proofs.lemmas.Bool.{cases_eq, cond-true, cond-false, false≢true}
use Rattle.std.proofs.lemmas.List.Elements.{filter-append}
use Rattle.std.proofs.lemmas.Option.{slice_get_within, same_Some}
use Rattle.spec_keys.specs.Keys.{same}
use Rattle.spec_tables.specs.Rules.{Rule}
use Rattle.table_laws.proofs.MemberLaws.{Among, Among-append, Among-filter, Among_in-filter}
use Rattle.ovs_fields.specs.Equality.{equal_from_same, same_from_equal}
use Rattle.rule_tables.specs.declared.matching.Match.{Match}
use Rattle.rule_tables.specs.Views.{match_view}
use Rattle.ovs_fields.specs.Packed.{bits}
use Rattle.tuple_classifier.specs.declared.subtable.Subtable.{Subtable}
use Rattle.staged_lookup.specs.Numbered.{AreDistinct, without}
use Rattle.tuple_classifier.specs.Numbers.{numbers_in}
use Rattle.tuple_classifier.specs.Order.{IsFallingAlong}
use Rattle.tuple_classifier.specs.Parts.{AreApart, AreSubtablesOf, HasMask, of_mask}
use Rattle.tuple_classifier.specs.Placed.{IsOrderOf, AreWithin, in_order}
use Rattle.tuple_classifier.specs.Subtables.{IsSubtableOf}
use Rattle.staged_lookup.proofs.Members.{count-cons}
use Rattle.tuple_classifier.proofs.OrderLaws.{falling_same}
use Rattle.tuple_classifier.proofs.PlacedLaws.{order_within, once_in, place_in, at_in_order, in_order_at}
use Rattle.tuple_classifier.proofs.Places.{turned, at_set, set_at, set_elsewhere, at_end_of, end_at, before_end, at_swapped, swapped_at}
use Rattle.staged_lookup.proofs.Removed.{all_stay}
use Rattle.tuple_classifier.proofs.PriorityLaws.{any_priority}
use Rattle.tuple_classifier.proofs.WinnerLaws.{one_of_number}

-- ---- lists

pub untrue : (t : Bool) → (t ≡ true → ⊥) → t ≡ false
untrue true h = absurd (h refl)
untrue false h = refl

filter_none : {X : Type 0} (q : X → Bool) (xs : List X) → ((x : X) → Among x xs → q x ≡ false) → filter q xs ≡ []
filter_none q [] none = refl
filter_none q (x ∷ xs) none = cond-false (q x) (x ∷ filter q xs) (filter q xs) (none x (inl refl)) ∙ filter_none q xs (λ y m. none y (inr m))

pub filter_swapped : {X : Type 0} (p q : X → Bool) (xs : List X) → filter p (filter q xs) ≡ filter q (filter p xs)
filter_swapped p q [] = refl
filter_swapped {X} p q (x ∷ xs) = at (p x) (q x) refl refl (filter_swapped p q xs)
  where
    at : (t u : Bool) → p x ≡ t → q x ≡ u → filter p (filter q xs) ≡ filter q (filter p xs)
        → filter p (if u then x ∷ filter q xs else filter q xs) ≡ filter q (if t then x ∷ filter p xs else filter p xs)
    at true true e f ih = cond-true (p x) (x ∷ filter p (filter q xs)) (filter p (filter q xs)) e ∙ ap (λ (ys : List X). x ∷ ys) ih ∙ sym (cond-true (q x) (x ∷ filter q (filter p xs)) (filter q (filter p xs)) f)
    at true false e f ih = ih ∙ sym (cond-false (q x) (x ∷ filter q (filter p xs)) (filter q (filter p xs)) f)
    at false true e f ih = cond-false (p x) (x ∷ filter p (filter q xs)) (filter p (filter q xs)) e ∙ ih
    at false false e f ih = ih

pub count-filter : {X : Type 0} (p q : X → Bool) (xs : List X) → count_by p (filter q xs) ≤ count_by p xs
count-filter p q [] = omega arith
count-filter {X} p q (x ∷ xs) = at (q x) (count-filter p q xs)
  where
    at : (t : Bool) → count_by p (filter q xs) ≤ count_by p xs → count_by p (if t then x ∷ filter q xs else filter q xs) ≤ count_by p (x ∷ xs)
    at true ih =
        let a = count-cons p x (filter q xs) in
        let b = count-cons p x xs in
        omega (arith, a, b, ih)
    at false ih =
        let b = count-cons p x xs in
        omega (arith, b, ih)

pub distinct_filter : (q : Rule → Bool) (rs : List Rule) → AreDistinct rs → AreDistinct (filter q rs)
distinct_filter q rs distinct n =
    let a = distinct n in
    let b = count-filter (λ (r : Rule). r.number == n) q rs in
    omega (arith, a, b)

-- ---- the rules of a mask, with one more and one less

pub part_more : (mask : List ℕ) (rs : List Rule) (r : Rule) → same r.matching.mask mask ≡ true → of_mask mask (rs ++ r ∷ []) ≡ of_mask mask rs ++ r ∷ []
part_more mask rs r is =
    filter-append (λ (x : Rule). same x.matching.mask mask) rs (r ∷ []) ∙ ap (λ (ys : List Rule). of_mask mask rs ++ ys) (cond-true (same r.matching.mask mask) (r ∷ []) [] is)

pub part_same : (mask : List ℕ) (rs : List Rule) (r : Rule) → same r.matching.mask mask ≡ false → of_mask mask (rs ++ r ∷ []) ≡ of_mask mask rs
part_same mask rs r is =
    filter-append (λ (x : Rule). same x.matching.mask mask) rs (r ∷ []) ∙ ap (λ (ys : List Rule). of_mask mask rs ++ ys) (cond-false (same r.matching.mask mask) (r ∷ []) [] is)
    ∙ append-nil (of_mask mask rs)

pub part_less : (mask : List ℕ) (number : ℕ) (rs : List Rule) → of_mask mask (without number rs) ≡ without number (of_mask mask rs)
part_less mask number rs = filter_swapped (λ (x : Rule). same x.matching.mask mask) (λ (x : Rule). not (x.number == number)) rs

pub part_stays : (mask : List ℕ) (rs : List Rule) (r : Rule) → AreDistinct rs → Among r rs → same r.matching.mask mask ≡ false → of_mask mask (without r.number rs) ≡ of_mask mask rs
part_stays mask rs r distinct m other =
    part_less mask r.number rs
    ∙ all_stay r.number (of_mask mask rs) (λ s a.
    let b = Among-filter (λ (x : Rule). same x.matching.mask mask) s rs a in
    untrue (s.number == r.number) (λ (e : (s.number == r.number) ≡ true).
    let is : s ≡ r = one_of_number rs distinct s r b.0 m (eqb-true s.number r.number e) in
    false≢true (sym other ∙ ap (λ (x : Rule). same x.matching.mask mask) (sym is) ∙ b.1)))

-- ---- a subtable in the place of another

mask_stood : (ss : List Subtable) (i : ℕ) (s t : Subtable) → slice_get ss i ≡ Some s → bits t.staged.mask ≡ bits s.staged.mask → (j : ℕ) (u : Subtable) → slice_get (set ss i t) j ≡ Some u
    → (v : Subtable) × (slice_get ss j ≡ Some v) × (bits u.staged.mask ≡ bits v.staged.mask)
mask_stood ss i s t is e j u at = by (at_set ss i j s t u is at)
  where
    by : ((j ≡ i) × (t ≡ u)) ⊎ ((j ≡ i → ⊥) × (slice_get ss j ≡ Some u)) → (v : Subtable) × (slice_get ss j ≡ Some v) × (bits u.staged.mask ≡ bits v.staged.mask)
    by (inl h) = (s, ap (slice_get ss) h.0 ∙ is, ap (λ (x : Subtable). bits x.staged.mask) (sym h.1) ∙ e)
    by (inr h) = (u, h.1, refl)

pub put_in_place : (ss : List Subtable) (rs rs' : List Rule) (i : ℕ) (s t : Subtable) → AreSubtablesOf ss rs → slice_get ss i ≡ Some s → bits t.staged.mask ≡ bits s.staged.mask
    → IsSubtableOf t (of_mask (bits s.staged.mask) rs') → ((m : List ℕ) → same m (bits s.staged.mask) ≡ false → of_mask m rs' ≡ of_mask m rs) → ((r : Rule) → Among r rs' → HasMask ss r.matching.mask)
    → AreSubtablesOf (set ss i t) rs'
put_in_place ss rs rs' i s t are is e own others covered = record { apart = apart; each = each; covered = λ r m. covers r.matching.mask (covered r m) }
  where
    apart : AreApart (set ss i t)
    apart j k u v ju kv alike =
        let a = mask_stood ss i s t is e j u ju in
        let b = mask_stood ss i s t is e k v kv in
        are.apart j k a.0 b.0 a.1 b.1 (sym (ap₂ same a.2 b.2) ∙ alike)

    each : (j : ℕ) (u : Subtable) → slice_get (set ss i t) j ≡ Some u → IsSubtableOf u (of_mask (bits u.staged.mask) rs')
    each j u at = by (at_set ss i j s t u is at)
      where
        by : ((j ≡ i) × (t ≡ u)) ⊎ ((j ≡ i → ⊥) × (slice_get ss j ≡ Some u)) → IsSubtableOf u (of_mask (bits u.staged.mask) rs')
        by (inl h) = subst (λ (x : Subtable). IsSubtableOf x (of_mask (bits x.staged.mask) rs')) h.1 (subst (λ (m : List ℕ). IsSubtableOf t (of_mask m rs')) (sym e) own)
        by (inr h) =
            let other : same (bits u.staged.mask) (bits s.staged.mask) ≡ false = untrue (same (bits u.staged.mask) (bits s.staged.mask)) (λ (q : same (bits u.staged.mask) (bits s.staged.mask) ≡ true). h.0 (are.apart j i u s h.1 is q)) in
            subst (IsSubtableOf u) (sym (others (bits u.staged.mask) other)) (are.each j u h.1)

    covers : (m : List ℕ) → HasMask ss m → HasMask (set ss i t) m
    covers m h = by (cases_eq h.0 i)
      where
        by : (h.0 ≡ i) ⊎ (h.0 ≡ i → ⊥) → HasMask (set ss i t) m
        by (inl q) =
            let is_s : h.1 ≡ s = same_Some h.1 s (sym h.2 ∙ ap (slice_get ss) q ∙ is) in
            (i, t, set_at ss i s t is, ap (same m) (e ∙ ap (λ (x : Subtable). bits x.staged.mask) (sym is_s)) ∙ h.3)
        by (inr q) = (h.0, h.1, set_elsewhere ss i h.0 t h.1 q h.2, h.3)

pub insert_in_place : (ss : List Subtable) (rs : List Rule) (i : ℕ) (s t : Subtable) (r : Rule) → AreSubtablesOf ss rs → slice_get ss i ≡ Some s → bits t.staged.mask ≡ bits s.staged.mask
    → same (bits s.staged.mask) r.matching.mask ≡ true → IsSubtableOf t (of_mask (bits s.staged.mask) rs ++ r ∷ []) → AreSubtablesOf (set ss i t) (rs ++ r ∷ [])
insert_in_place ss rs i s t r are is e here own =
    put_in_place ss rs (rs ++ r ∷ []) i s t are is e
    (subst (IsSubtableOf t) (sym (part_more (bits s.staged.mask) rs r mine)) own)
    (λ m other. part_same m rs r (turned m r.matching.mask false (ap (same m) (equal_from_same r.matching.mask (bits s.staged.mask) mine) ∙ other)))
    (λ x m. covered x (Among-append x rs (r ∷ []) m))
  where
    mine : same r.matching.mask (bits s.staged.mask) ≡ true
    mine = turned (bits s.staged.mask) r.matching.mask true here

    covered : (x : Rule) → Among x rs ⊎ Among x (r ∷ []) → HasMask ss x.matching.mask
    covered x (inl m) = are.covered x m
    covered x (inr (inl q)) = (i, s, is, ap (λ (y : Rule). same y.matching.mask (bits s.staged.mask)) q ∙ mine)
    covered x (inr (inr h)) = absurd h

pub same_in_place : (ss : List Subtable) (rs : List Rule) (i : ℕ) (s t : Subtable) → AreSubtablesOf ss rs → slice_get ss i ≡ Some s → bits t.staged.mask ≡ bits s.staged.mask
    → IsSubtableOf t (of_mask (bits s.staged.mask) rs) → AreSubtablesOf (set ss i t) rs
same_in_place ss rs i s t are is e own = put_in_place ss rs rs i s t are is e own (λ m other. refl) are.covered

-- one that has the same rules stands in the same order
pub falls_in_place : (ss : List Subtable) (order : List ℕ) (rs : List Rule) (i : ℕ) (s t : Subtable) → AreSubtablesOf ss rs → slice_get ss i ≡ Some s → IsSubtableOf t (of_mask (bits s.staged.mask) rs)
    → IsFallingAlong ss order → IsFallingAlong (set ss i t) order
falls_in_place ss order rs i s t are is own = falling_same ss order i s t is (λ floor.
    any_priority (of_mask (bits s.staged.mask) rs) (numbers_in t.indexes.priorities.items.items) own.indexed.prioritised (λ n. nat_le floor n)
    ∙ sym (any_priority (of_mask (bits s.staged.mask) rs) (numbers_in s.indexes.priorities.items.items) (are.each i s is).indexed.prioritised (λ n. nat_le floor n)))

pub take_in_place : (ss : List Subtable) (rs : List Rule) (i : ℕ) (s t : Subtable) (r : Rule) → AreSubtablesOf ss rs → AreDistinct rs → Among r rs → slice_get ss i ≡ Some s → bits t.staged.mask ≡ bits s.staged.mask
    → same (bits s.staged.mask) r.matching.mask ≡ true → IsSubtableOf t (without r.number (of_mask (bits s.staged.mask) rs)) → AreSubtablesOf (set ss i t) (without r.number rs)
take_in_place ss rs i s t r are distinct m is e here own =
    put_in_place ss rs (without r.number rs) i s t are is e
    (subst (IsSubtableOf t) (sym (part_less (bits s.staged.mask) r.number rs)) own)
    (λ k other. part_stays k rs r distinct m (turned k r.matching.mask false (ap (same k) (sym (equal_from_same (bits s.staged.mask) r.matching.mask here)) ∙ other)))
    (λ x a. are.covered x (Among-filter (λ (y : Rule). not (y.number == r.number)) x rs a).0)

-- ---- a new mask

pub insert_at_end : (ss : List Subtable) (rs : List Rule) (t : Subtable) (r : Rule) → AreSubtablesOf ss rs → bits t.staged.mask ≡ r.matching.mask
    → ((j : ℕ) (s : Subtable) → slice_get ss j ≡ Some s → same (bits s.staged.mask) r.matching.mask ≡ false) → IsSubtableOf t (r ∷ []) → AreSubtablesOf (ss ++ t ∷ []) (rs ++ r ∷ [])
insert_at_end ss rs t r are is new own = record { apart = apart; each = each; covered = λ x m. covered x (Among-append x rs (r ∷ []) m) }
  where
    clash : (s : Subtable) (i : ℕ) → slice_get ss i ≡ Some s → same (bits s.staged.mask) (bits t.staged.mask) ≡ true → ⊥
    clash s i at h = false≢true (sym (new i s at) ∙ ap (same (bits s.staged.mask)) (sym is) ∙ h)

    apart : AreApart (ss ++ t ∷ [])
    apart j k u v ju kv alike = cases (at_end_of ss t j u ju) (at_end_of ss t k v kv)
      where
        cases : (slice_get ss j ≡ Some u) ⊎ ((j ≡ length ss) × (t ≡ u)) → (slice_get ss k ≡ Some v) ⊎ ((k ≡ length ss) × (t ≡ v)) → j ≡ k
        cases (inl a) (inl b) = are.apart j k u v a b alike
        cases (inl a) (inr b) = absurd (clash u j a (ap (λ (x : Subtable). same (bits u.staged.mask) (bits x.staged.mask)) b.1 ∙ alike))
        cases (inr a) (inl b) = absurd (clash v k b (turned (bits t.staged.mask) (bits v.staged.mask) true (ap (λ (x : Subtable). same (bits x.staged.mask) (bits v.staged.mask)) a.1 ∙ alike)))
        cases (inr a) (inr b) = a.0 ∙ sym b.0

    none_yet : of_mask r.matching.mask rs ≡ []
    none_yet = filter_none (λ (x : Rule). same x.matching.mask r.matching.mask) rs (λ x m.
        let h = are.covered x m in
        untrue (same x.matching.mask r.matching.mask) (λ (q : same x.matching.mask r.matching.mask ≡ true).
        false≢true (sym (new h.0 h.1 h.2) ∙ turned r.matching.mask (bits h.1.staged.mask) true (ap (λ (k : List ℕ). same k (bits h.1.staged.mask)) (sym (equal_from_same x.matching.mask r.matching.mask q)) ∙ h.3))))

    each : (j : ℕ) (u : Subtable) → slice_get (ss ++ t ∷ []) j ≡ Some u → IsSubtableOf u (of_mask (bits u.staged.mask) (rs ++ r ∷ []))
    each j u at = by (at_end_of ss t j u at)
      where
        by : (slice_get ss j ≡ Some u) ⊎ ((j ≡ length ss) × (t ≡ u)) → IsSubtableOf u (of_mask (bits u.staged.mask) (rs ++ r ∷ []))
        by (inl a) = subst (IsSubtableOf u) (sym (part_same (bits u.staged.mask) rs r (turned (bits u.staged.mask) r.matching.mask false (new j u a)))) (are.each j u a)
        by (inr a) =
            subst (λ (x : Subtable). IsSubtableOf x (of_mask (bits x.staged.mask) (rs ++ r ∷ []))) a.1
            (subst (λ (k : List ℕ). IsSubtableOf t (of_mask k (rs ++ r ∷ []))) (sym is)
            (subst (IsSubtableOf t) (sym (part_more r.matching.mask rs r (same_from_equal r.matching.mask r.matching.mask refl) ∙ ap (λ (ys : List Rule). ys ++ r ∷ []) none_yet)) own))

    covered : (x : Rule) → Among x rs ⊎ Among x (r ∷ []) → HasMask (ss ++ t ∷ []) x.matching.mask
    covered x (inl m) = let h = are.covered x m in (h.0, h.1, before_end ss t h.0 h.1 h.2, h.3)
    covered x (inr (inl q)) = (length ss, t, end_at ss t, same_from_equal x.matching.mask (bits t.staged.mask) (ap (λ (y : Rule). y.matching.mask) q ∙ sym is))
    covered x (inr (inr h)) = absurd h

-- ---- subtables at other places

-- each stood somewhere before, no two at one place, and those that have rules are still there
relocated : (ss ts : List Subtable) (rs : List Rule) → AreSubtablesOf ss rs → (stood : (j : ℕ) (u : Subtable) → slice_get ts j ≡ Some u → (i : ℕ) × (slice_get ss i ≡ Some u))
    → ((j k : ℕ) (u v : Subtable) (ju : slice_get ts j ≡ Some u) (kv : slice_get ts k ≡ Some v) → (stood j u ju).0 ≡ (stood k v kv).0 → j ≡ k)
    → ((r : Rule) (i : ℕ) (s : Subtable) → Among r rs → slice_get ss i ≡ Some s → same r.matching.mask (bits s.staged.mask) ≡ true → (j : ℕ) × (slice_get ts j ≡ Some s)) → AreSubtablesOf ts rs
relocated ss ts rs are stood one there = record {
  apart = λ j k u v ju kv alike. one j k u v ju kv (are.apart (stood j u ju).0 (stood k v kv).0 u v (stood j u ju).1 (stood k v kv).1 alike);
  each = λ j u at. are.each (stood j u at).0 u (stood j u at).1;
  covered = λ r m. let h = are.covered r m in let t = there r h.0 h.1 m h.2 h.3 in (t.0, h.1, t.1, h.3);
}

-- in an order that has each place once
pub are_in_order : (ss : List Subtable) (order : List ℕ) (rs : List Rule) → IsOrderOf (length ss) order → AreSubtablesOf ss rs → AreSubtablesOf (in_order ss order) rs
are_in_order ss order rs is are = relocated ss (in_order ss order) rs are stood one there
  where
    inside : AreWithin (length ss) order
    inside = order_within (length ss) order is

    stood : (j : ℕ) (u : Subtable) → slice_get (in_order ss order) j ≡ Some u → (i : ℕ) × (slice_get ss i ≡ Some u)
    stood j u at = let a = in_order_at ss order inside j u at in (a.0, a.2)

    one : (j k : ℕ) (u v : Subtable) (ju : slice_get (in_order ss order) j ≡ Some u) (kv : slice_get (in_order ss order) k ≡ Some v) → (stood j u ju).0 ≡ (stood k v kv).0 → j ≡ k
    one j k u v ju kv e =
        let a = in_order_at ss order inside j u ju in
        let b = in_order_at ss order inside k v kv in
        once_in (length ss) order is j k a.0 a.1 (b.1 ∙ ap Some (sym e))

    there : (r : Rule) (i : ℕ) (s : Subtable) → Among r rs → slice_get ss i ≡ Some s → same r.matching.mask (bits s.staged.mask) ≡ true → (j : ℕ) × (slice_get (in_order ss order) j ≡ Some s)
    there r i s m at alike = let k = place_in (length ss) order is i (slice_get_within ss i s at) in (k.0, at_in_order ss order inside k.0 i s k.1 at)

-- where one stood before the last took a place
abbrev Stood : List Subtable → ℕ → ℕ → Subtable → Type 0
Stood ss p j u = ((j ≡ p) × (slice_get ss (length ss - 1) ≡ Some u)) ⊎ ((j ≡ p → ⊥) × (slice_get ss j ≡ Some u))

-- without a mask that has no rules, whose place the last one takes
pub drop_mask : (ss : List Subtable) (rs : List Rule) (p : ℕ) (s d : Subtable) → AreSubtablesOf ss rs → slice_get ss p ≡ Some s → of_mask (bits s.staged.mask) rs ≡ [] → AreSubtablesOf (swap_remove ss p d) rs
drop_mask ss rs p s d are is none =
    relocated ss (swap_remove ss p d) rs are (λ j u at. stood j u (at_swapped ss p d inside j u at).1)
    (λ j k u v ju kv. let a = at_swapped ss p d inside j u ju in let b = at_swapped ss p d inside k v kv in one j k u v a.0 b.0 a.1 b.1) there
  where
    inside : p < length ss
    inside = slice_get_within ss p s is

    stood : (j : ℕ) (u : Subtable) → Stood ss p j u → (i : ℕ) × (slice_get ss i ≡ Some u)
    stood j u (inl h) = (length ss - 1, h.1)
    stood j u (inr h) = (j, h.1)

    one : (j k : ℕ) (u v : Subtable) → j < length ss - 1 → k < length ss - 1 → (a : Stood ss p j u) (b : Stood ss p k v) → (stood j u a).0 ≡ (stood k v b).0 → j ≡ k
    one j k u v jl kl (inl h) (inl g) e = h.0 ∙ sym g.0
    one j k u v jl kl (inl h) (inr g) e = absurd (omega (arith, kl, e))
    one j k u v jl kl (inr h) (inl g) e = absurd (omega (arith, jl, e))
    one j k u v jl kl (inr h) (inr g) e = e

    there : (r : Rule) (i : ℕ) (t : Subtable) → Among r rs → slice_get ss i ≡ Some t → same r.matching.mask (bits t.staged.mask) ≡ true → (j : ℕ) × (slice_get (swap_remove ss p d) j ≡ Some t)
    there r i t m at alike = swapped_at ss p d inside i t (λ (e : i ≡ p).
        let is_s : t ≡ s = same_Some t s (sym at ∙ ap (slice_get ss) e ∙ is) in
        let has : Among r (of_mask (bits s.staged.mask) rs) = Among_in-filter (λ (x : Rule). same x.matching.mask (bits s.staged.mask)) r rs m (ap (λ (x : Subtable). same r.matching.mask (bits x.staged.mask)) (sym is_s) ∙ alike) in
        subst (λ (ys : List Rule). Among r ys) none has) at

-- ---- a rule of a mask

pub among_part : (mask : List ℕ) (rs : List Rule) (r : Rule) → Among r rs → same r.matching.mask mask ≡ true → Among r (of_mask mask rs)
among_part mask rs r m is = Among_in-filter (λ (x : Rule). same x.matching.mask mask) r rs m is

-- each rule's mask is somewhere
pub nowhere_clashes : (ss : List Subtable) (rs : List Rule) (r : Rule) → AreSubtablesOf ss rs → Among r rs
    → ((j : ℕ) (s : Subtable) → slice_get ss j ≡ Some s → same (bits s.staged.mask) r.matching.mask ≡ false) → ⊥
nowhere_clashes ss rs r are m new =
    let h = are.covered r m in
    false≢true (sym (new h.0 h.1 h.2) ∙ turned r.matching.mask (bits h.1.staged.mask) true h.3)

-- a rule with a match
abbrev pub rule_with : Match → Rule
rule_with m = record { number = 0; table = 0; priority = 0; cookie = 0; matching = match_view m; actions = [] }
