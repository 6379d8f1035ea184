-- Elements of lists by their places, as one is replaced, put in or taken out.
use Rattle.std.proofs.Common.{◌≡◌, ℕ, zero, suc, ◌+◌, ◌-◌, ◌<◌, ◌≤◌, Bool, true, false, List, [], ◌∷◌, ◌++◌, length, set, get_or, take, slice_get, Some, inl, inr, ◌⊎◌, refl, sym, ap, ◌∙◌, arith}
use Rattle.std.specs.List.{insert, remove, swap_remove}
use Rattle.std.proofs.lemmas.Bool.{cases_eq}
use Rattle.std.proofs.lemmas.Option.{slice_get-get_or, slice_get_within, same_Some}
use Rattle.spec_keys.specs.Keys.{same}
use Rattle.ovs_fields.specs.Equality.{equal_from_same, same_from_equal}

pub turned : (a b : List ℕ) (t : Bool) → same a b ≡ t → same b a ≡ t
turned a b true h = same_from_equal b a (sym (equal_from_same a b h))
turned a b false h = at (same b a) refl
  where
    at : (u : Bool) → same b a ≡ u → u ≡ false
    at true e = sym (same_from_equal a b (sym (equal_from_same b a e))) ∙ h
    at false e = refl

-- ---- one in the place of another

pub at_set : {X : Type 0} (ss : List X) (i j : ℕ) (s t u : X) → slice_get ss i ≡ Some s → slice_get (set ss i t) j ≡ Some u
    → ((j ≡ i) × (t ≡ u)) ⊎ ((j ≡ i → ⊥) × (slice_get ss j ≡ Some u))
at_set [] i j s t u is at = absurd (cc)
at_set (w ∷ ss) zero zero s t u is at = inl (refl, same_Some t u at)
at_set (w ∷ ss) zero (suc j) s t u is at = inr (λ e. cc, at)
at_set (w ∷ ss) (suc i) zero s t u is at = inr (λ e. cc, at)
at_set (w ∷ ss) (suc i) (suc j) s t u is at = up (at_set ss i j s t u is at)
  where
    up : ((j ≡ i) × (t ≡ u)) ⊎ ((j ≡ i → ⊥) × (slice_get ss j ≡ Some u)) → ((suc j ≡ suc i) × (t ≡ u)) ⊎ ((suc j ≡ suc i → ⊥) × (slice_get ss j ≡ Some u))
    up (inl e) = inl (ap suc e.0, e.1)
    up (inr e) = inr (λ (q : suc j ≡ suc i). e.0 (omega arith), e.1)

pub set_at : {X : Type 0} (ss : List X) (i : ℕ) (s t : X) → slice_get ss i ≡ Some s → slice_get (set ss i t) i ≡ Some t
set_at [] i s t is = absurd (cc)
set_at (w ∷ ss) zero s t is = refl
set_at (w ∷ ss) (suc i) s t is = set_at ss i s t is

pub set_elsewhere : {X : Type 0} (ss : List X) (i j : ℕ) (t u : X) → (j ≡ i → ⊥) → slice_get ss j ≡ Some u → slice_get (set ss i t) j ≡ Some u
set_elsewhere [] i j t u other at = at
set_elsewhere (w ∷ ss) zero zero t u other at = absurd (other refl)
set_elsewhere (w ∷ ss) zero (suc j) t u other at = at
set_elsewhere (w ∷ ss) (suc i) zero t u other at = at
set_elsewhere (w ∷ ss) (suc i) (suc j) t u other at = set_elsewhere ss i j t u (λ e. other (ap suc e)) at

-- ---- one more at the end

pub at_end_of : {X : Type 0} (ss : List X) (t : X) (j : ℕ) (s : X) → slice_get (ss ++ t ∷ []) j ≡ Some s → (slice_get ss j ≡ Some s) ⊎ ((j ≡ length ss) × (t ≡ s))
at_end_of [] t zero s at = inr (refl, same_Some t s at)
at_end_of [] t (suc j) s at = inl at
at_end_of (u ∷ ss) t zero s at = inl at
at_end_of (u ∷ ss) t (suc j) s at = up (at_end_of ss t j s at)
  where
    up : (slice_get ss j ≡ Some s) ⊎ ((j ≡ length ss) × (t ≡ s)) → (slice_get ss j ≡ Some s) ⊎ ((suc j ≡ suc (length ss)) × (t ≡ s))
    up (inl e) = inl e
    up (inr e) = inr (ap suc e.0, e.1)

pub end_at : {X : Type 0} (ss : List X) (t : X) → slice_get (ss ++ t ∷ []) (length ss) ≡ Some t
end_at [] t = refl
end_at (u ∷ ss) t = end_at ss t

pub before_end : {X : Type 0} (ss : List X) (t : X) (j : ℕ) (s : X) → slice_get ss j ≡ Some s → slice_get (ss ++ t ∷ []) j ≡ Some s
before_end [] t j s at = absurd (cc)
before_end (u ∷ ss) t zero s at = at
before_end (u ∷ ss) t (suc j) s at = before_end ss t j s at

-- ---- one less

-- where the one at j stood before the one at p was taken out
pub moved : ℕ → ℕ → ℕ
moved zero j = suc j
moved (suc p) zero = zero
moved (suc p) (suc j) = suc (moved p j)

pub moved_not : (p j : ℕ) → moved p j ≡ p → ⊥
unfolding moved
moved_not zero j e = omega (arith, e)
moved_not (suc p) zero e = omega (arith, e)
moved_not (suc p) (suc j) e = moved_not p j (let f : suc (moved p j) ≡ suc p = e in omega (arith, f))

pub moved_less : (p i j : ℕ) → i < j → moved p i < moved p j
unfolding moved
moved_less zero i j less = omega (arith, less)
moved_less (suc p) zero zero less = absurd (omega (arith, less))
moved_less (suc p) zero (suc j) less = omega arith
moved_less (suc p) (suc i) zero less = absurd (omega (arith, less))
moved_less (suc p) (suc i) (suc j) less = let ih = moved_less p i j (omega (arith, less)) in omega (arith, ih)

pub at_removed : {X : Type 0} (ss : List X) (p j : ℕ) (u : X) → slice_get (remove ss p) j ≡ Some u → slice_get ss (moved p j) ≡ Some u
unfolding moved
at_removed [] zero j u at = absurd (cc)
at_removed [] (suc p) j u at = absurd (cc)
at_removed (w ∷ ss) zero j u at = at
at_removed (w ∷ ss) (suc p) zero u at = at
at_removed (w ∷ ss) (suc p) (suc j) u at = at_removed ss p j u at

-- ---- one put in

-- where an element of the list that one was put into comes from
pub data Came {X : Type 0} (xs : List X) (p : ℕ) (x : X) (i : ℕ) (u : X) : Type 0 where
  before : i < p → slice_get xs i ≡ Some u → Came xs p x i u
  itself : i ≡ p → x ≡ u → Came xs p x i u
  behind : (j : ℕ) → p ≤ j → i ≡ j + 1 → slice_get xs j ≡ Some u → Came xs p x i u

pub came : {X : Type 0} (xs : List X) (p : ℕ) (x : X) (i : ℕ) (u : X) → p ≤ length xs → slice_get (insert xs p x) i ≡ Some u → Came xs p x i u
came xs zero x zero u within at = itself refl (same_Some x u at)
came xs zero x (suc i) u within at = behind i (omega arith) (omega arith) at
came [] (suc p) x i u within at = absurd (omega (arith, within))
came (y ∷ xs) (suc p) x zero u within at = before (omega arith) at
came {X} (y ∷ xs) (suc p) x (suc i) u within at = up (came xs p x i u (omega (arith, within)) at)
  where
    up : Came xs p x i u → Came (y ∷ xs) (suc p) x (suc i) u
    up (before less a) = before (omega (arith, less)) a
    up (itself e is) = itself (ap suc e) is
    up (behind j more e a) = behind (suc j) (omega (arith, more)) (omega (arith, e)) a

-- ---- the last in the place of one

at_taken : {X : Type 0} (n : ℕ) (xs : List X) (j : ℕ) (u : X) → slice_get (take n xs) j ≡ Some u → (j < n) × (slice_get xs j ≡ Some u)
at_taken zero xs j u at = absurd (cc)
at_taken (suc n) [] j u at = absurd (cc)
at_taken (suc n) (x ∷ xs) zero u at = (omega arith, at)
at_taken (suc n) (x ∷ xs) (suc j) u at = let r = at_taken n xs j u at in ((let l = r.0 in omega (arith, l)), r.1)

taken_at : {X : Type 0} (n : ℕ) (xs : List X) (j : ℕ) (u : X) → j < n → slice_get xs j ≡ Some u → slice_get (take n xs) j ≡ Some u
taken_at zero xs j u less at = absurd (omega (arith, less))
taken_at (suc n) [] j u less at = absurd (cc)
taken_at (suc n) (x ∷ xs) zero u less at = at
taken_at (suc n) (x ∷ xs) (suc j) u less at = taken_at n xs j u (omega (arith, less)) at

module _ {X : Type 0} (xs : List X) (p : ℕ) (d : X) (within : p < length xs) where
  last : slice_get xs (length xs - 1) ≡ Some (get_or xs (length xs - 1) d)
  last = slice_get-get_or xs (length xs - 1) d (omega (arith, within))

  pub at_swapped : (j : ℕ) (u : X) → slice_get (swap_remove xs p d) j ≡ Some u
      → (j < length xs - 1) × (((j ≡ p) × (slice_get xs (length xs - 1) ≡ Some u)) ⊎ ((j ≡ p → ⊥) × (slice_get xs j ≡ Some u)))
  at_swapped j u at =
      let t = at_taken (length xs - 1) (set xs p (get_or xs (length xs - 1) d)) j u at in
      (t.0, by (at_set xs p j (get_or xs p d) (get_or xs (length xs - 1) d) u (slice_get-get_or xs p d within) t.1))
    where
      by : ((j ≡ p) × (get_or xs (length xs - 1) d ≡ u)) ⊎ ((j ≡ p → ⊥) × (slice_get xs j ≡ Some u)) → ((j ≡ p) × (slice_get xs (length xs - 1) ≡ Some u)) ⊎ ((j ≡ p → ⊥) × (slice_get xs j ≡ Some u))
      by (inl h) = inl (h.0, last ∙ ap Some h.1)
      by (inr h) = inr h

  -- the others are still there
  pub swapped_at : (i : ℕ) (u : X) → (i ≡ p → ⊥) → slice_get xs i ≡ Some u → (j : ℕ) × (slice_get (swap_remove xs p d) j ≡ Some u)
  swapped_at i u other at = by (cases_eq i (length xs - 1))
    where
      le : i < length xs
      le = slice_get_within xs i u at

      by : (i ≡ length xs - 1) ⊎ (i ≡ length xs - 1 → ⊥) → (j : ℕ) × (slice_get (swap_remove xs p d) j ≡ Some u)
      by (inl e) =
          let is : get_or xs (length xs - 1) d ≡ u = same_Some (get_or xs (length xs - 1) d) u (sym last ∙ ap (slice_get xs) (sym e) ∙ at) in
          (p, taken_at (length xs - 1) (set xs p (get_or xs (length xs - 1) d)) p u (before_last p within (λ q. other (e ∙ sym q))) (set_at xs p (get_or xs p d) (get_or xs (length xs - 1) d) (slice_get-get_or xs p d within) ∙ ap Some is))
        where
          before_last : (k : ℕ) → k < length xs → (k ≡ length xs - 1 → ⊥) → k < length xs - 1
          before_last k lt ne = omega (arith, lt, ne)
      by (inr ne) = (i, taken_at (length xs - 1) (set xs p (get_or xs (length xs - 1) d)) i u (omega (arith, le, ne)) (set_elsewhere xs p i (get_or xs (length xs - 1) d) u other at))
