-- Sums over journals, and over places.
use Rattle.std.proofs.Common.{◌≡◌, ℕ, zero, suc, ◌+◌, ◌<◌, List, [], ◌∷◌, ◌++◌, length, map, get_or, take, Bool, cond, All, eq-eqb, ne_eqb, refl, sym, ap, subst, ◌∙◌, arith}
use Rattle.std.specs.Prelude.{◌==◌, count_by}
use Rattle.std.specs.List.{sum_by, range_with_len}
use Rattle.std.proofs.lemmas.List.{take_more, map-append, length-map, get_or-map}
use Rattle.std.proofs.lemmas.List.Sums.{sum_by_push}
use Rattle.spec_board.specs.Texts.{Journal}
use Rattle.flow_dump.specs.StepCounts.{counts_of, counts_of_all, plus}

module _ {X : Type 0} (view : X → Journal) (xs : List X) (i : ℕ) (x : X) (within : i < length xs) (is : x ≡ get_or xs i x) where
  -- what stands at one more place has one more journal
  one_more : map view (take (i + 1) xs) ≡ map view (take i xs) ++ view x ∷ []
  one_more =
      ap (map view) (take_more xs i x within) ∙ map-append view (take i xs) (get_or xs i x ∷ [])
      ∙ ap (λ y. map view (take i xs) ++ view y ∷ []) (sym is)

  pub sum-more : (f : Journal → ℕ) → sum_by f (map view (take (i + 1) xs)) ≡ sum_by f (map view (take i xs)) + f (view x)
  sum-more f = ap (sum_by f) one_more ∙ sum_by_push f (map view (take i xs)) (view x)

  pub counts-more : counts_of_all (map view (take (i + 1) xs)) ≡ plus (counts_of_all (map view (take i xs))) (counts_of (view x).steps)
  counts-more = ap counts_of_all one_more ∙ simp sum_by_push refl

  -- what is so of each journal
  pub of_each : (P : Journal → Type 0) → All P (map view xs) → P (view x)
  of_each P all = subst P (get_or-map view xs i x (view x) within ∙ ap view (sym is)) (all i (view x) (omega (arith, within, length-map xs view)))

range-more : (a n : ℕ) → range_with_len a (n + 1) ≡ range_with_len a n ++ (a + n) ∷ []
range-more a zero = let e : a + 0 ≡ a = omega arith in rw e refl
range-more a (suc n) =
    let e : suc n + 1 ≡ suc (n + 1) = omega arith in
    let s : a + 1 + n ≡ a + suc n = omega arith in
    ap (range_with_len a) e ∙ ap (λ rest. a ∷ rest) (range-more (a + 1) n ∙ ap (λ p. range_with_len (a + 1) n ++ p ∷ []) s)

pub places-more : (f : ℕ → ℕ) (n place : ℕ) → n + 1 ≡ place → sum_by f (range_with_len 1 (n + 1)) ≡ sum_by f (range_with_len 1 n) + f place
places-more f n place next =
    let at : 1 + n ≡ place = omega arith in
    ap (sum_by f) (range-more 1 n) ∙ sum_by_push f (range_with_len 1 n) (1 + n) ∙ ap (λ p. sum_by f (range_with_len 1 n) + f p) at

-- one more place that is sent nowhere, or somewhere
module _ (times : ℕ → ℕ) (n : ℕ) where
  abbrev none : ℕ → Bool
  none place = times place == 0

  pub dropped-yes : times (n + 1) ≡ 0 → count_by (λ place. times place == 0) (range_with_len 1 (n + 1)) ≡ count_by (λ place. times place == 0) (range_with_len 1 n) + 1
  dropped-yes sends_none =
      places-more (λ place. cond (none place) 1 0) n (n + 1) refl
      ∙ ap (λ b. count_by none (range_with_len 1 n) + cond b 1 0) (eq-eqb (times (n + 1)) 0 sends_none)

  pub dropped-no : (times (n + 1) ≡ 0 → ⊥) → count_by (λ place. times place == 0) (range_with_len 1 (n + 1)) ≡ count_by (λ place. times place == 0) (range_with_len 1 n) + 0
  dropped-no some =
      places-more (λ place. cond (none place) 1 0) n (n + 1) refl
      ∙ ap (λ b. count_by none (range_with_len 1 n) + cond b 1 0) (ne_eqb (times (n + 1)) 0 some)
