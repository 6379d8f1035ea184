-- The other ports in rising order, found one number after the other.
use Rattle.std.proofs.Common.{◌≡◌, inl, inr, ℕ, ◌+◌, ◌≤◌, ◌<◌, Bool, true, false, ◌==◌, ◌&&◌, ◌||◌, not, if◌then◌else◌, nat_le, nat_lt, min, List, [], ◌∷◌, ◌++◌, length, filter, map, Some, None, refl, sym, ap, ap₂, ◌∙◌, subst, eq-eqb, ne_eqb, leb-true, leb-false, le-leb, le_refl, append_assoc, append-nil, arith}
use Rattle.std.specs.List.{list_any, reduce, fold}
use Rattle.std.proofs.Math.Nat.{min-le_left, min-le_right, min-eq_left, min-eq_right}
use Rattle.std.proofs.lemmas.Bool.{cases_lt, cases_eq, lt-leb, le-ltb, false≢true}
use Rattle.std.proofs.lemmas.List.{map-append}
use Rattle.std.proofs.lemmas.List.Elements.{filter_agree}
use Rattle.spec_actions.specs.declared.action.DpAction.{DpAction}
use Rattle.spec_actions.specs.declared.action.DpAction.TheVariants.{Output}
use Rattle.spec_base.specs.Sorting.{insert_by, sort_by}
use Rattle.spec_base.proofs.SortLaws.{length-sort_by}
use Rattle.spec_xlate.specs.Translation.{rising}
use Rattle.pipe_model.specs.Others.{others_from, others_of}
use Rattle.pipe_model.proofs.InOrder.{Rise, rise_rising, filter-rising}

-- No number of a list is below this one.
abbrev Above : ℕ → List ℕ → Type 0
Above m [] = Unit {0}
Above m (x ∷ xs) = (m ≤ x) × Above m xs

-- ---- numbers in rising order

above_inserted : (m n : ℕ) (xs : List ℕ) → m ≤ n → Above m xs → Above m (insert_by nat_lt n xs)
unfolding insert_by
above_inserted m n [] le h = (le, tt)
above_inserted m n (x ∷ xs) le h = by_test (nat_lt x n) (above_inserted m n xs le h.1)
  where
    by_test : (t : Bool) → Above m (insert_by nat_lt n xs) → Above m (if t then x ∷ insert_by nat_lt n xs else n ∷ x ∷ xs)
    by_test true others = (h.0, others)
    by_test false others = (le, h)

above_rising : (m : ℕ) (xs : List ℕ) → Above m xs → Above m (rising xs)
unfolding sort_by
above_rising m [] h = tt
above_rising m (x ∷ xs) h = above_inserted m x (rising xs) h.0 (above_rising m xs h.1)

rising-some : (xs : List ℕ) → (xs ≡ [] → ⊥) → rising xs ≡ [] → ⊥
rising-some [] some none = some refl
rising-some (x ∷ xs) some none = let same = length-sort_by nat_lt (x ∷ xs) in let empty = ap length none in absurd (omega arith)

rising-none : (xs : List ℕ) → xs ≡ [] → rising xs ≡ []
unfolding sort_by
rising-none xs none = ap rising none

-- those that are equal are in order anyway
inserted-equal : (m : ℕ) (xs : List ℕ) → insert_by nat_lt m (filter (λ p. p == m) xs) ≡ m ∷ filter (λ p. p == m) xs
unfolding insert_by
inserted-equal m [] = refl
inserted-equal m (x ∷ xs) =
    elim (cases_eq x m) [
      | inl equal ↦
          ap (λ (t : Bool). insert_by nat_lt m (if t then x ∷ filter (λ p. p == m) xs else filter (λ p. p == m) xs)) (eq-eqb x m equal)
          ∙ ap (λ (t : Bool). if t then x ∷ insert_by nat_lt m (filter (λ p. p == m) xs) else m ∷ x ∷ filter (λ p. p == m) xs) (le-ltb x m (omega (arith, equal)))
          ∙ sym (ap (λ (t : Bool). m ∷ (if t then x ∷ filter (λ p. p == m) xs else filter (λ p. p == m) xs)) (eq-eqb x m equal))
      | inr other ↦
          ap (λ (t : Bool). insert_by nat_lt m (if t then x ∷ filter (λ p. p == m) xs else filter (λ p. p == m) xs)) (ne_eqb x m other)
          ∙ inserted-equal m xs
          ∙ sym (ap (λ (t : Bool). m ∷ (if t then x ∷ filter (λ p. p == m) xs else filter (λ p. p == m) xs)) (ne_eqb x m other))
    ]

rising-equal : (m : ℕ) (xs : List ℕ) → rising (filter (λ p. p == m) xs) ≡ filter (λ p. p == m) xs
unfolding sort_by
rising-equal m [] = refl
rising-equal m (x ∷ xs) =
    elim (cases_eq x m) [
      | inl equal ↦
          ap (λ (t : Bool). rising (if t then x ∷ filter (λ p. p == m) xs else filter (λ p. p == m) xs)) (eq-eqb x m equal)
          ∙ ap₂ (λ (n : ℕ) (ys : List ℕ). insert_by nat_lt n ys) equal (rising-equal m xs)
          ∙ inserted-equal m xs
          ∙ ap (λ (n : ℕ). n ∷ filter (λ p. p == m) xs) (sym equal)
          ∙ sym (ap (λ (t : Bool). if t then x ∷ filter (λ p. p == m) xs else filter (λ p. p == m) xs) (eq-eqb x m equal))
      | inr other ↦
          ap (λ (t : Bool). rising (if t then x ∷ filter (λ p. p == m) xs else filter (λ p. p == m) xs)) (ne_eqb x m other)
          ∙ rising-equal m xs
          ∙ sym (ap (λ (t : Bool). if t then x ∷ filter (λ p. p == m) xs else filter (λ p. p == m) xs) (ne_eqb x m other))
    ]

-- ---- the least number

fold-above : (a : ℕ) (xs : List ℕ) → Above (fold min a xs) (a ∷ xs)
fold-above a [] = (le_refl a, tt)
fold-above a (x ∷ xs) =
    let h = fold-above (min a x) xs in
    let left : min a x ≤ a = min-le_left a x in
    let right : min a x ≤ x = min-le_right a x in
    let first : fold min (min a x) xs ≤ min a x = h.0 in
    (omega (arith, first, left), (omega (arith, first, right), h.1))

least-above : (xs : List ℕ) (m : ℕ) → reduce min xs ≡ Some m → Above m xs
least-above [] m is = tt
least-above (x ∷ xs) m is = let same : fold min x xs ≡ m = cc is in subst (λ (n : ℕ). Above n (x ∷ xs)) same (fold-above x xs)

least-some : (xs : List ℕ) (m : ℕ) → reduce min xs ≡ Some m → xs ≡ [] → ⊥
least-some [] m is none = cc is
least-some (x ∷ xs) m is none = cc none

least-none : (xs : List ℕ) → reduce min xs ≡ None → xs ≡ []
least-none [] none = refl
least-none (x ∷ xs) none = absurd (cc none)

-- of two numbers that pass a test the lesser one does
min-passes : (p : ℕ → Bool) (a b : ℕ) → p a ≡ true → p b ≡ true → p (min a b) ≡ true
min-passes p a b left right =
    elim (cases_lt b a) [
      | inl less ↦ ap p (min-eq_right {n = b} {m = a} (omega (arith, less))) ∙ right
      | inr more ↦ ap p (min-eq_left {n = a} {m = b} (omega (arith, more))) ∙ left
    ]

fold-passes : (p : ℕ → Bool) (a : ℕ) (xs : List ℕ) → p a ≡ true → p (fold min a (filter p xs)) ≡ true
fold-passes p a [] first = first
fold-passes p a (x ∷ xs) first = by_test (p x) refl (λ b. fold-passes p b xs)
  where
    by_test : (t : Bool) → p x ≡ t → ((b : ℕ) → p b ≡ true → p (fold min b (filter p xs)) ≡ true) → p (fold min a (if t then x ∷ filter p xs else filter p xs)) ≡ true
    by_test true passes others = others (min a x) (min-passes p a x first passes)
    by_test false fails others = others a first

least-passes : (p : ℕ → Bool) (xs : List ℕ) (m : ℕ) → reduce min (filter p xs) ≡ Some m → p m ≡ true
least-passes p [] m is = absurd (cc is)
least-passes p (x ∷ xs) m is = by_test (p x) refl (least-passes p xs m) is
  where
    by_test : (t : Bool) → p x ≡ t → (reduce min (filter p xs) ≡ Some m → p m ≡ true) → reduce min (if t then x ∷ filter p xs else filter p xs) ≡ Some m → p m ≡ true
    by_test true passes others e = let same : fold min x (filter p xs) ≡ m = cc e in subst (λ (n : ℕ). p n ≡ true) same (fold-passes p x xs passes)
    by_test false fails others e = others e

-- ---- the least of the other ports taken out of them

-- whether a port is another one, from a number on
abbrev is_due : ℕ → ℕ → ℕ → Bool
is_due in_port first p = not (p == in_port) && nat_le first p

none-equal : (m low : ℕ) (xs : List ℕ) → m < low → Rise low xs → filter (λ p. p == m) xs ≡ []
none-equal m low [] below h = refl
none-equal m low (x ∷ xs) below h =
    ap (λ (t : Bool). if t then x ∷ filter (λ p. p == m) xs else filter (λ p. p == m) xs) (ne_eqb x m (λ e. omega (arith, e, below, h.0)))
    ∙ none-equal m x xs (omega (arith, below, h.0)) h.1

module _ (in_port first m : ℕ) (due : is_due in_port first m ≡ true) where
  from_first : first ≤ m
  from_first = by_test (m == in_port) due
    where
      by_test : (t : Bool) → (not t && nat_le first m) ≡ true → first ≤ m
      by_test true e = absurd (cc e)
      by_test false e = leb-true first m e

  is_other : (x : ℕ) → x ≡ m → is_due in_port (m + 1) x ≡ false
  is_other x same = by_test (not (x == in_port)) (nat_le (m + 1) x) (lt-leb (m + 1) x (omega (arith, same)))
    where
      by_test : (t u : Bool) → u ≡ false → (t && u) ≡ false
      by_test true u e = e
      by_test false u e = refl

  -- one that isn't due now isn't due later
  never : (x : ℕ) → is_due in_port first x ≡ false → is_due in_port (m + 1) x ≡ false
  never x fails = by_test (not (x == in_port)) fails
    where
      by_test : (t : Bool) → (t && nat_le first x) ≡ false → (t && nat_le (m + 1) x) ≡ false
      by_test false e = refl
      by_test true e = lt-leb (m + 1) x (let below : x < first = leb-false first x e in omega (arith, below, from_first))

  -- one above the least that is due now is due later
  later : (x : ℕ) → m < x → is_due in_port first x ≡ true → is_due in_port (m + 1) x ≡ true
  later x above passes = by_test (not (x == in_port)) passes
    where
      by_test : (t : Bool) → (t && nat_le first x) ≡ true → (t && nat_le (m + 1) x) ≡ true
      by_test false e = e
      by_test true e = le-leb (m + 1) x (omega (arith, above))

  taken_out : (low : ℕ) (xs : List ℕ) → Rise low xs → Above m (others_from in_port first xs) → others_from in_port first xs ≡ filter (λ p. p == m) xs ++ others_from in_port (m + 1) xs
  taken_out low [] rise h = refl
  taken_out low (x ∷ xs) rise h = by_due (is_due in_port first x) refl (taken_out x xs rise.1) h
    where
      equal : others_from in_port first xs ≡ filter (λ p. p == m) xs ++ others_from in_port (m + 1) xs → x ≡ m → x ∷ others_from in_port first xs ≡ filter (λ p. p == m) (x ∷ xs) ++ others_from in_port (m + 1) (x ∷ xs)
      equal others same =
          ap (λ (ys : List ℕ). x ∷ ys) others
          ∙ sym (ap₂ (λ (t u : Bool). (if t then x ∷ filter (λ p. p == m) xs else filter (λ p. p == m) xs) ++ (if u then x ∷ others_from in_port (m + 1) xs else others_from in_port (m + 1) xs)) (eq-eqb x m same) (is_other x same))

      above : others_from in_port first xs ≡ filter (λ p. p == m) xs ++ others_from in_port (m + 1) xs → is_due in_port first x ≡ true → m < x → x ∷ others_from in_port first xs ≡ filter (λ p. p == m) (x ∷ xs) ++ others_from in_port (m + 1) (x ∷ xs)
      above others passes more =
          let none : filter (λ p. p == m) xs ≡ [] = none-equal m x xs more rise.1 in
          ap (λ (ys : List ℕ). x ∷ ys) (others ∙ ap (λ (ys : List ℕ). ys ++ others_from in_port (m + 1) xs) none)
          ∙ sym (ap₂ (λ (ys : List ℕ) (u : Bool). ys ++ (if u then x ∷ others_from in_port (m + 1) xs else others_from in_port (m + 1) xs)) (none-equal m x (x ∷ xs) more (le_refl x, rise.1)) (later x more passes))

      by_due : (t : Bool) → is_due in_port first x ≡ t → (Above m (others_from in_port first xs) → others_from in_port first xs ≡ filter (λ p. p == m) xs ++ others_from in_port (m + 1) xs) → Above m (if t then x ∷ others_from in_port first xs else others_from in_port first xs)
          → (if t then x ∷ others_from in_port first xs else others_from in_port first xs) ≡ filter (λ p. p == m) (x ∷ xs) ++ others_from in_port (m + 1) (x ∷ xs)
      by_due true passes others a =
          elim (cases_eq x m) [
            | inl same ↦ equal (others a.1) same
            | inr other ↦ above (others a.1) passes (omega (arith, a.0, other))
          ]
      by_due false fails others a =
          others a
          ∙ sym (ap₂ (λ (t u : Bool). (if t then x ∷ filter (λ p. p == m) xs else filter (λ p. p == m) xs) ++ (if u then x ∷ others_from in_port (m + 1) xs else others_from in_port (m + 1) xs)) (ne_eqb x m (λ e. false≢true (sym fails ∙ ap (is_due in_port first) e ∙ due))) (never x fails))

-- ---- as the code takes them

module _ (in_port first : ℕ) (ports : List ℕ) where
  -- the least of them and its equals come first
  pub next-first : (m : ℕ) → reduce min (others_from in_port first ports) ≡ Some m
      → others_from in_port first (rising ports) ≡ filter (λ p. p == m) ports ++ others_from in_port (m + 1) (rising ports)
  next-first m is =
      let due = least-passes (is_due in_port first) ports m is in
      let above = subst (λ (xs : List ℕ). Above m xs) (sym (filter-rising (is_due in_port first) ports)) (above_rising m (others_from in_port first ports) (least-above (others_from in_port first ports) m is)) in
      taken_out in_port first m due 0 (rising ports) (rise_rising ports) above
      ∙ ap (λ (xs : List ℕ). xs ++ others_from in_port (m + 1) (rising ports)) (filter-rising (λ p. p == m) ports ∙ rising-equal m ports)

  pub next-from : (m : ℕ) → reduce min (others_from in_port first ports) ≡ Some m → first ≤ m
  next-from m is = from_first in_port first m (least-passes (is_due in_port first) ports m is)

  pub next-none : reduce min (others_from in_port first ports) ≡ None → others_from in_port first (rising ports) ≡ []
  next-none none = filter-rising (is_due in_port first) ports ∙ rising-none (others_from in_port first ports) (least-none (others_from in_port first ports) none)

pub from_zero : (in_port : ℕ) (ports : List ℕ) → others_from in_port 0 (rising ports) ≡ others_of in_port ports
from_zero in_port ports = filter_agree (is_due in_port 0) (λ p. not (p == in_port)) (λ p. by_test (not (p == in_port)) (nat_le 0 p) (le-leb 0 p (omega arith))) (rising ports)
  where
    by_test : (t u : Bool) → u ≡ true → (t && u) ≡ t
    by_test true u e = e
    by_test false u e = refl

-- ---- outputs

module _ (sent full : List DpAction) (due : List ℕ) (whole : sent ++ map Output due ≡ full) where
  pub outputs-next : (equal rest : List ℕ) (more : List DpAction) → due ≡ equal ++ rest → more ≡ sent ++ map Output equal → more ++ map Output rest ≡ full
  outputs-next equal rest more parts appended =
      ap (λ (xs : List DpAction). xs ++ map Output rest) appended
      ∙ append_assoc sent (map Output equal) (map Output rest)
      ∙ ap (λ (xs : List DpAction). sent ++ xs) (sym (map-append Output equal rest))
      ∙ ap (λ (ps : List ℕ). sent ++ map Output ps) (sym parts) ∙ whole

  pub outputs-done : due ≡ [] → sent ≡ full
  outputs-done none = sym (append-nil sent) ∙ sym (ap (λ (ps : List ℕ). sent ++ map Output ps) none) ∙ whole

-- ---- whether there are any

any-some : (p : ℕ → Bool) (xs : List ℕ) → list_any p xs ≡ true → filter p xs ≡ [] → ⊥
any-some p [] is none = cc is
any-some p (x ∷ xs) is none = by_test (p x) (any-some p xs) is none
  where
    by_test : (t : Bool) → (list_any p xs ≡ true → filter p xs ≡ [] → ⊥) → (t || list_any p xs) ≡ true → (if t then x ∷ filter p xs else filter p xs) ≡ [] → ⊥
    by_test true others e f = cc f
    by_test false others e f = others e f

any-none : (p : ℕ → Bool) (xs : List ℕ) → list_any p xs ≡ false → filter p xs ≡ []
any-none p [] is = refl
any-none p (x ∷ xs) is = by_test (p x) (any-none p xs) is
  where
    by_test : (t : Bool) → (list_any p xs ≡ false → filter p xs ≡ []) → (t || list_any p xs) ≡ false → (if t then x ∷ filter p xs else filter p xs) ≡ []
    by_test true others e = absurd (cc e)
    by_test false others e = others e

module _ (in_port : ℕ) (ports : List ℕ) where
  pub others-some : list_any (λ p. not (p == in_port)) ports ≡ true → others_of in_port ports ≡ [] → ⊥
  others-some is none = rising-some (filter (λ p. not (p == in_port)) ports) (any-some (λ p. not (p == in_port)) ports is) (sym (filter-rising (λ p. not (p == in_port)) ports) ∙ none)

  pub others-none : list_any (λ p. not (p == in_port)) ports ≡ false → others_of in_port ports ≡ []
  others-none is = filter-rising (λ p. not (p == in_port)) ports ∙ rising-none (filter (λ p. not (p == in_port)) ports) (any-none (λ p. not (p == in_port)) ports is)
