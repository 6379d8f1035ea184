-- A modification is given to one rule after the other.
use Rattle.std.proofs.Common.{◌≡◌, ℕ, zero, suc, ◌+◌, ◌≤◌, ◌<◌, Bool, true, false, List, [], ◌∷◌, ◌++◌, length, take, get_or, Some, refl, sym, ap, ◌∙◌, subst, arith, ◌⊎◌, inl, inr}
use Rattle.std.specs.Prelude.{slice_get, slice_set, count_by}
use Rattle.std.proofs.lemmas.Bool.{cases_lt}
use Rattle.std.proofs.lemmas.Option.{none-some, same_Some, slice_get_within, get_or_from_slice_get}
use Rattle.std.proofs.lemmas.List.Sums.{count_by_more_yes, count_by_more_no}
use Rattle.spec_tables.specs.Edits.{Edit}
use Rattle.rule_tables.specs.declared.givings.Giving.{Giving}
use Rattle.rule_tables.specs.declared.stored.StoredRule.{StoredRule}
use Rattle.rule_tables.specs.Stored.{acts_on}
use Rattle.rule_tables.specs.Givings.{Extends, Becomes, AreGiven}
use Rattle.rule_tables.proofs.Counts.{count_by-take}
use Rattle.rule_tables.proofs.FilterMaps.{slice_get-append, slice_get-push}

-- ---- one write

length-slice_set : {A : Type 0} (xs : List A) (place : ℕ) (y : A) → length (slice_set xs place y) ≡ length xs
length-slice_set [] place y = refl
length-slice_set (x ∷ xs) zero y = refl
length-slice_set (x ∷ xs) (suc place) y = ap suc (length-slice_set xs place y)

-- what stands at a place afterwards
set_cases : {A : Type 0} (xs : List A) (place k : ℕ) (y t : A) → slice_get (slice_set xs place y) k ≡ Some t → ((k ≡ place) × (t ≡ y)) ⊎ ((k ≡ place → ⊥) × (slice_get xs k ≡ Some t))
set_cases [] place k y t at = absurd (none-some t at)
set_cases (x ∷ xs) zero zero y t at = inl (refl, sym (same_Some y t at))
set_cases (x ∷ xs) zero (suc k) y t at = inr (λ is. omega arith, at)
set_cases (x ∷ xs) (suc place) zero y t at = inr (λ is. omega arith, at)
set_cases (x ∷ xs) (suc place) (suc k) y t at =
    elim (set_cases xs place k y t at) [ inl (is, made) ↦ inl (ap suc is, made) | inr (other, there) ↦ inr (λ is. other (omega arith), there) ]

set_past : {A : Type 0} (xs : List A) (place k : ℕ) (y : A) → place < k → slice_get (slice_set xs place y) k ≡ slice_get xs k
set_past [] place k y lt = refl
set_past (x ∷ xs) zero zero y lt = absurd (omega arith)
set_past (x ∷ xs) zero (suc k) y lt = refl
set_past (x ∷ xs) (suc place) zero y lt = refl
set_past (x ∷ xs) (suc place) (suc k) y lt = set_past xs place k y (omega arith)

extends_push : (log : List Giving) (g : Giving) → Extends log (log ++ g ∷ [])
extends_push log g place h at = slice_get-append log (g ∷ []) place (slice_get_within log place h at) ∙ at

-- in a longer log it was given still
becomes_longer : (log new : List Giving) (picked : Bool) (n first : ℕ) (s t : StoredRule) → Extends log new → Becomes picked n first log s t → Becomes picked n first new s t
becomes_longer log new picked n first s t grows (inl stayed) = inl stayed
becomes_longer log new picked n first s t grows (inr (is, given)) =
    inr (
      is,
      record {
        place = given.place;
        becomes = given.becomes;
        at = grows given.place (record { modification = n; before = s.given }) given.at;
        past = given.past;
      },
    )

-- the giving that is appended
becomes_now : (log : List Giving) (picked : Bool) (n first : ℕ) (s t : StoredRule) → picked ≡ true → first ≤ length log → t ≡ record s { given = Some (length log) }
    → Becomes picked n first (log ++ record { modification = n; before = s.given } ∷ []) s t
becomes_now log picked n first s t is past made =
    inr (is, record { place = length log; becomes = made; at = slice_get-push log (record { modification = n; before = s.given }); past = past })

-- ---- all that are picked

-- the same by a test that picks the same
pub given_as : (picked same : ℕ → StoredRule → Bool) (n : ℕ) (log new : List Giving) (stored now : List StoredRule) → ((i : ℕ) (s : StoredRule) → slice_get stored i ≡ Some s → picked i s ≡ same i s)
    → AreGiven picked n log new stored now → AreGiven same n log new stored now
given_as picked same n log new stored now alike given = record {
  grows = given.grows;
  count = given.count;
  each = λ i s t there here. subst (λ (b : Bool). Becomes b n (length log) new s t) (alike i s there) (given.each i s t there here);
}

-- the same as the code comes to it
pub given_moved : (e f : Edit) (n k : ℕ) (log old new : List Giving) (stored from now to : List StoredRule) → f ≡ e → k ≡ n → old ≡ log → from ≡ stored → to ≡ now
    → AreGiven (λ i. acts_on e) n log new stored now → AreGiven (λ i. acts_on f) k old new from to
given_moved e f n k log old new stored from now to same_edit same_place same_log same becomes given =
    subst (λ (g : Edit). AreGiven (λ i. acts_on g) k old new from to) (sym same_edit)
    (subst (λ (m : ℕ). AreGiven (λ i. acts_on e) m old new from to) (sym same_place)
    (subst (λ (g : List Giving). AreGiven (λ i. acts_on e) n g new from to) (sym same_log)
    (subst (λ (xs : List StoredRule). AreGiven (λ i. acts_on e) n log new xs to) (sym same)
    (subst (λ (ys : List StoredRule). AreGiven (λ i. acts_on e) n log new stored ys) (sym becomes) given))))

-- ---- all that are picked, up to a place

-- How far the giving has come.
pub record IsDoneTo (picked : ℕ → StoredRule → Bool) (n : ℕ) (log : List Giving) (stored : List StoredRule) (i : ℕ) (new : List Giving) (now : List StoredRule) : Type 0 where
  pub grows : Extends log new
  pub count : length now ≡ length stored
  pub done : (k : ℕ) (s t : StoredRule) → k < i → slice_get stored k ≡ Some s → slice_get now k ≡ Some t → Becomes (picked k s) n (length log) new s t
  pub left : (k : ℕ) → i ≤ k → slice_get now k ≡ slice_get stored k

module _ (picked : ℕ → StoredRule → Bool) (n : ℕ) (log : List Giving) (stored : List StoredRule) where
  pub done_none : IsDoneTo picked n log stored 0 log stored
  done_none = record { grows = λ place g at. at; count = refl; done = λ k s t lt. absurd (omega arith); left = λ k le. refl }

  pub done_all : (i : ℕ) (new : List Giving) (now : List StoredRule) → length stored ≤ i → IsDoneTo picked n log stored i new now → AreGiven picked n log new stored now
  done_all i new now all done = record {
    grows = done.grows;
    count = done.count;
    each = λ k s t there here. let within : k < length stored = slice_get_within stored k s there in done.done k s t (omega arith) there here;
  }

  module _ (i : ℕ) (new : List Giving) (now : List StoredRule) (so_far : IsDoneTo picked n log stored i new now) (x : StoredRule) (at : slice_get now i ≡ Some x) where
    at_first : slice_get stored i ≡ Some x
    at_first = sym (so_far.left i (omega arith)) ∙ at

    pub done_kept : picked i x ≡ false → IsDoneTo picked n log stored (i + 1) new now
    done_kept idle = record {
      grows = so_far.grows;
      count = so_far.count;
      done = λ k s t lt there here.
          elim (cases_lt k i) [
            | inl before ↦ so_far.done k s t before there here
            | inr past ↦
                let is : i ≡ k = omega arith in
                let same : x ≡ s = same_Some x s (sym at_first ∙ ap (slice_get stored) is ∙ there) in
                let now_same : t ≡ x = same_Some t x (sym here ∙ ap (slice_get now) (sym is) ∙ at) in
                inl (ap (picked k) (sym same) ∙ ap (λ (j : ℕ). picked j x) (sym is) ∙ idle, now_same ∙ same)
          ];
      left = λ k le. so_far.left k (omega arith);
    }

    pub done_given : picked i x ≡ true → length log ≤ length new
        → IsDoneTo picked n log stored (i + 1) (new ++ record { modification = n; before = x.given } ∷ []) (slice_set now i (record x { given = Some (length new) }))
    done_given acts longer = record {
      grows = λ place g there. extends_push new (record { modification = n; before = x.given }) place g (so_far.grows place g there);
      count = length-slice_set now i (record x { given = Some (length new) }) ∙ so_far.count;
      done = λ k s t lt there here.
          elim (set_cases now i k (record x { given = Some (length new) }) t here) [
            | inl (is, made) ↦
                let same : x ≡ s = same_Some x s (sym at_first ∙ ap (slice_get stored) (sym is) ∙ there) in
                subst (λ (z : StoredRule). Becomes (picked k z) n (length log) (new ++ record { modification = n; before = x.given } ∷ []) z t) same
                (becomes_now new (picked k x) n (length log) x t (ap (λ (j : ℕ). picked j x) is ∙ acts) longer made)
            | inr (other, kept) ↦
                becomes_longer new (new ++ record { modification = n; before = x.given } ∷ []) (picked k s) n (length log) s t (extends_push new (record { modification = n; before = x.given }))
                (so_far.done k s t (omega arith) there kept)
          ];
      left = λ k le. set_past now i k (record x { given = Some (length new) }) (omega arith) ∙ so_far.left k (omega arith);
    }

-- ---- how many were given so far

module _ (e : Edit) (n : ℕ) (log : List Giving) (stored : List StoredRule) (i : ℕ) (new : List Giving) (now : List StoredRule) (so_far : IsDoneTo (λ k. acts_on e) n log stored i new now) (x : StoredRule) (at : slice_get now i ≡ Some x) where
  there : slice_get stored i ≡ Some x
  there = at_first (λ k. acts_on e) n log stored i new now so_far x at

  here : acts_on e (get_or stored i x) ≡ acts_on e x
  here = ap (acts_on e) (get_or_from_slice_get stored i x x there)

  pub counted_next : acts_on e x ≡ true → (count_by (acts_on e) (take (i + 1) stored) ≡ count_by (acts_on e) (take i stored) + 1) × (count_by (acts_on e) (take (i + 1) stored) ≤ count_by (acts_on e) stored)
  counted_next acts = (count_by_more_yes (acts_on e) stored i x (slice_get_within stored i x there) (here ∙ acts), count_by-take (acts_on e) (i + 1) stored)

  pub counted_same : acts_on e x ≡ false → count_by (acts_on e) (take (i + 1) stored) ≡ count_by (acts_on e) (take i stored)
  counted_same idle = count_by_more_no (acts_on e) stored i x (slice_get_within stored i x there) (here ∙ idle)

pub done_moved : (picked : ℕ → StoredRule → Bool) (n : ℕ) (log : List Giving) (stored : List StoredRule) (i : ℕ) (new other : List Giving) (now moved : List StoredRule) → other ≡ new → moved ≡ now
    → IsDoneTo picked n log stored i new now → IsDoneTo picked n log stored i other moved
done_moved picked n log stored i new other now moved same_log same done =
    subst (λ (g : List Giving). IsDoneTo picked n log stored i g moved) (sym same_log) (subst (λ (s : List StoredRule). IsDoneTo picked n log stored i new s) (sym same) done)
