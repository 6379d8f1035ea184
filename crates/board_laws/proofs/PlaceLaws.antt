-- What stands at a place after a write, and how many places are pending.
use Rattle.std.proofs.Common.{◌≡◌, ◌⊎◌, inl, inr, ℕ, zero, suc, ◌+◌, ◌-◌, ◌<◌, ◌≤◌, ◌==◌, Bool, true, false, if◌then◌else◌, List, [], ◌∷◌, length, slice_index_or, slice_set, length-set, replicate, count_by, refl, sym, ap, ◌∙◌, subst, arith}
use Rattle.std.proofs.lemmas.Bool.{ne_eqb, cases_eq, cases_lt, cond-false, false≢true}
use Rattle.std.proofs.lemmas.List.Sums.{sum_by-cons, sum_by-set}
use Rattle.std.proofs.lemmas.List.{get_or-set_same, get_or-set_other}
use Rattle.spec_actions.specs.declared.action.DpAction.{DpAction}
use Rattle.spec_board.specs.State.{Place, Waiting, Pending, Decided, is_pending}

-- what stands at a place of a list, counted from 1
abbrev pub at : ℕ → List Place → Place
at place places = if place == 0 then Waiting else slice_index_or places (place - 1) Waiting

pub at_there : (places : List Place) (place : ℕ) → 1 ≤ place → at place places ≡ slice_index_or places (place - 1) Waiting
at_there places place first = cond-false (place == 0) _ _ (ne_eqb place 0 (λ e. omega (arith, first, e)))

-- a write to a place is what is there then
pub at_written : (places : List Place) (place : ℕ) (p : Place) → 1 ≤ place → place ≤ length places → at place (slice_set places (place - 1) p) ≡ p
at_written places place p first last =
    at_there (slice_set places (place - 1) p) place first ∙ get_or-set_same places (place - 1) p Waiting (omega (arith, first, last))

-- and no other place changes
pub at_others : (places : List Place) (place other : ℕ) (p : Place) → 1 ≤ place → (other ≡ place → ⊥) → at other (slice_set places (place - 1) p) ≡ at other places
at_others places place other p first differ = by_cases (cases_eq other 0)
  where
    by_cases : (other ≡ 0) ⊎ (other ≡ 0 → ⊥) → at other (slice_set places (place - 1) p) ≡ at other places
    by_cases (inl e) = rw e refl
    by_cases (inr n) =
        at_there (slice_set places (place - 1) p) other (omega (arith, n))
        ∙ get_or-set_other places (place - 1) (other - 1) p Waiting (λ e. differ (omega (arith, n, first, e)))
        ∙ sym (at_there places other (omega (arith, n)))

-- a pending place is one of the list
pub pending_from : (places : List Place) (place : ℕ) → is_pending (at place places) ≡ true → 1 ≤ place
pending_from places place h = by_cases (cases_eq place 0)
  where
    by_cases : (place ≡ 0) ⊎ (place ≡ 0 → ⊥) → 1 ≤ place
    by_cases (inl e) = absurd (false≢true (ap (λ i. is_pending (at i places)) (sym e) ∙ h))
    by_cases (inr n) = omega (arith, n)

beyond : (places : List Place) (i : ℕ) → length places ≤ i → slice_index_or places i Waiting ≡ Waiting
beyond [] i h = refl
beyond (p ∷ places) zero h = absurd (omega (arith, h))
beyond (p ∷ places) (suc i) h = beyond places i (omega (arith, h))

pub pending_upto : (places : List Place) (place : ℕ) → is_pending (at place places) ≡ true → place ≤ length places
pending_upto places place h = by_cases (cases_lt (length places) place)
  where
    first : 1 ≤ place
    first = pending_from places place h

    by_cases : (length places < place) ⊎ (place ≤ length places) → place ≤ length places
    by_cases (inl l) = absurd (false≢true (ap is_pending (sym (at_there places place first ∙ beyond places (place - 1) (omega (arith, l)))) ∙ h))
    by_cases (inr r) = r

-- where none is pending, none is
none_among : (places : List Place) (i : ℕ) → count_by is_pending places ≡ 0 → is_pending (slice_index_or places i Waiting) ≡ false
none_among [] i h = refl
none_among (Pending ∷ places) i h =
    let e : 1 + count_by is_pending places ≡ 0 = sym (sum_by-cons (λ p. if is_pending p then 1 else 0) Pending places) ∙ h in
    absurd (omega (arith, e))
none_among (Waiting ∷ places) zero h = refl
none_among (Waiting ∷ places) (suc i) h = none_among places i h
none_among (Decided v actions ∷ places) zero h = refl
none_among (Decided v actions ∷ places) (suc i) h = none_among places i h

pub none_pending : (places : List Place) (place : ℕ) → count_by is_pending places ≡ 0 → is_pending (at place places) ≡ true → ⊥
none_pending places place none h =
    false≢true (sym (none_among places (place - 1) none) ∙ ap is_pending (sym (at_there places place (pending_from places place h))) ∙ h)

-- a write leaves a place as it was, or makes it what is written
pub at_either : (places : List Place) (place : ℕ) (p : Place) → 1 ≤ place → (at place (slice_set places (place - 1) p) ≡ p) ⊎ (at place (slice_set places (place - 1) p) ≡ Waiting)
at_either places place p first = by_cases (cases_lt (length places) place)
  where
    by_cases : (length places < place) ⊎ (place ≤ length places) → (at place (slice_set places (place - 1) p) ≡ p) ⊎ (at place (slice_set places (place - 1) p) ≡ Waiting)
    by_cases (inl l) =
        inr (at_there (slice_set places (place - 1) p) place first
        ∙ beyond (slice_set places (place - 1) p) (place - 1) (omega (arith, l, length-set places (place - 1) p)))
    by_cases (inr r) = inl (at_written places place p first r)

-- ---- how many are pending

counts_written : (places : List Place) (place : ℕ) (p : Place) → 1 ≤ place → place ≤ length places
    → count_by is_pending (slice_set places (place - 1) p) + (if is_pending (at place places) then 1 else 0)
    ≡ count_by is_pending places + (if is_pending p then 1 else 0)
counts_written places place p first last =
    ap (λ x. count_by is_pending (slice_set places (place - 1) p) + (if is_pending x then 1 else 0)) (at_there places place first)
    ∙ sum_by-set (λ x. if is_pending x then 1 else 0) places (place - 1) p Waiting (omega (arith, first, last))

-- where a waiting place is written, those that are pending are as many as before and the new one
pub waiting_written : (places : List Place) (place : ℕ) (p : Place) → 1 ≤ place → place ≤ length places → at place places ≡ Waiting
    → count_by is_pending (slice_set places (place - 1) p) ≡ count_by is_pending places + (if is_pending p then 1 else 0)
waiting_written places place p first last waits =
    let c = counts_written places place p first last in
    let P : Place → Type 0 = λ x.
    count_by is_pending (slice_set places (place - 1) p) + (if is_pending x then 1 else 0)
    ≡ count_by is_pending places + (if is_pending p then 1 else 0) in
    let d = subst P waits c in omega (arith, d)

pub pending_written : (places : List Place) (place : ℕ) → 1 ≤ place → place ≤ length places → at place places ≡ Waiting
    → count_by is_pending (slice_set places (place - 1) Pending) ≡ count_by is_pending places + 1
pending_written places place first last waits = waiting_written places place Pending first last waits

-- where a pending place is decided, one is pending less
pub decided_written : (places : List Place) (place v : ℕ) (actions : List DpAction) → is_pending (at place places) ≡ true
    → count_by is_pending (slice_set places (place - 1) (Decided v actions)) + 1 ≡ count_by is_pending places
decided_written places place v actions pends =
    let c = counts_written places place (Decided v actions) (pending_from places place pends) (pending_upto places place pends) in
    let P : Bool → Type 0 = λ t.
    count_by is_pending (slice_set places (place - 1) (Decided v actions)) + (if t then 1 else 0) ≡ count_by is_pending places + 0 in
    let d = subst P pends c in omega (arith, d)

-- ---- a new board

all_waiting : (n i : ℕ) → slice_index_or (replicate n Waiting) i Waiting ≡ Waiting
all_waiting zero i = refl
all_waiting (suc n) zero = refl
all_waiting (suc n) (suc i) = all_waiting n i

pub waiting_at : (n place : ℕ) → at place (replicate n Waiting) ≡ Waiting
waiting_at n place = by_cases (cases_eq place 0)
  where
    by_cases : (place ≡ 0) ⊎ (place ≡ 0 → ⊥) → at place (replicate n Waiting) ≡ Waiting
    by_cases (inl e) = rw e refl
    by_cases (inr differ) = at_there (replicate n Waiting) place (omega (arith, differ)) ∙ all_waiting n (place - 1)

pub none_pending_yet : (n : ℕ) → count_by is_pending (replicate n Waiting) ≡ 0
none_pending_yet zero = refl
none_pending_yet (suc n) =
    sum_by-cons (λ p. if is_pending p then 1 else 0) Waiting (replicate n Waiting) ∙ (let e = none_pending_yet n in omega (arith, e))
