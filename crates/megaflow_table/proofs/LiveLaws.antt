-- Numbers that rise: the least one above a number, and those without one.
use Rattle.std.proofs.Common.{◌≡◌, ℕ, zero, suc, ◌<◌, ◌≤◌, true, false, List, [], ◌∷◌, length, get_or, Some, None, Ok, Err, refl, sym, ap, subst, ◌∙◌, inl, inr, arith}
use Rattle.std.specs.Prelude.{nat_le, nat_lt, ◌==◌, not, filter}
use Rattle.std.specs.List.{find, remove}
use Rattle.std.specs.List.Sorted.{IsBinarySearchResult}
use Rattle.std.specs.Ordering.{nat_cmp}
use Rattle.std.proofs.lemmas.List.Sorted.{searched}
use Rattle.std.proofs.lemmas.Bool.{cond-true, cond-false, le-leb, leb-true, lt-ltb, le-ltb, false≢true, cases_lt, eq-eqb, ne_eqb}
use Rattle.megaflow_table.specs.Live.{IsIn, IsRising}

pub in_get : (xs : List ℕ) (k d : ℕ) → k < length xs → IsIn (get_or xs k d) xs
in_get [] k d lt = absurd (omega arith)
in_get (x ∷ xs) zero d lt = inl refl
in_get (x ∷ xs) (suc k) d lt = inr (in_get xs k d (omega arith))

pub rising_get : (xs : List ℕ) → IsRising xs → (i j d : ℕ) → i ≤ j → j < length xs → get_or xs i d ≤ get_or xs j d
rising_get [] rising i j d le lt = absurd (omega arith)
rising_get (x ∷ xs) rising zero zero d le lt = omega arith
rising_get (x ∷ xs) rising zero (suc j) d le lt = let below : x < get_or xs j d = rising.0 (get_or xs j d) (in_get xs j d (omega arith)) in omega (arith, below)
rising_get (x ∷ xs) rising (suc i) zero d le lt = absurd (omega arith)
rising_get (x ∷ xs) rising (suc i) (suc j) d le lt = rising_get xs rising.1 i j d (omega arith) (omega arith)

pub partitioned : (number : ℕ) (xs : List ℕ) → IsRising xs → (i j d : ℕ) → i ≤ j → j < length xs → nat_le (get_or xs j d) number ≡ true → nat_le (get_or xs i d) number ≡ true
partitioned number xs rising i j d le lt pass =
    let below = rising_get xs rising i j d le lt in
    let fits : get_or xs j d ≤ number = leb-true (get_or xs j d) number pass in
    le-leb (get_or xs i d) number (omega (arith, below, fits))

above : (x number : ℕ) → nat_le x number ≡ false → nat_lt number x ≡ true
above x number fails = elim (cases_lt number x) [ inl lt ↦ lt-ltb number x lt | inr le ↦ absurd (false≢true (sym fails ∙ le-leb x number le)) ]

pub first_above : (number : ℕ) (xs : List ℕ) (i : ℕ) → ((k d : ℕ) → 0 ≤ k → k < i → nat_le (get_or xs k d) number ≡ true) → ((k d : ℕ) → i ≤ k → k < length xs → nat_le (get_or xs k d) number ≡ false)
    → i < length xs → find (λ n. nat_lt number n) xs ≡ Some (get_or xs i 0)
first_above number [] i low high within = absurd (omega arith)
first_above number (x ∷ xs) zero low high within = cond-true (nat_lt number x) (Some x) (find (λ n. nat_lt number n) xs) (above x number (high 0 x (omega arith) (omega arith)))
first_above number (x ∷ xs) (suc i) low high within =
    cond-false (nat_lt number x) (Some x) (find (λ n. nat_lt number n) xs) (le-ltb number x (leb-true x number (low 0 x (omega arith) (omega arith))))
    ∙ first_above number xs i (λ k d le lt. low (suc k) d (omega arith) (omega arith)) (λ k d le lt. high (suc k) d (omega arith) (omega arith)) (omega arith)

pub none_above : (number : ℕ) (xs : List ℕ) (i : ℕ) → ((k d : ℕ) → 0 ≤ k → k < i → nat_le (get_or xs k d) number ≡ true) → length xs ≤ i → find (λ n. nat_lt number n) xs ≡ None
none_above number [] i low past = refl
none_above number (x ∷ xs) zero low past = absurd (omega arith)
none_above number (x ∷ xs) (suc i) low past =
    cond-false (nat_lt number x) (Some x) (find (λ n. nat_lt number n) xs) (le-ltb number x (leb-true x number (low 0 x (omega arith) (omega arith))))
    ∙ none_above number xs i (λ k d le lt. low (suc k) d (omega arith) (omega arith)) (omega arith)

-- ---- one taken out

-- numbers that are all greater stay
all_stay : (number : ℕ) (xs : List ℕ) → ((n : ℕ) → IsIn n xs → number < n) → filter (λ n. not (n == number)) xs ≡ xs
all_stay number [] above = refl
all_stay number (x ∷ xs) above =
    let lt : number < x = above x (inl refl) in
    let other : (x == number) ≡ false = ne_eqb x number (λ equal. omega (arith, lt, equal)) in
    cond-true (not (x == number)) (x ∷ filter (λ n. not (n == number)) xs) (filter (λ n. not (n == number)) xs) (ap not other)
    ∙ ap (λ (ys : List ℕ). x ∷ ys) (all_stay number xs (λ n is_in. above n (inr is_in)))

pub removed_at : (number : ℕ) (xs : List ℕ) → IsRising xs → (i : ℕ) → i < length xs → get_or xs i 0 ≡ number → remove xs i ≡ filter (λ n. not (n == number)) xs
removed_at number [] rising i lt at = absurd (omega arith)
removed_at number (x ∷ xs) rising zero lt at =
    sym (all_stay number xs (λ n is_in. subst (λ (m : ℕ). m < n) at (rising.0 n is_in)))
    ∙ sym (cond-false (not (x == number)) (x ∷ filter (λ n. not (n == number)) xs) (filter (λ n. not (n == number)) xs) (ap not (eq-eqb x number at)))
removed_at number (x ∷ xs) rising (suc i) lt at =
    let below : x < get_or xs i 0 = rising.0 (get_or xs i 0) (in_get xs i 0 (omega arith)) in
    let other : (x == number) ≡ false = ne_eqb x number (λ equal. omega (arith, below, at, equal)) in
    ap (λ (ys : List ℕ). x ∷ ys) (removed_at number xs rising.1 i (omega arith) at)
    ∙ sym (cond-true (not (x == number)) (x ∷ filter (λ n. not (n == number)) xs) (filter (λ n. not (n == number)) xs) (ap not other))

-- where a number stands that is among them
pub stands_at : (number : ℕ) (xs : List ℕ) → IsIn number xs → (i : ℕ) × (i < length xs) × (get_or xs i 0 ≡ number)
stands_at number [] none = absurd none
stands_at number (x ∷ xs) (inl equal) = (0, omega arith, sym equal)
stands_at number (x ∷ xs) (inr later) = let there = stands_at number xs later in let lt : there.0 < length xs = there.1 in (suc there.0, omega (arith, lt), there.2)

-- a binary search for a number that is among them finds where it stands
pub searched_at : (number : ℕ) (xs : List ℕ) → IsRising xs → (i : ℕ) → IsBinarySearchResult (λ y. nat_cmp y number) xs (Ok i) → (i < length xs) × (get_or xs i 0 ≡ number)
searched_at number xs rising i position = searched xs number (Ok i) position (λ a b le lt. rising_get xs rising a b 0 le lt)

pub not_missed : (number : ℕ) (xs : List ℕ) → IsRising xs → IsIn number xs → (i : ℕ) → IsBinarySearchResult (λ y. nat_cmp y number) xs (Err i) → ⊥
not_missed number xs rising is_in i position =
    let gap = searched xs number (Err i) position (λ a b le lt. rising_get xs rising a b 0 le lt) in
    let there = stands_at number xs is_in in
    elim (cases_lt there.0 i) [
      | inl before ↦ let less : get_or xs there.0 0 < number = gap.1 there.0 before in omega (arith, less, there.2)
      | inr behind ↦ let more : number < get_or xs there.0 0 = gap.2 there.0 behind there.1 in omega (arith, more, there.2)
    ]
