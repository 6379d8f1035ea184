-- The part of a list whose keys rise that has the keys past one number, up to another.
use Rattle.std.proofs.Common.{◌≡◌, ℕ, zero, suc, ◌+◌, ◌≤◌, ◌<◌, true, false, List, [], ◌∷◌, ◌++◌, length, take, drop, Some, sym, ap, ◌∙◌, subst, arith, ◌⊎◌, inl, inr, zero-add}
use Rattle.std.specs.Prelude.{slice_get, slice_index_or, nat_le}
use Rattle.std.specs.List.Sorted.{IsPartitionPoint, IsNonDecreasingBy}
use Rattle.std.proofs.lemmas.List.{take-append-drop}
use Rattle.std.proofs.lemmas.List.Sorted.{IsNonDecreasingBy-drop}
use Rattle.std.proofs.lemmas.Bool.{cases_lt, leb-true, leb-false}
use Rattle.std.proofs.lemmas.Option.{none-some, same_Some, slice_get_within, slice_get-get_or}
use Rattle.rule_tables.specs.declared.stored.StoredRule.{StoredRule}
use Rattle.rule_tables.specs.Ends.{IsBetween}
use Rattle.rule_tables.specs.Stored.{AreInOrder}
use Rattle.rule_tables.proofs.FilterMaps.{slice_get-take, slice_get-append}

-- ---- where elements stand

pub in_take : {X : Type 0} (n : ℕ) (xs : List X) (i : ℕ) (x : X) → slice_get (take n xs) i ≡ Some x → i < n
in_take zero [] i x at = absurd (none-some x at)
in_take zero (y ∷ ys) i x at = absurd (none-some x at)
in_take (suc n) [] i x at = absurd (none-some x at)
in_take (suc n) (y ∷ ys) zero x at = omega arith
in_take (suc n) (y ∷ ys) (suc i) x at = let within : i < n = in_take n ys i x at in omega arith

pub from_drop : {X : Type 0} (n : ℕ) (xs : List X) (i : ℕ) (x : X) → slice_get (drop n xs) i ≡ Some x → (j : ℕ) × (n ≤ j) × (slice_get xs j ≡ Some x)
from_drop zero [] i x at = absurd (none-some x at)
from_drop zero (y ∷ ys) i x at = (i, omega arith, at)
from_drop (suc n) [] i x at = absurd (none-some x at)
from_drop (suc n) (y ∷ ys) i x at =
    let from = from_drop n ys i x at in
    let past : n ≤ from.0 = from.1 in
    (suc from.0, omega arith, from.2)

-- behind other elements
pub behind : {X : Type 0} (xs ys : List X) (i : ℕ) → slice_get (xs ++ ys) (length xs + i) ≡ slice_get ys i
behind [] ys i = ap (slice_get ys) (zero-add i)
behind (x ∷ xs) ys i =
    let next : length (x ∷ xs) + i ≡ suc (length xs + i) = omega arith in
    ap (slice_get (x ∷ (xs ++ ys))) next ∙ behind xs ys i

pub append_cases : {X : Type 0} (xs ys : List X) (i : ℕ) (x : X) → slice_get (xs ++ ys) i ≡ Some x → (slice_get xs i ≡ Some x) ⊎ ((j : ℕ) × (slice_get ys j ≡ Some x))
append_cases [] ys i x at = inr (i, at)
append_cases (y ∷ xs) ys zero x at = inl at
append_cases (y ∷ xs) ys (suc i) x at = append_cases xs ys i x at

-- ---- by two searches

module _ {X : Type 0} (key : X → ℕ) (n : ℕ) (xs : List X) (i : ℕ) (halves : IsPartitionPoint (λ (x : X). nat_le (key x) n ≡ true) (λ (x : X). nat_le (key x) n ≡ false) xs i) where
  pub below_point : (k : ℕ) (x : X) → k < i → slice_get xs k ≡ Some x → key x ≤ n
  below_point k x lt at =
      let same : slice_index_or xs k x ≡ x = same_Some _ x (sym (slice_get-get_or xs k x (slice_get_within xs k x at)) ∙ at) in
      leb-true (key x) n (subst (λ (y : X). nat_le (key y) n ≡ true) same (halves.0 k x (omega arith) lt))

  pub past_point : (k : ℕ) (x : X) → i ≤ k → slice_get xs k ≡ Some x → n < key x
  past_point k x le at =
      let same : slice_index_or xs k x ≡ x = same_Some _ x (sym (slice_get-get_or xs k x (slice_get_within xs k x at)) ∙ at) in
      leb-false (key x) n (subst (λ (y : X). nat_le (key y) n ≡ false) same (halves.1 k x le (slice_get_within xs k x at)))

pub between : {X : Type 0} (key : X → ℕ) (before after : ℕ) (xs later part : List X) (first count : ℕ)
    → IsPartitionPoint (λ (x : X). nat_le (key x) before ≡ true) (λ (x : X). nat_le (key x) before ≡ false) xs first
    → IsPartitionPoint (λ (x : X). nat_le (key x) after ≡ true) (λ (x : X). nat_le (key x) after ≡ false) later count
    → later ≡ drop first xs → part ≡ take count later → IsBetween key before after xs part
between {X} key before after xs later part first count low high rest is =
    subst (λ (p : List X). IsBetween key before after xs p) (sym is) (record {
      earlier = take first xs;
      later = drop count later;
      whole =
          sym (take-append-drop first xs)
          ∙ ap (λ (ys : List X). take first xs ++ ys) (sym rest ∙ sym (take-append-drop count later));
      up_to = λ i x at. below_point key before xs first low i x (in_take first xs i x at) (slice_get-take first xs i x at);
      past = λ i x at.
          let from = from_drop first xs i x (ap (λ (ys : List X). slice_get ys i) (sym rest) ∙ slice_get-take count later i x at) in
          past_point key before xs first low from.0 x from.1 from.2;
      within = λ i x at. below_point key after later count high i x (in_take count later i x at) (slice_get-take count later i x at);
      beyond = λ i x at. let from = from_drop count later i x at in past_point key after later count high from.0 x from.1 from.2;
    })

-- keys that rise from place to place
pub keys_rise : {X : Type 0} (key : X → ℕ) (xs : List X) → ((i j : ℕ) (x y : X) → slice_get xs i ≡ Some x → slice_get xs j ≡ Some y → i < j → key x ≤ key y) → IsNonDecreasingBy key xs
keys_rise {X} key xs rises i j d le within =
    elim (cases_lt i j) [
      | inl lt ↦ rises i j (slice_index_or xs i d) (slice_index_or xs j d) (slice_get-get_or xs i d (omega arith)) (slice_get-get_or xs j d within) lt
      | inr ge ↦ let same : i ≡ j = omega arith in subst (λ (k : ℕ). key (slice_index_or xs i d) ≤ key (slice_index_or xs k d)) same (omega arith)
    ]

pub later_rise : {X : Type 0} (key : X → ℕ) (xs later : List X) (n : ℕ) → later ≡ drop n xs → IsNonDecreasingBy key xs → IsNonDecreasingBy key later
later_rise {X} key xs later n is rises = subst (λ (ys : List X). IsNonDecreasingBy key ys) (sym is) (IsNonDecreasingBy-drop key n xs rises)

pub numbers_rise : (xs : List StoredRule) → AreInOrder xs → IsNonDecreasingBy (λ (s : StoredRule). s.rule.number) xs
numbers_rise xs in_order =
    keys_rise (λ (s : StoredRule). s.rule.number) xs (λ i j s t at there lt. let rises : s.rule.number < t.rule.number = in_order i j s t at there lt in omega arith)

-- ---- what is in it

module _ {X : Type 0} (key : X → ℕ) (before after : ℕ) (xs part : List X) (is : IsBetween key before after xs part) where
  -- where an element of the part stands in the whole
  pub part_at : (i : ℕ) (x : X) → slice_get part i ≡ Some x → slice_get xs (length is.earlier + i) ≡ Some x
  part_at i x at =
      ap (λ (ys : List X). slice_get ys (length is.earlier + i)) is.whole ∙ behind is.earlier (part ++ is.later) i
      ∙ slice_get-append part is.later i (slice_get_within part i x at) ∙ at

  -- an element of such a key is in the part
  pub in_part : (i : ℕ) (x : X) → slice_get xs i ≡ Some x → before < key x → key x ≤ after → (j : ℕ) × (slice_get part j ≡ Some x)
  in_part i x at past within =
      elim (append_cases is.earlier (part ++ is.later) i x (ap (λ (ys : List X). slice_get ys i) (sym is.whole) ∙ at)) [
        | inl early ↦ let low : key x ≤ before = is.up_to i x early in absurd (omega arith)
        | inr (j, rest) ↦ elim (append_cases part is.later j x rest) [
          | inl here ↦ (j, here)
          | inr (k, late) ↦ let high : after < key x = is.beyond k x late in absurd (omega arith)
        ]
      ]
