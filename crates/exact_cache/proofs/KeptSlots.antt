-- What the kept slots hold, and how many there can be.
use Rattle.std.proofs.Common.{◌≡◌, ℕ, zero, suc, ◌+◌, ◌-◌, ◌<◌, ◌≤◌, Bool, true, false, cond, ◌==◌, nat_eq, List, [], ◌∷◌, ◌++◌, length, length-append, get_or, set, replicate, map, Option, Some, None, inl, inr, refl, sym, ap, ap₂, subst, ◌∙◌, ◌⊎◌, arith}
use Rattle.std.specs.Prelude.{if◌then◌else◌, slice_get, vec_capacity}
use Rattle.std.specs.List.{find, list_any, IsDistinct, AllByRecursion}
use Rattle.std.specs.Option.{option_map, option_or, is_none}
use Rattle.std.proofs.lemmas.Bool.{cases_Bool, cases_eq, cond-true, cond-false, eqb-true, eqb-false, eq-eqb, ne_eqb, or_cases, false≢true}
use Rattle.std.proofs.lemmas.List.{length-map, length-replicate, get_or-set_same, get_or-set_other}
use Rattle.std.proofs.lemmas.Map.Steps.{length-le_from_distinct_below}
use Rattle.std.proofs.lemmas.Option.{none-some, same_Some, slice_get-get_or}
use Rattle.std.proofs.Math.ListN.{length-set}
use Rattle.spec_keys.specs.Keys.{same}
use Rattle.spec_keys.specs.Hash.{key_hash}
use Rattle.spec_board.specs.State.{Slot}
use Rattle.spec_board.specs.Cache.{slot_count, first_slot, second_slot, slot_at, holds, cached, slot_for, with_cached}
use Rattle.ovs_fields.specs.Packed.{numbers}
use Rattle.ovs_fields.specs.Equality.{equal_from_same}
use Rattle.exact_cache.specs.declared.kept.Kept.{Kept}
use Rattle.exact_cache.specs.declared.slots.Indexed.{Indexed}
use Rattle.exact_cache.specs.declared.slots.KeptSlots.{KeptSlots}
use Rattle.exact_cache.specs.SameSlots.{AreSameSlots}
use Rattle.exact_cache.specs.Kept.{slot_of, slots_view, tag_of, places, tags, kept_at, kept_in, kept_of, entry_in, slot_of_two, IsCache}

-- ---- what a slot holds

-- the first that passes is the only one
find_only : {X : Type 0} (p : X → Bool) (xs : List X) (i : ℕ) (x : X) → slice_get xs i ≡ Some x → p x ≡ true → ((j : ℕ) (y : X) → slice_get xs j ≡ Some y → p y ≡ true → j ≡ i) → find p xs ≡ Some x
find_only p [] i x at passes only = absurd (none-some x at)
find_only p (y ∷ ys) zero x at passes only = cond-true (p y) (Some y) (find p ys) (ap p (same_Some y x at) ∙ passes) ∙ at
find_only p (y ∷ ys) (suc i) x at passes only =
    elim (cases_Bool (p y)) [
      | inl is ↦ let zeroth = only zero y refl is in absurd (omega (arith, zeroth))
      | inr fails ↦ cond-false (p y) (Some y) (find p ys) fails ∙ find_only p ys i x at passes (λ j z there holds. let next = only (suc j) z there holds in omega (arith, next))
    ]

find_none : {X : Type 0} (p : X → Bool) (xs : List X) → ((j : ℕ) (y : X) → slice_get xs j ≡ Some y → p y ≡ true → ⊥) → find p xs ≡ None
find_none p [] none = refl
find_none p (y ∷ ys) none =
    elim (cases_Bool (p y)) [
      | inl is ↦ absurd (none zero y refl is)
      | inr fails ↦ cond-false (p y) (Some y) (find p ys) fails ∙ find_none p ys (λ j z there holds. none (suc j) z there holds)
    ]

slot_at-map : (kept : List Kept) (number : ℕ) → slot_at (map slot_of kept) number ≡ option_map slot_of (find (λ (k : Kept). k.slot == number) kept)
slot_at-map [] number = refl
slot_at-map (k ∷ kept) number = at (k.slot == number) (slot_at-map kept number)
  where
    at : (t : Bool) → slot_at (map slot_of kept) number ≡ option_map slot_of (find (λ (o : Kept). o.slot == number) kept)
        → cond t (Some (slot_of k)) (slot_at (map slot_of kept) number) ≡ option_map slot_of (cond t (Some k) (find (λ (o : Kept). o.slot == number) kept))
    at true rest = refl
    at false rest = rest

-- what stands within a list is there
placed : (kept : List Kept) (place : ℕ) → place < length kept → (k : Kept) × (slice_get kept place ≡ Some k)
placed [] place lt = absurd (omega (arith, lt))
placed (k ∷ kept) place lt = (get_or (k ∷ kept) place k, slice_get-get_or (k ∷ kept) place k lt)

-- a slot of the view holds what is kept in it
pub slot_at-slots_view : (slots : KeptSlots) → IsCache slots → (number : ℕ) → slot_at (slots_view slots) number ≡ option_map slot_of (kept_in slots number)
slot_at-slots_view slots cache number = slot_at-map slots.kept.items number ∙ ap (option_map slot_of) (by (get_or (places slots) number 0) refl)
  where
    at_slot : (k : Kept) → (k.slot == number) ≡ true → get_or (places slots) k.slot 0 ≡ get_or (places slots) number 0
    at_slot k is = ap (λ (n : ℕ). get_or (places slots) n 0) (eqb-true k.slot number is)

    by : (at : ℕ) → get_or (places slots) number 0 ≡ at → find (λ (k : Kept). k.slot == number) slots.kept.items ≡ kept_at slots.kept.items at
    by zero none = find_none (λ (k : Kept). k.slot == number) slots.kept.items (λ j k there is. let here = cache.found j k there in let same_place = at_slot k is in omega (arith, here, same_place, none))
    by (suc place) some =
        let le = cache.within number in
        let there = placed slots.kept.items place (omega (arith, some, le)) in
        find_only (λ (k : Kept). k.slot == number) slots.kept.items place there.0 there.1
        (eq-eqb there.0.slot number (cache.own number there.0 (ap (kept_at slots.kept.items) some ∙ there.1)))
        (λ j k here is. let found = cache.found j k here in let same_place = at_slot k is in omega (arith, found, same_place, some))
        ∙ sym there.1

-- ---- the index

-- what the index has for a slot
listed : (f : Indexed → ℕ) (index : List Indexed) (number : ℕ) (i d : Indexed) → number < length index → i ≡ get_or index number d → get_or (map f index) number 0 ≡ f i
listed f [] number i d within is = absurd (omega (arith, within))
listed f (j ∷ index) zero i d within is = ap f (sym is)
listed f (j ∷ index) (suc number) i d within is = listed f index number i d (omega (arith, within)) is

pub place_listed : (slots : KeptSlots) (number : ℕ) (i : Indexed) → IsCache slots → number < slot_count → i ≡ get_or slots.index.items number i → get_or (places slots) number 0 ≡ i.place
place_listed slots number i cache within is = listed (λ (x : Indexed). x.place) slots.index.items number i i (omega (arith, within, cache.index)) is

pub tag_listed : (slots : KeptSlots) (number : ℕ) (i : Indexed) → IsCache slots → number < slot_count → i ≡ get_or slots.index.items number i → get_or (tags slots) number 0 ≡ i.tag
tag_listed slots number i cache within is = listed (λ (x : Indexed). x.tag) slots.index.items number i i (omega (arith, within, cache.index)) is

-- no key is kept in a slot that has no place
pub kept_of-no_place : (slots : KeptSlots) (key : List ℕ) (number : ℕ) → get_or (places slots) number 0 ≡ 0 → kept_of key (kept_in slots number) ≡ None
kept_of-no_place slots key number none = ap (λ (place : ℕ). kept_of key (kept_at slots.kept.items place)) none

-- nor a key whose hash has another tag
pub kept_of-other_tag : (slots : KeptSlots) (key : List ℕ) (hash number : ℕ) → IsCache slots → hash ≡ key_hash key
    → (get_or (tags slots) number 0 ≡ tag_of hash → ⊥) → kept_of key (kept_in slots number) ≡ None
kept_of-other_tag slots key hash number cache hashed other = at (kept_in slots number) refl
  where
    at : (kept : Option Kept) → kept_in slots number ≡ kept → kept_of key kept ≡ None
    at None is = refl
    at (Some k) is =
        elim (cases_Bool (same (numbers k.key) key)) [
          | inl alike ↦ absurd (other (cache.tag number k is ∙ ap tag_of (k.hashed ∙ ap key_hash (equal_from_same (numbers k.key) key alike) ∙ sym hashed)))
          | inr unlike ↦ cond-false (same (numbers k.key) key) (Some k) None unlike
        ]

-- the place that the index has for a slot is within what is kept
pub place_below : (slots : KeptSlots) (number : ℕ) (i : Indexed) → IsCache slots → number < slot_count → i ≡ get_or slots.index.items number i → 0 < i.place
    → i.place - 1 < length slots.kept.items
place_below slots number i cache within is written =
    let at = place_listed slots number i cache within is in
    let le = cache.within number in
    omega (arith, at, le, written)

-- a key is kept in a slot where it is what stands at the slot's place
pub kept_of-read : (slots : KeptSlots) (key : List ℕ) (number : ℕ) (i : Indexed) (k : Kept) → IsCache slots → number < slot_count → i ≡ get_or slots.index.items number i
    → 0 < i.place → k ≡ get_or slots.kept.items (i.place - 1) k → kept_of key (kept_in slots number) ≡ (if same (numbers k.key) key then Some k else None)
kept_of-read slots key number i k cache within is written there =
    let some : get_or (places slots) number 0 ≡ suc (i.place - 1) = place_listed slots number i cache within is ∙ omega (arith, written) in
    ap (λ (p : ℕ). kept_of key (kept_at slots.kept.items p)) some
    ∙ ap (kept_of key) (slice_get-get_or slots.kept.items (i.place - 1) k (place_below slots number i cache within is written) ∙ ap Some (sym there))

-- ---- looks

-- the entry that the first slot or else the second names, by what they hold
entry_by : List ℕ → Option Slot → Option ℕ → Option ℕ
entry_by key slot otherwise = if holds key slot then option_map (λ (s : Slot). s.entry) slot else otherwise

entry_by-slot_of : (key : List ℕ) (kept : Option Kept) (otherwise : Option ℕ)
    → entry_by key (option_map slot_of kept) otherwise ≡ option_or (entry_in key kept) otherwise
unfolding entry_by
entry_by-slot_of key None otherwise = refl
entry_by-slot_of key (Some k) otherwise = at (same (numbers k.key) key)
  where
    at : (t : Bool) → cond t (Some k.entry) otherwise ≡ option_or (cond t (Some k.entry) None) otherwise
    at true = refl
    at false = refl

option_or-none : (o : Option ℕ) → option_or o None ≡ o
option_or-none None = refl
option_or-none (Some n) = refl

pub cached-slots_view : (slots : KeptSlots) (key : List ℕ) → IsCache slots
    → cached (slots_view slots) key ≡ option_or (entry_in key (kept_in slots (first_slot key))) (entry_in key (kept_in slots (second_slot key)))
unfolding entry_by
cached-slots_view slots key cache =
    let first = kept_in slots (first_slot key) in
    let second = kept_in slots (second_slot key) in
    ap₂ (λ (x y : Option Slot). entry_by key x (entry_by key y None)) (slot_at-slots_view slots cache (first_slot key)) (slot_at-slots_view slots cache (second_slot key))
    ∙ entry_by-slot_of key first (entry_by key (option_map slot_of second) None)
    ∙ ap (option_or (entry_in key first)) (entry_by-slot_of key second None ∙ option_or-none (entry_in key second))

-- a key that is kept in its first slot
pub cached-in_first : (slots : KeptSlots) (key : List ℕ) (place : ℕ) (k : Kept) → IsCache slots → slice_get slots.kept.items place ≡ Some k
    → same (numbers k.key) key ≡ true → k.slot ≡ first_slot key → cached (slots_view slots) key ≡ Some k.entry
cached-in_first slots key place k cache at alike is =
    let found = cache.found place k at in
    let placed_at : get_or (places slots) k.slot 0 ≡ suc place = omega (arith, found) in
    let there : kept_in slots (first_slot key) ≡ Some k = ap (λ (n : ℕ). kept_in slots n) (sym is) ∙ ap (kept_at slots.kept.items) placed_at ∙ at in
    let second = entry_in key (kept_in slots (second_slot key)) in
    cached-slots_view slots key cache
    ∙ ap (λ (o : Option Kept). option_or (entry_in key o) second) there
    ∙ ap (λ (o : Option ℕ). option_or o second) (cond-true (same (numbers k.key) key) (Some k.entry) None alike)

-- ---- the slot where a key is put

-- the slot of two where a key is put, by what they hold
slot_by : List ℕ → ℕ → ℕ → Option Slot → Option Slot → ℕ
slot_by key first second x y =
    if holds key x then first
    else (if holds key y then second
    else (if is_none x then first
    else (if is_none y then second
    else first)))

slot_by-slot_of : (key : List ℕ) (first second : ℕ) (a b : Option Kept)
    → slot_by key first second (option_map slot_of a) (option_map slot_of b) ≡ slot_of_two key first a second b
unfolding slot_by
slot_by-slot_of key first second None None = refl
slot_by-slot_of key first second None (Some b) = refl
slot_by-slot_of key first second (Some a) None = refl
slot_by-slot_of key first second (Some a) (Some b) = refl

pub slot_for-slots_view : (slots : KeptSlots) (key : List ℕ) → IsCache slots
    → slot_for (slots_view slots) key ≡ slot_of_two key (first_slot key) (kept_in slots (first_slot key)) (second_slot key) (kept_in slots (second_slot key))
unfolding slot_by
slot_for-slots_view slots key cache =
    ap₂ (slot_by key (first_slot key) (second_slot key)) (slot_at-slots_view slots cache (first_slot key)) (slot_at-slots_view slots cache (second_slot key))
    ∙ slot_by-slot_of key (first_slot key) (second_slot key) (kept_in slots (first_slot key)) (kept_in slots (second_slot key))

-- ---- writes

-- the slots after a key is put are those of the definition
pub written-with_cached : (old new : KeptSlots) (slots : List Slot) (key : List ℕ) (entry : ℕ) (kept : Kept) → IsCache old → IsCache new
    → slots_view old ≡ slots → kept.slot ≡ slot_for (slots_view old) key → numbers kept.key ≡ key → kept.entry ≡ entry
    → ((n : ℕ) → kept_in new n ≡ (if kept.slot == n then Some kept else kept_in old n))
    → AreSameSlots (slots_view new) (with_cached key entry slots)
written-with_cached old new slots key entry kept was is view chosen key_is entry_is written n =
    let behind : option_map slot_of (kept_in old n) ≡ slot_at slots n = sym (slot_at-slots_view old was n) ∙ ap (λ (l : List Slot). slot_at l n) view in
    let choice : kept.slot ≡ slot_for slots key = chosen ∙ ap (λ (l : List Slot). slot_for l key) view in
    slot_at-slots_view new is n
    ∙ ap (option_map slot_of) (written n)
    ∙ at (kept.slot == n)
    ∙ ap₂ (λ (o : Option Slot) (s : ℕ). cond (s == n) (Some (record { number = s; key = numbers kept.key; entry = kept.entry })) o) behind choice
    ∙ ap₂ (λ (k : List ℕ) (e : ℕ). slot_at (record { number = slot_for slots key; key = k; entry = e } ∷ slots) n) key_is entry_is
  where
    at : (t : Bool) → option_map slot_of (cond t (Some kept) (kept_in old n)) ≡ cond t (Some (slot_of kept)) (option_map slot_of (kept_in old n))
    at true = refl
    at false = refl

-- numbers each of which tells its place are distinct
distinct_places : (place_of : ℕ → ℕ) (ns : List ℕ) (from : ℕ) → ((j n : ℕ) → slice_get ns j ≡ Some n → place_of n ≡ from + j) → IsDistinct nat_eq ns
unfolding IsDistinct
distinct_places place_of [] from places = tt
distinct_places place_of (n ∷ ns) from places = (
  others ns (λ j m at. let later = places (suc j) m at in omega (arith, later)),
  distinct_places place_of ns (suc from) (λ j m at. let later = places (suc j) m at in omega (arith, later)),
)
  where
    first : place_of n ≡ from
    first = let at = places zero n refl in omega (arith, at)

    others : (ms : List ℕ) → ((j m : ℕ) → slice_get ms j ≡ Some m → from < place_of m) → AllByRecursion (λ (m : ℕ). nat_eq n m ≡ false) ms
    others [] above = tt
    others (m ∷ ms) above = (
      ne_eqb n m (λ is. let after = above zero m refl in let same_place : place_of n ≡ place_of m = ap place_of is in omega (arith, after, same_place, first)),
      others ms (λ j o at. above (suc j) o at),
    )

below_all : (kept : List Kept) → ((place : ℕ) (k : Kept) → slice_get kept place ≡ Some k → k.slot < slot_count) → (n : ℕ) → list_any (nat_eq n) (map (λ (k : Kept). k.slot) kept) ≡ true → n < slot_count
below_all [] below n there = absurd (false≢true there)
below_all (k ∷ kept) below n there =
    elim (or_cases _ _ there) [
      | inl is ↦ subst (λ (m : ℕ). m < slot_count) (sym (eqb-true n k.slot is)) (below zero k refl)
      | inr later ↦ below_all kept (λ place o at. below (suc place) o at) n later
    ]

slot_kept : (kept : List Kept) (j n : ℕ) → slice_get (map (λ (k : Kept). k.slot) kept) j ≡ Some n → (k : Kept) × (slice_get kept j ≡ Some k) × (k.slot ≡ n)
slot_kept [] j n at = absurd (none-some n at)
slot_kept (k ∷ kept) zero n at = (k, refl, same_Some k.slot n at)
slot_kept (k ∷ kept) (suc j) n at = slot_kept kept j n at

-- while a slot was never written, there is room for it
pub room_for_new : (slots : KeptSlots) (slot : ℕ) → IsCache slots → slot < slot_count → get_or (places slots) slot 0 ≡ 0 → length slots.kept.items < slot_count
room_for_new slots slot cache within none =
    let few = length-le_from_distinct_below (slot ∷ map (λ (k : Kept). k.slot) slots.kept.items) slot_count (distinct_places (λ (n : ℕ). get_or (places slots) n 0) (slot ∷ map (λ (k : Kept). k.slot) slots.kept.items) 0 by_place) below in
    omega (arith, few, length-map slots.kept.items (λ (k : Kept). k.slot))
  where
    by_place : (j n : ℕ) → slice_get (slot ∷ map (λ (k : Kept). k.slot) slots.kept.items) j ≡ Some n → get_or (places slots) n 0 ≡ 0 + j
    by_place zero n at = ap (λ (m : ℕ). get_or (places slots) m 0) (sym (same_Some slot n at)) ∙ none
    by_place (suc j) n at =
        let there = slot_kept slots.kept.items j n at in
        let found : get_or (places slots) n 0 ≡ j + 1 = ap (λ (m : ℕ). get_or (places slots) m 0) (sym there.2) ∙ cache.found j there.0 there.1 in
        omega (arith, found)

    below : (n : ℕ) → list_any (nat_eq n) (slot ∷ map (λ (k : Kept). k.slot) slots.kept.items) ≡ true → n < slot_count
    below n there =
        elim (or_cases _ _ there) [
          | inl is ↦ subst (λ (m : ℕ). m < slot_count) (sym (eqb-true n slot is)) within
          | inr later ↦ below_all slots.kept.items cache.below n later
        ]

-- ---- no slot that was written

zeros : (n i : ℕ) → get_or (map (λ (x : Indexed). x.place) (replicate n (record { place = 0; tag = 0 }))) i 0 ≡ 0
zeros zero i = refl
zeros (suc n) zero = refl
zeros (suc n) (suc i) = zeros n i

pub empty_cache : (slots : KeptSlots) → slots.index.items ≡ replicate slot_count (record { place = 0; tag = 0 }) → slots.kept.items ≡ [] → slot_count ≤ vec_capacity slots.kept → IsCache slots
empty_cache slots index kept room = record {
  index = ap length index ∙ length-replicate {A = Indexed} slot_count (record { place = 0; tag = 0 });
  within = λ n. let none = nothing n in omega (arith, none);
  own = λ n k at. absurd (none-some k (sym (ap (kept_at slots.kept.items) (nothing n)) ∙ at));
  tag = λ n k at. absurd (none-some k (sym (ap (kept_at slots.kept.items) (nothing n)) ∙ at));
  below = λ place k at. absurd (none-some k (sym (ap (λ (ks : List Kept). slice_get ks place) kept) ∙ at));
  found = λ place k at. absurd (none-some k (sym (ap (λ (ks : List Kept). slice_get ks place) kept) ∙ at));
  room = room;
}
  where
    nothing : (n : ℕ) → get_or (places slots) n 0 ≡ 0
    nothing n = ap (λ (ns : List Indexed). get_or (map (λ (x : Indexed). x.place) ns) n 0) index ∙ zeros slot_count n

-- ---- one more slot that is written

last : (xs : List Kept) (x : Kept) → slice_get (xs ++ x ∷ []) (length xs) ≡ Some x
last [] x = refl
last (y ∷ xs) x = last xs x

earlier : (xs ys : List Kept) (i : ℕ) → i < length xs → slice_get (xs ++ ys) i ≡ slice_get xs i
earlier [] ys i lt = absurd (omega (arith, lt))
earlier (x ∷ xs) ys zero lt = refl
earlier (x ∷ xs) ys (suc i) lt = earlier xs ys i (omega (arith, lt))

earlier_kept : (xs ys : List Kept) (at : ℕ) → at ≤ length xs → kept_at (xs ++ ys) at ≡ kept_at xs at
earlier_kept xs ys zero le = refl
earlier_kept xs ys (suc place) le = earlier xs ys place (omega (arith, le))

-- what stands in a list with one more stood there before, or is the new one
appended : (xs : List Kept) (x y : Kept) (i : ℕ) → slice_get (xs ++ x ∷ []) i ≡ Some y → (slice_get xs i ≡ Some y) ⊎ ((i ≡ length xs) × (x ≡ y))
appended [] x y zero at = inr (refl, same_Some x y at)
appended [] x y (suc i) at = absurd (none-some y at)
appended (z ∷ xs) x y zero at = inl at
appended (z ∷ xs) x y (suc i) at = elim (appended xs x y i at) [
  | inl before ↦ inl before
  | inr new ↦ inr (ap suc new.0, new.1)
]

-- what a slot has after a write is of that slot
own_after : (old new : KeptSlots) (kept : Kept) → IsCache old → ((n : ℕ) → kept_in new n ≡ cond (kept.slot == n) (Some kept) (kept_in old n)) → (n : ℕ) (k : Kept) → kept_in new n ≡ Some k → k.slot ≡ n
own_after old new kept cache written n k at =
    elim (cases_Bool (kept.slot == n)) [
      | inl is ↦ ap (λ (o : Kept). o.slot) (sym (same_Some kept k (sym (written n ∙ cond-true (kept.slot == n) (Some kept) (kept_in old n) is) ∙ at))) ∙ eqb-true kept.slot n is
      | inr other ↦ cache.own n k (sym (written n ∙ cond-false (kept.slot == n) (Some kept) (kept_in old n) other) ∙ at)
    ]

-- the tag of a slot after a write is that of what it keeps
tag_after : (old new : KeptSlots) (kept : Kept) → IsCache old → kept.slot < slot_count → tags new ≡ set (tags old) kept.slot (tag_of kept.hash)
    → ((n : ℕ) → kept_in new n ≡ cond (kept.slot == n) (Some kept) (kept_in old n)) → (n : ℕ) (k : Kept) → kept_in new n ≡ Some k → get_or (tags new) n 0 ≡ tag_of k.hash
tag_after old new kept cache inside tagged written n k at =
    ap (λ (ns : List ℕ). get_or ns n 0) tagged ∙ elim (cases_Bool (kept.slot == n)) [
      | inl is ↦
          ap (λ (m : ℕ). get_or (set (tags old) kept.slot (tag_of kept.hash)) m 0) (sym (eqb-true kept.slot n is))
          ∙ get_or-set_same (tags old) kept.slot (tag_of kept.hash) 0 (omega (arith, inside, cache.index, length-map old.index.items (λ (i : Indexed). i.tag)))
          ∙ ap (λ (o : Kept). tag_of o.hash) (same_Some kept k (sym (written n ∙ cond-true (kept.slot == n) (Some kept) (kept_in old n) is) ∙ at))
      | inr other ↦
          get_or-set_other (tags old) kept.slot n (tag_of kept.hash) 0 (λ is. eqb-false kept.slot n other (sym is))
          ∙ cache.tag n k (sym (written n ∙ cond-false (kept.slot == n) (Some kept) (kept_in old n) other) ∙ at)
    ]

module _ (old new : KeptSlots) (kept : Kept) (cache : IsCache old) (inside : kept.slot < slot_count) (none : get_or (places old) kept.slot 0 ≡ 0)
    (items : new.kept.items ≡ old.kept.items ++ kept ∷ []) (index : places new ≡ set (places old) kept.slot (length old.kept.items + 1)) (tagged : tags new ≡ set (tags old) kept.slot (tag_of kept.hash)) (capacity : vec_capacity new.kept ≡ vec_capacity old.kept) where
  here : get_or (places new) kept.slot 0 ≡ suc (length old.kept.items)
  here =
      let at : get_or (places new) kept.slot 0 ≡ length old.kept.items + 1 =
      ap (λ (ns : List ℕ). get_or ns kept.slot 0) index ∙ get_or-set_same (places old) kept.slot (length old.kept.items + 1) 0 (omega (arith, inside, cache.index, length-map old.index.items (λ (i : Indexed). i.place))) in
      omega (arith, at)

  others : (n : ℕ) → (n ≡ kept.slot → ⊥) → get_or (places new) n 0 ≡ get_or (places old) n 0
  others n apart = ap (λ (ns : List ℕ). get_or ns n 0) index ∙ get_or-set_other (places old) kept.slot n (length old.kept.items + 1) 0 apart

  pub added_written : (n : ℕ) → kept_in new n ≡ (if kept.slot == n then Some kept else kept_in old n)
  added_written n =
      elim (cases_Bool (kept.slot == n)) [
        | inl is ↦
            ap₂ kept_at items (ap (λ (m : ℕ). get_or (places new) m 0) (sym (eqb-true kept.slot n is)) ∙ here)
            ∙ last old.kept.items kept
            ∙ sym (cond-true (kept.slot == n) (Some kept) (kept_in old n) is)
        | inr other ↦
            ap₂ kept_at items (others n (λ is. eqb-false kept.slot n other (sym is)))
            ∙ earlier_kept old.kept.items (kept ∷ []) (get_or (places old) n 0) (cache.within n)
            ∙ sym (cond-false (kept.slot == n) (Some kept) (kept_in old n) other)
      ]

  longer : length new.kept.items ≡ length old.kept.items + 1
  longer = ap length items ∙ length-append old.kept.items (kept ∷ [])

  pub added_cache : IsCache new
  added_cache = record {
    index = sym (length-map new.index.items (λ (i : Indexed). i.place)) ∙ ap length index ∙ length-set (places old) kept.slot (length old.kept.items + 1)
        ∙ length-map old.index.items (λ (i : Indexed). i.place) ∙ cache.index;
    within = λ n. elim (cases_eq n kept.slot) [
      | inl is ↦ let at : get_or (places new) n 0 ≡ suc (length old.kept.items) = ap (λ (m : ℕ). get_or (places new) m 0) is ∙ here in omega (arith, at, longer)
      | inr apart ↦ let before = cache.within n in omega (arith, others n apart, before, longer)
    ];
    own = own_after old new kept cache added_written;
    tag = tag_after old new kept cache inside tagged added_written;
    below = λ place k at. elim (appended old.kept.items kept k place (ap (λ (ks : List Kept). slice_get ks place) (sym items) ∙ at)) [
      | inl before ↦ cache.below place k before
      | inr last_one ↦ subst (λ (o : Kept). o.slot < slot_count) last_one.1 inside
    ];
    found = λ place k at. elim (appended old.kept.items kept k place (ap (λ (ks : List Kept). slice_get ks place) (sym items) ∙ at)) [
      | inl before ↦
          let was = cache.found place k before in
          others k.slot (λ is. let same_place : get_or (places old) k.slot 0 ≡ get_or (places old) kept.slot 0 = ap (λ (m : ℕ). get_or (places old) m 0) is in omega (arith, was, same_place, none)) ∙ was
      | inr last_one ↦ let at_last : get_or (places new) k.slot 0 ≡ suc (length old.kept.items) = ap (λ (o : Kept). get_or (places new) o.slot 0) (sym last_one.1) ∙ here in omega (arith, at_last, last_one.0)
    ];
    room = omega (arith, cache.room, capacity);
  }

-- ---- a slot that is written again

set_there : (xs : List Kept) (i : ℕ) (x : Kept) → i < length xs → slice_get (set xs i x) i ≡ Some x
set_there [] i x lt = absurd (omega (arith, lt))
set_there (y ∷ xs) zero x lt = refl
set_there (y ∷ xs) (suc i) x lt = set_there xs i x (omega (arith, lt))

set_elsewhere : (xs : List Kept) (i j : ℕ) (x : Kept) → (j ≡ i → ⊥) → slice_get (set xs i x) j ≡ slice_get xs j
set_elsewhere [] i j x apart = refl
set_elsewhere (y ∷ xs) zero zero x apart = absurd (apart refl)
set_elsewhere (y ∷ xs) zero (suc j) x apart = refl
set_elsewhere (y ∷ xs) (suc i) zero x apart = refl
set_elsewhere (y ∷ xs) (suc i) (suc j) x apart = set_elsewhere xs i j x (λ is. apart (ap suc is))

module _ (old new : KeptSlots) (kept : Kept) (place : ℕ) (cache : IsCache old) (inside : kept.slot < slot_count) (some : get_or (places old) kept.slot 0 ≡ suc place)
    (items : new.kept.items ≡ set old.kept.items place kept) (index : places new ≡ places old) (tagged : tags new ≡ set (tags old) kept.slot (tag_of kept.hash)) (capacity : vec_capacity new.kept ≡ vec_capacity old.kept) where
  fits : place < length old.kept.items
  fits = let le = cache.within kept.slot in omega (arith, some, le)

  -- no other slot has its place
  apart_from : (n : ℕ) → (kept.slot == n) ≡ false → (q : ℕ) → get_or (places old) n 0 ≡ suc q → q ≡ place → ⊥
  apart_from n other q at is =
      let there = placed old.kept.items place fits in
      let of_slot = cache.own kept.slot there.0 (ap (kept_at old.kept.items) some ∙ there.1) in
      let of_other = cache.own n there.0 (ap (kept_at old.kept.items) (at ∙ ap suc is) ∙ there.1) in
      eqb-false kept.slot n other (sym of_slot ∙ of_other)

  stays : (n at : ℕ) → (kept.slot == n) ≡ false → get_or (places old) n 0 ≡ at → kept_at (set old.kept.items place kept) at ≡ kept_at old.kept.items at
  stays n zero other is = refl
  stays n (suc q) other is = set_elsewhere old.kept.items place q kept (apart_from n other q is)

  pub rewritten : (n : ℕ) → kept_in new n ≡ (if kept.slot == n then Some kept else kept_in old n)
  rewritten n =
      elim (cases_Bool (kept.slot == n)) [
        | inl is ↦
            ap₂ kept_at items (ap (λ (ns : List ℕ). get_or ns n 0) index ∙ ap (λ (m : ℕ). get_or (places old) m 0) (sym (eqb-true kept.slot n is)) ∙ some)
            ∙ set_there old.kept.items place kept fits
            ∙ sym (cond-true (kept.slot == n) (Some kept) (kept_in old n) is)
        | inr other ↦
            ap₂ kept_at items (ap (λ (ns : List ℕ). get_or ns n 0) index)
            ∙ stays n (get_or (places old) n 0) other refl
            ∙ sym (cond-false (kept.slot == n) (Some kept) (kept_in old n) other)
      ]

  pub rewritten_cache : IsCache new
  rewritten_cache = record {
    index = sym (length-map new.index.items (λ (i : Indexed). i.place)) ∙ ap length index ∙ length-map old.index.items (λ (i : Indexed). i.place) ∙ cache.index;
    within = λ n. let before = cache.within n in let same_place : get_or (places new) n 0 ≡ get_or (places old) n 0 = ap (λ (ns : List ℕ). get_or ns n 0) index in
        let long : length new.kept.items ≡ length old.kept.items = ap length items ∙ length-set old.kept.items place kept in omega (arith, before, same_place, long);
    own = own_after old new kept cache rewritten;
    tag = tag_after old new kept cache inside tagged rewritten;
    below = λ j k at. elim (cases_eq j place) [
      | inl is ↦ subst (λ (o : Kept). o.slot < slot_count) (here j k at is) inside
      | inr apart ↦ cache.below j k (elsewhere j k at apart)
    ];
    found = λ j k at. ap (λ (ns : List ℕ). get_or ns k.slot 0) index ∙ elim (cases_eq j place) [
      | inl is ↦ let at_place : get_or (places old) k.slot 0 ≡ suc place = ap (λ (o : Kept). get_or (places old) o.slot 0) (sym (here j k at is)) ∙ some in omega (arith, at_place, is)
      | inr apart ↦ cache.found j k (elsewhere j k at apart)
    ];
    room = omega (arith, cache.room, capacity);
  }
    where
      here : (j : ℕ) (k : Kept) → slice_get new.kept.items j ≡ Some k → j ≡ place → kept ≡ k
      here j k at is = same_Some kept k (sym (ap₂ slice_get items is ∙ set_there old.kept.items place kept fits) ∙ at)

      elsewhere : (j : ℕ) (k : Kept) → slice_get new.kept.items j ≡ Some k → (j ≡ place → ⊥) → slice_get old.kept.items j ≡ Some k
      elsewhere j k at apart = sym (ap (λ (ks : List Kept). slice_get ks j) items ∙ set_elsewhere old.kept.items place j kept apart) ∙ at
