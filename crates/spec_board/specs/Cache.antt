-- The exact-match cache (NSDI 2015, section 4.1): a table of keys by two of their hash's parts. A slot that was never
-- written is empty.
use Rattle.std.specs.Prelude.{ℕ, ◌/◌, ◌%◌, ◌^◌, ◌==◌, Bool, false, if◌then◌else◌, List, ◌∷◌, Option, None}
use Rattle.std.specs.List.{find}
use Rattle.std.specs.Option.{option_map, option_map_or, is_none}
use Rattle.spec_keys.specs.Keys.{same}
use Rattle.spec_keys.specs.Hash.{key_hash}
use Rattle.spec_board.specs.State.{Slot}

abbrev pub slot_count : ℕ
slot_count = 8192

-- the two slots where a key may stand
abbrev pub first_slot : List ℕ → ℕ
first_slot key = key_hash key % slot_count

abbrev pub second_slot : List ℕ → ℕ
second_slot key = key_hash key / 2 ^ 32 % slot_count

-- what a slot holds
abbrev pub slot_at : List Slot → ℕ → Option Slot
slot_at slots number = find (λ (s : Slot). s.number == number) slots

abbrev pub holds : List ℕ → Option Slot → Bool
holds key slot = option_map_or (λ (s : Slot). same s.key key) slot false

-- the entry that the cache names for a key
abbrev pub cached : List Slot → List ℕ → Option ℕ
cached slots key =
    if holds key (slot_at slots (first_slot key)) then option_map (λ (s : Slot). s.entry) (slot_at slots (first_slot key))
    else (if holds key (slot_at slots (second_slot key)) then option_map (λ (s : Slot). s.entry) (slot_at slots (second_slot key))
    else None)

-- The slot where a key is put: the one that holds it; else an empty one; else its first.
abbrev pub slot_for : List Slot → List ℕ → ℕ
slot_for slots key =
    if holds key (slot_at slots (first_slot key)) then first_slot key
    else (if holds key (slot_at slots (second_slot key)) then second_slot key
    else (if is_none (slot_at slots (first_slot key)) then first_slot key
    else (if is_none (slot_at slots (second_slot key)) then second_slot key
    else first_slot key)))

abbrev pub with_cached : List ℕ → ℕ → List Slot → List Slot
with_cached key entry slots = record { number = slot_for slots key; key = key; entry = entry } ∷ slots
