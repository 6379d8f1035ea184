-- The slots that a cache keeps, as those of the definitions.
use Rattle.std.specs.Prelude.{◌≡◌, ℕ, zero, suc, ◌+◌, ◌/◌, ◌^◌, ◌<◌, ◌≤◌, Bool, false, List, map, Option, Some, None, if◌then◌else◌, slice_get, slice_index, length, vec_capacity}
use Rattle.std.specs.Option.{option_map, option_map_or, is_none}
use Rattle.spec_keys.specs.Keys.{same}
use Rattle.spec_board.specs.State.{Slot}
use Rattle.spec_board.specs.Cache.{slot_count}
use Rattle.ovs_fields.specs.Packed.{numbers}
use Rattle.exact_cache.specs.declared.kept.Kept.{Kept}
use Rattle.exact_cache.specs.declared.slots.Indexed.{Indexed}
use Rattle.exact_cache.specs.declared.slots.KeptSlots.{KeptSlots}

-- the slot that keeps this
abbrev pub slot_of : Kept → Slot
slot_of kept = record { number = kept.slot; key = numbers kept.key; entry = kept.entry }

abbrev pub slots_view : KeptSlots → List Slot
slots_view slots = map slot_of slots.kept.items

-- the tag of a hash: its upper 16 bits
abbrev pub tag_of : ℕ → ℕ
tag_of hash = hash / 2 ^ 48

-- the places of the slots, and their tags, as the index has them
abbrev pub places : KeptSlots → List ℕ
places slots = map (λ (i : Indexed). i.place) slots.index.items

abbrev pub tags : KeptSlots → List ℕ
tags slots = map (λ (i : Indexed). i.tag) slots.index.items

-- what stands at a place, which is counted from 1
abbrev pub kept_at : List Kept → ℕ → Option Kept
kept_at kept zero = None
kept_at kept (suc place) = slice_get kept place

-- what a slot keeps
abbrev pub kept_in : KeptSlots → ℕ → Option Kept
kept_in slots number = kept_at slots.kept.items (slice_index (places slots) number)

-- whether a slot keeps a key
abbrev pub keeps : List ℕ → Option Kept → Bool
keeps key kept = option_map_or (λ (k : Kept). same (numbers k.key) key) kept false

-- what a slot keeps, where it is this key
abbrev pub kept_of : List ℕ → Option Kept → Option Kept
kept_of key kept = if keeps key kept then kept else None

-- the entry that a slot names for a key
abbrev pub entry_in : List ℕ → Option Kept → Option ℕ
entry_in key kept = if keeps key kept then option_map (λ (k : Kept). k.entry) kept else None

-- of two slots the one where a key is put, by what they keep
abbrev pub slot_of_two : List ℕ → ℕ → Option Kept → ℕ → Option Kept → ℕ
slot_of_two key first in_first second in_second =
    if keeps key in_first then first
    else (if keeps key in_second then second
    else (if is_none in_first then first
    else (if is_none in_second then second
    else first)))

-- The index has the place of each slot that was written, with the tag of what it keeps, and no other place; and there
-- is room for all slots.
pub record IsCache (slots : KeptSlots) : Type 0 where
  pub index : length slots.index.items ≡ slot_count
  pub within : (number : ℕ) → slice_index (places slots) number ≤ length slots.kept.items
  pub own : (number : ℕ) (kept : Kept) → kept_in slots number ≡ Some kept → kept.slot ≡ number
  pub tag : (number : ℕ) (kept : Kept) → kept_in slots number ≡ Some kept → slice_index (tags slots) number ≡ tag_of kept.hash
  pub below : (place : ℕ) (kept : Kept) → slice_get slots.kept.items place ≡ Some kept → kept.slot < slot_count
  pub found : (place : ℕ) (kept : Kept) → slice_get slots.kept.items place ≡ Some kept → slice_index (places slots) kept.slot ≡ place + 1
  pub room : slot_count ≤ vec_capacity slots.kept
