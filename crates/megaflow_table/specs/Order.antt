-- The order in which lookups probe the masks: each mask, with its number of hits.
use Rattle.std.specs.Prelude.{◌≡◌, ℕ, ◌+◌, ◌-◌, ◌^◌, ◌<◌, ◌≤◌, min, if◌then◌else◌, List, length, slice_index, Option, Some, None, is_some, IsSome}
use Rattle.std.specs.List.{IsDistinct}
use Rattle.std.specs.Map.{lookup, keys_of}
use Rattle.std.specs.Option.{option_map, unwrap_or}
use Rattle.spec_keys.specs.Keys.{same}
use Rattle.megaflow_table.specs.declared.entry.Entry.{Entry}
use Rattle.megaflow_table.specs.Entries.{has_mask}

abbrev pub Order : Type 0
Order = List (List ℕ × ℕ)

-- the number of hits of a mask
abbrev pub hits_of : List ℕ → Order → Option ℕ
hits_of mask order = lookup (same mask) order

-- exactly the masks of these entries stand in the order
abbrev pub HasMasksOf : List Entry → Order → Type 0
HasMasksOf entries order = (mask : List ℕ) → is_some (hits_of mask order) ≡ has_mask mask entries

-- no mask stands in the order twice
abbrev pub HasEachOnce : Order → Type 0
HasEachOnce order = IsDistinct same (keys_of order)

-- these numbers never rise
abbrev pub AreFalling : List ℕ → Type 0
AreFalling ns = (i j : ℕ) → i ≤ j → j < length ns → slice_index ns j ≤ slice_index ns i

-- a number of hits after one more hit: it stands still at the greatest that there is
abbrev pub with_hit : ℕ → ℕ
with_hit hits = min (hits + 1) (2 ^ 64 - 1)

-- a mask had one more hit, and the numbers of the others are as before
abbrev pub CountsHit : List ℕ → Order → Order → Type 0
CountsHit mask old new = (m : List ℕ) → hits_of m new ≡ (if same m mask then option_map with_hit (hits_of m old) else hits_of m old)

-- a mask that was not in the order has no hits, and the numbers of the others are as before
abbrev pub AddsMask : List ℕ → Order → Order → Type 0
AddsMask mask old new = (m : List ℕ) → hits_of m new ≡ (if same m mask then Some (unwrap_or (hits_of m old) 0) else hits_of m old)

-- the masks of these entries have the numbers that they had, and the others are gone
abbrev pub KeepsMasksOf : List Entry → Order → Order → Type 0
KeepsMasksOf entries old new = (m : List ℕ) → hits_of m new ≡ (if has_mask m entries then hits_of m old else None)

-- the masks that are still in the order have the numbers that they had
abbrev pub KeepsHits : Order → Order → Type 0
KeepsHits old new = (m : List ℕ) → IsSome (hits_of m new) → hits_of m new ≡ hits_of m old
