-- Subtables: for each mask its entries' keys under it, and the number of the entry at each (NSDI 2015, section 4.2:
-- a hash table for each mask).
use Rattle.std.specs.Prelude.{◌≡◌, ℕ, ◌<◌, ◌≤◌, ◌&&◌, if◌then◌else◌, List, [], map, Option, Some, IsSome}
use Rattle.std.specs.Map.{values_of}
use Rattle.std.specs.Option.{option_and_then, option_map}
use Rattle.std.specs.declared.hash.FoldHasher.{FoldHasher}
use Rattle.std.specs.declared.hash.BuildHasherDefault.{BuildHasherDefault}
use Rattle.indexmap.specs.IndexMap.{IndexMap, get_by, spare}
use Rattle.masked_map.specs.Maps.{mask_of, entries_of, room_of, value_at}
use Rattle.spec_keys.specs.Keys.{same}
use Rattle.ovs_fields.specs.declared.mask.Mask.{Mask}
use Rattle.ovs_fields.specs.Packed.{bits}
pub use Rattle.megaflow_table.specs.declared.subtables.Subtable.{Subtable}
use Rattle.megaflow_table.specs.declared.subtables.Fresh.{Fresh}
use Rattle.megaflow_table.specs.Order.{Order, AreFalling}

abbrev pub Subtables : Type 0
Subtables = IndexMap Mask Subtable (BuildHasherDefault FoldHasher)

-- the number that a subtable has for a masked key
abbrev pub number_in : Subtable → List ℕ → Option ℕ
number_in subtable key = value_at subtable.numbers key

-- the subtable of a mask
abbrev pub subtable_of : Subtables → List ℕ → Option Subtable
subtable_of subtables mask = get_by (λ (m : Mask). same mask (bits m)) subtables

-- the number for a masked key under its mask
abbrev pub number_under : Subtables → List ℕ → List ℕ → Option ℕ
number_under subtables mask key = option_and_then (λ (subtable : Subtable). number_in subtable key) (subtable_of subtables mask)

-- the masks with their numbers of hits, in the order of the subtables
abbrev pub ranks : List (Mask × Subtable) → Order
ranks es = map (λ (t : Mask × Subtable). (bits t.0, t.1.hits)) es

abbrev pub order_of : Subtables → Order
order_of subtables = ranks subtables.entries

-- no subtable has more hits than one before it
abbrev pub IsRanked : Subtables → Type 0
IsRanked subtables = AreFalling (values_of (order_of subtables))

-- the numbers of each subtable stand at keys under its mask
abbrev pub AreUnderMasks : Subtables → Type 0
AreUnderMasks subtables = (mask : List ℕ) (subtable : Subtable) → subtable_of subtables mask ≡ Some subtable → mask_of subtable.numbers ≡ mask

-- there is a number under this mask, and one under the mask of each subtable
abbrev pub HasNumberUnder : Subtables → List ℕ → Type 0
HasNumberUnder subtables mask = IsSome (subtable_of subtables mask) → (key : List ℕ) × (n : ℕ) × (number_under subtables mask key ≡ Some n)

abbrev pub HasNumbers : Subtables → Type 0
HasNumbers subtables = (mask : List ℕ) → HasNumberUnder subtables mask

-- the numbers are the same but for that of one masked key, in one subtable and in all
abbrev pub SubtableChangesOnly : Subtable → Subtable → List ℕ → Option ℕ → Type 0
SubtableChangesOnly old new key number = (k : List ℕ) → number_in new k ≡ (if same k key then number else number_in old k)

abbrev pub ChangesOnly : Subtables → Subtables → List ℕ → List ℕ → Option ℕ → Type 0
ChangesOnly old new mask key number =
    (m k : List ℕ) → number_under new m k ≡ (if same m mask && same k key then number else number_under old m k)

-- one more number fits into the subtable of a mask, if there is one
abbrev pub HasRoomUnder : Subtables → List ℕ → Type 0
HasRoomUnder subtables mask = (subtable : Subtable) → subtable_of subtables mask ≡ Some subtable → 0 < room_of subtable.numbers

-- As many more masks fit as before, and each subtable that is still there has the mask that it had, and as many more
-- numbers fit into it.
pub record KeepsRoom (old new : Subtables) : Type 0 where
  pub subtables : spare old ≤ spare new
  pub within : (m : List ℕ) (subtable : Subtable) → subtable_of new m ≡ Some subtable
      → (before : Subtable) × (subtable_of old m ≡ Some before) × (room_of before.numbers ≤ room_of subtable.numbers) × (mask_of subtable.numbers ≡ mask_of before.numbers)

-- The numbers stay as well.
pub record KeepsNumbers (old new : Subtables) : Type 0 where
  pub room : KeepsRoom old new
  pub numbers : (m k : List ℕ) → number_under new m k ≡ number_under old m k

-- A subtable of a mask with no numbers and no hits, which has room for one number.
pub record IsEmptyUnder (mask : List ℕ) (subtable : Subtable) : Type 0 where
  pub under : mask_of subtable.numbers ≡ mask
  pub numbers : entries_of subtable.numbers ≡ []
  pub room : 0 < room_of subtable.numbers
  pub hits : subtable.hits ≡ 0

-- the fresh subtable, if there is one, is such a one
abbrev pub IsFresh : Option Fresh → Type 0
IsFresh fresh = (f : Fresh) → fresh ≡ Some f → IsEmptyUnder (bits f.mask) f.subtable

-- there is a fresh subtable for a mask
abbrev pub IsFreshUnder : Option Fresh → List ℕ → Type 0
IsFreshUnder fresh mask = option_map (λ (f : Fresh). bits f.mask) fresh ≡ Some mask

-- the subtable of a mask is there and has no numbers
abbrev pub IsEmptied : Subtables → List ℕ → Type 0
IsEmptied subtables mask = (subtable : Subtable) × (subtable_of subtables mask ≡ Some subtable) × (entries_of subtable.numbers ≡ [])
