-- Subtables that are found by their masks, and the order in which lookups go over them.
use Rattle.std.specs.Prelude.{◌≡◌, ℕ, ◌<◌, nat_lt, if◌then◌else◌, List, All, filter_map, slice_get}
use Rattle.ovs_fields.specs.Packed.{bits}
use Rattle.ovs_fields.specs.declared.mask.Mask.{Mask}
use Rattle.tuple_classifier.specs.declared.subtable.Subtable.{Subtable}
use Rattle.tuple_classifier.specs.Numbers.{times}

-- the key of each subtable is its mask
abbrev pub AreKeyed : List (Mask × Subtable) → Type 0
AreKeyed entries = All (λ e. bits e.0 ≡ bits e.1.staged.mask) entries

-- each of so many places stands in the order once, and no other number does
abbrev pub IsOrderOf : ℕ → List ℕ → Type 0
IsOrderOf count order = (place : ℕ) → times place order ≡ (if nat_lt place count then 1 else 0)

-- the numbers in the order are among so many places
abbrev pub AreWithin : ℕ → List ℕ → Type 0
AreWithin count order = (place : ℕ) → 0 < times place order → place < count

-- the subtables at these places, in this order
abbrev pub in_order : List Subtable → List ℕ → List Subtable
in_order ss order = filter_map (slice_get ss) order
