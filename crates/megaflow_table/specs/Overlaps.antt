-- The entries that overlap one of a key and a mask, by subtables.
use Rattle.std.specs.Prelude.{◌≡◌, ℕ, false, if◌then◌else◌, List, Some, slice_get}
use Rattle.std.specs.Option.{option_to_list}
use Rattle.indexmap.specs.IndexMap.{IsUnique}
use Rattle.masked_map.specs.Maps.{agreeing, entries_of, HasDistinctKeys}
use Rattle.spec_keys.specs.Keys.{masked, same, covers, common_bits}
use Rattle.ovs_fields.specs.declared.mask.Mask.{Mask}
use Rattle.ovs_fields.specs.Packed.{bits}
use Rattle.megaflow_table.specs.Subtables.{Subtable, Subtables, number_in}

-- The numbers of the entries of one subtable that overlap one of this key and mask. Where the mask covers the
-- subtable's, that is the one at the key's bits. Else it is those at keys that agree with it on the bits of both masks.
abbrev pub overlapping_in : List ℕ → List ℕ → Mask × Subtable → List ℕ
overlapping_in key mask t =
    if covers mask (bits t.0) then option_to_list (number_in t.1 (masked key (bits t.0)))
    else agreeing key (common_bits mask (bits t.0)) (entries_of t.1.numbers)

-- no two masks of the subtables are the same
abbrev pub HasDistinctMasks : Subtables → Type 0
HasDistinctMasks subtables = IsUnique (λ (a b : Mask). same (bits a) (bits b)) subtables

-- a subtable that a probe doesn't decide has distinct keys
abbrev pub IsScanned : List ℕ → Mask × Subtable → Type 0
IsScanned mask t = covers mask (bits t.0) ≡ false → HasDistinctKeys t.1.numbers

abbrev pub AreScanned : List ℕ → List (Mask × Subtable) → Type 0
AreScanned mask es = (j : ℕ) (t : Mask × Subtable) → slice_get es j ≡ Some t → IsScanned mask t
