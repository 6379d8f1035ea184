-- What contracts see of a map from keys under a mask: the bits of the mask, and the entries by lists with a number for each
-- field, in the order of the fields.
use Rattle.std.specs.Prelude.{◌≡◌, ℕ, ◌<◌, List, filter, Option, None}
use Rattle.std.specs.List.{IsDistinct}
use Rattle.std.specs.Map.{lookup, keys_of, values_of}
use Rattle.indexmap.specs.IndexMap.{spare}
use Rattle.spec_keys.specs.Keys.{masked, same}
use Rattle.ovs_fields.specs.Packed.{numbers, bits}
use Rattle.masked_map.specs.declared.map.MaskedMap.{MaskedMap}
use Rattle.masked_map.specs.declared.map.Entries.{Entries}
use Rattle.masked_map.specs.declared.map.Entries.TheVariants.{Compact, Whole}
use Rattle.masked_map.specs.Compact.{list_of}
pub use Rattle.masked_map.specs.Listed.{listed}

module _ {V : Type 0} where
  abbrev pub mask_in : Entries V → List ℕ
  mask_in (Compact m es) = list_of m.bits.fields
  mask_in (Whole m es) = bits m

  abbrev pub entries_in : Entries V → List (List ℕ × V)
  entries_in (Compact m es) = listed list_of es.by_key.entries
  entries_in (Whole m es) = listed numbers es.entries

  abbrev pub room_in : Entries V → ℕ
  room_in (Compact m es) = spare es.by_key
  room_in (Whole m es) = spare es

  -- the bits of the mask
  abbrev pub mask_of : MaskedMap V → List ℕ
  mask_of m = mask_in m.entries

  -- the keys under the mask, each with its value
  abbrev pub entries_of : MaskedMap V → List (List ℕ × V)
  entries_of m = entries_in m.entries

  -- how many more keys fit without memory
  abbrev pub room_of : MaskedMap V → ℕ
  room_of m = room_in m.entries

  -- the value of the key that has these numbers
  abbrev pub value_at : MaskedMap V → List ℕ → Option V
  value_at m key = lookup (same key) (entries_of m)

  -- no two keys have the same numbers
  abbrev pub HasDistinctKeys : MaskedMap V → Type 0
  HasDistinctKeys m = IsDistinct same (keys_of (entries_of m))

  -- a value can be put at a key without memory: the key is there, or there is room
  abbrev pub HasRoomAt : MaskedMap V → List ℕ → Type 0
  HasRoomAt m key = value_at m key ≡ None → 0 < room_of m

  -- the values at keys that have these bits under a mask
  abbrev pub wanted_values : List ℕ → List ℕ → List (List ℕ × V) → List V
  wanted_values wanted mask es = values_of (filter (λ e. same wanted (masked e.0 mask)) es)

  -- the values at keys that agree with a key on a mask
  abbrev pub agreeing : List ℕ → List ℕ → List (List ℕ × V) → List V
  agreeing key mask es = wanted_values (masked key mask) mask es
