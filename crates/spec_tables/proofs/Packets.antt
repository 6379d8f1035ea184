-- Packets and matches, written by their fields.
use Rattle.std.specs.Prelude.{ℕ, List, [], ◌∷◌, set}
use Rattle.spec_base.specs.Bits.{all_bits, leading_bits}
use Rattle.spec_keys.specs.declared.field_id.FieldId.{FieldId}
use Rattle.spec_keys.specs.Fields.{place_of, width_of}
use Rattle.spec_keys.specs.Keys.{none}
use Rattle.spec_tables.specs.Rules.{Match}

-- bits of a field, and what they are
pub record Stated : Type 0 where
  pub field : FieldId
  pub value : ℕ
  pub mask : ℕ

-- all bits of a field, its n leading ones, and those of a mask
abbrev pub is : FieldId → ℕ → Stated
is f value = record { field = f; value = value; mask = all_bits (width_of f) }

abbrev pub begins : FieldId → ℕ → ℕ → Stated
begins f value n = record { field = f; value = value; mask = leading_bits (width_of f) n }

abbrev pub has : FieldId → ℕ → ℕ → Stated
has f value mask = record { field = f; value = value; mask = mask }

-- the numbers of these fields, and 0 elsewhere
unfoldable pub key_of : List Stated → List ℕ
unfolding none
key_of [] = none
key_of (s ∷ stated) = set (key_of stated) (place_of s.field) s.value

unfoldable pub mask_of : List Stated → List ℕ
unfolding none
mask_of [] = none
mask_of (s ∷ stated) = set (mask_of stated) (place_of s.field) s.mask

abbrev pub match_of : List Stated → Match
match_of stated = record { key = key_of stated; mask = mask_of stated }
