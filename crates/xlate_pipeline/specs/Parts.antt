-- The bits that a mask has of some fields.
use Rattle.std.specs.Prelude.{ℕ, List, [], ◌∷◌}
use Rattle.spec_keys.specs.declared.field_id.FieldId.{FieldId}
use Rattle.spec_keys.specs.Fields.{place_of}
use Rattle.spec_keys.specs.Keys.{value_of, joined, only_at}

-- a mask with those of these fields added that another has
abbrev pub with_part : List ℕ → List FieldId → List ℕ → List ℕ
with_part mask [] part = part
with_part mask (f ∷ fs) part = with_part mask fs (joined part (only_at (place_of f) (value_of mask f)))
