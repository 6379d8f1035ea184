-- The code's values as the definitions see them, and their bounds.
use Rattle.std.specs.Prelude.{◌≡◌, ℕ, ◌+◌, ◌<◌, ◌^◌, bit_and}
use Rattle.spec_keys.specs.declared.field_id.FieldId.{FieldId}
use Rattle.spec_keys.specs.Fields.{width_of}
use Rattle.spec_actions.specs.declared.named_field.NamedField.{NamedField}
use Rattle.spec_actions.specs.Named.{named}
use Rattle.spec_flow_text.specs.declared.part.ValueForm.{ValueForm}
use Rattle.spec_flow_text.specs.declared.part.ValueForm.TheVariants as form
use Rattle.spec_flow_text.specs.declared.part.Part.{Part}
use Rattle.spec_flow_text.specs.Values as values
use Rattle.field_text.specs.declared.values.Bits.{Bits}

abbrev pub bits_view : Bits → values.Bits
bits_view b = record { value = b.value; mask = b.mask }

-- what the numbers in a form are below, where they are at most so much
abbrev pub limit : ValueForm → ℕ → ℕ
limit form.Port most = 2 ^ 16
limit form.Number most = most + 1
limit form.Mac most = 2 ^ 48
limit form.Ipv4 most = 2 ^ 32
limit form.Ipv6 most = 2 ^ 128
limit form.Fragment most = 0

-- Both numbers are within a number of bits.
abbrev pub AreBelow : ℕ → Bits → Type 0
AreBelow width b = (b.value < 2 ^ width) × (b.mask < 2 ^ width)

-- Bits are those of a named field.
abbrev pub Fits : NamedField → Bits → Type 0
Fits f b = AreBelow (named f).bits b

-- Bits are those of a field of the key.
abbrev pub FitsWidth : FieldId → Bits → Type 0
FitsWidth f b = AreBelow (width_of f) b

-- What a part states is within its field, and its value is within its mask.
abbrev pub IsWithin : Part → Type 0
IsWithin p = (p.value < 2 ^ width_of p.field) × (p.mask < 2 ^ width_of p.field) × (bit_and p.value p.mask ≡ p.value)
