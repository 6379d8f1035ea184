-- Writes to fields of a key.
use Rattle.std.proofs.Common.{◌≡◌, ℕ, ◌*◌, ◌%◌, ◌<◌, ◌^◌, List, bit_and, bit_xor, IsTrue, ap, ap₂, ◌∙◌, ltb-true, arith}
use Rattle.std.proofs.lemmas.Nat.{and_le_r, xor_lt}
use Rattle.spec_keys.specs.declared.field_id.FieldId.{FieldId}
use Rattle.spec_actions.specs.declared.named_field.NamedField.{NamedField}
use Rattle.spec_actions.specs.Named.{named}
use Rattle.spec_actions.specs.Sound.{fits_name}
use Rattle.spec_base.specs.Bits.{merged}
use Rattle.spec_xlate.specs.Translation.{written, written_bits, in_field}
use Rattle.named_fields.proofs.NamedLaws.{writable-within}
use Rattle.named_fields.proofs.SliceLaws.{placed}

-- a number with some bits replaced is no wider
pub merged-within : (width number value mask : ℕ) → number < 2 ^ width → mask < 2 ^ width → merged number value mask < 2 ^ width
merged-within width number value mask fits few =
    xor_lt width number (bit_and (bit_xor number value) mask) fits (omega (arith, few, and_le_r (bit_xor number value) mask))

-- the bits that a write changes are within its name
writes-within : (n : NamedField) (mask : ℕ) → bit_and mask (named n).writable < 2 ^ (named n).bits
writes-within n mask = omega (arith, writable-within n, and_le_r mask (named n).writable)

-- a write by what the code has of the name
pub written_by_code : (n : NamedField) (f : FieldId) (low writable value mask : ℕ) (key new : List ℕ) → f ≡ (named n).field → low ≡ (named n).low → writable ≡ (named n).writable → IsTrue (fits_name n value)
    → new ≡ written f ((value * 2 ^ low) % 2 ^ 128) ((bit_and mask writable * 2 ^ low) % 2 ^ 128) key → new ≡ written (named n).field (in_field n value) (written_bits n mask) key
written_by_code n f low writable value mask key new is_field is_low is_writable fits wrote =
    wrote
    ∙ ap₂ (λ (g : FieldId) (l : ℕ). written g ((value * 2 ^ l) % 2 ^ 128) ((bit_and mask writable * 2 ^ l) % 2 ^ 128) key) is_field is_low
    ∙ ap (λ (w : ℕ). written (named n).field ((value * 2 ^ (named n).low) % 2 ^ 128) ((bit_and mask w * 2 ^ (named n).low) % 2 ^ 128) key) is_writable
    ∙ ap₂ (λ (v m : ℕ). written (named n).field v m key) (placed n value (ltb-true value (2 ^ (named n).bits) fits)) (placed n (bit_and mask (named n).writable) (writes-within n mask))
