-- Bits of named fields at their place in the key, by what the code has of the names.
use Rattle.std.proofs.Common.{◌≡◌, ℕ, ◌+◌, ◌*◌, ◌%◌, ◌≤◌, ◌<◌, ◌^◌, List, bit_and, IsTrue, sym, ap, ap₂, ◌∙◌, subst, pow_mono, arith}
use Rattle.std.proofs.lemmas.Nat.{shl_below, and_le_r}
use Rattle.spec_keys.specs.declared.field_id.FieldId.{FieldId}
use Rattle.spec_keys.specs.Fields.{width_of}
use Rattle.spec_actions.specs.declared.named_field.NamedField.{NamedField}
use Rattle.spec_actions.specs.declared.action.Slice.{Slice}
use Rattle.spec_actions.specs.Named.{named}
use Rattle.spec_actions.specs.Sound.{is_sound_slice}
use Rattle.spec_xlate.specs.Translation.{in_field, slice_bits, written_bits}
use Rattle.spec_xlate.specs.Lookup.{added}
use Rattle.spec_xlate.specs.Consulted.{bits_written, bits_read, slice_read}
use Rattle.named_fields.proofs.NamedLaws.{named-within, writable-within}
use Rattle.named_fields.proofs.SliceLaws.{within_from_sound, slice_bits-within, placed}

-- bits of a name are within the field of the key
placed-within : (n : NamedField) (bits : ℕ) → bits < 2 ^ (named n).bits → in_field n bits < 2 ^ width_of (named n).field
placed-within n bits fits =
    let shifted : in_field n bits < 2 ^ ((named n).bits + (named n).low) = shl_below bits (named n).bits (named n).low fits in
    let le : 2 ^ ((named n).bits + (named n).low) ≤ 2 ^ width_of (named n).field = pow_mono (omega (arith, named-within n)) in omega arith

module _ (n : NamedField) (f : FieldId) (low : ℕ) (is_field : f ≡ (named n).field) (is_low : low ≡ (named n).low) where
  -- bits of the name, as the code shifts them
  pub shifted_by_code : (bits : ℕ) → bits < 2 ^ (named n).bits → (bits * 2 ^ low) % 2 ^ 128 ≡ in_field n bits
  shifted_by_code bits fits = ap (λ (l : ℕ). (bits * 2 ^ l) % 2 ^ 128) is_low ∙ placed n bits fits

  pub shifted-within : (bits : ℕ) → bits < 2 ^ (named n).bits → (bits * 2 ^ low) % 2 ^ 128 < 2 ^ width_of f
  shifted-within bits fits =
      subst (λ (x : ℕ). x < 2 ^ width_of f) (sym (shifted_by_code bits fits))
      (subst (λ (g : FieldId). in_field n bits < 2 ^ width_of g) (sym is_field) (placed-within n bits fits))

-- those of these bits that a write changes
writes-within : (n : NamedField) (written : ℕ) → bit_and written (named n).writable < 2 ^ (named n).bits
writes-within n written = omega (arith, writable-within n, and_le_r written (named n).writable)

pub target-within : (n : NamedField) (f : FieldId) (low writable written : ℕ) → f ≡ (named n).field → low ≡ (named n).low → writable ≡ (named n).writable
    → (bit_and written writable * 2 ^ low) % 2 ^ 128 < 2 ^ width_of f
target-within n f low writable written is_field is_low is_writable =
    subst (λ (w : ℕ). (bit_and written w * 2 ^ low) % 2 ^ 128 < 2 ^ width_of f) (sym is_writable)
    (shifted-within n f low is_field is_low (bit_and written (named n).writable) (writes-within n written))

pub target_by_code : (n : NamedField) (f : FieldId) (low writable written : ℕ) (mask new : List ℕ) → f ≡ (named n).field → low ≡ (named n).low → writable ≡ (named n).writable
    → new ≡ added mask (bits_written f ((bit_and written writable * 2 ^ low) % 2 ^ 128)) → new ≡ added mask (bits_written (named n).field (written_bits n written))
target_by_code n f low writable written mask new is_field is_low is_writable consulted =
    consulted
    ∙ ap₂ (λ (g : FieldId) (w : ℕ). added mask (bits_written g ((bit_and written w * 2 ^ low) % 2 ^ 128))) is_field is_writable
    ∙ ap (λ (x : ℕ). added mask (bits_written (named n).field x)) (shifted_by_code n f low is_field is_low (bit_and written (named n).writable) (writes-within n written))

-- ---- slices

module _ (s : Slice) (f : FieldId) (low bits : ℕ) (sound : IsTrue (is_sound_slice s)) (is_field : f ≡ (named s.name).field) (is_low : low ≡ (named s.name).low) (is_bits : bits ≡ slice_bits s) where
  pub slice-within : (bits * 2 ^ low) % 2 ^ 128 < 2 ^ width_of f
  slice-within =
      subst (λ (b : ℕ). (b * 2 ^ low) % 2 ^ 128 < 2 ^ width_of f) (sym is_bits)
      (shifted-within s.name f low is_field is_low (slice_bits s) (slice_bits-within s (within_from_sound s sound)))

  pub slice_by_code : (mask new : List ℕ) → new ≡ added mask (bits_read f ((bits * 2 ^ low) % 2 ^ 128)) → new ≡ added mask (slice_read s)
  slice_by_code mask new consulted =
      consulted
      ∙ ap₂ (λ (g : FieldId) (b : ℕ). added mask (bits_read g ((b * 2 ^ low) % 2 ^ 128))) is_field is_bits
      ∙ ap (λ (x : ℕ). added mask (bits_read (named s.name).field x)) (shifted_by_code s.name f low is_field is_low (slice_bits s) (slice_bits-within s (within_from_sound s sound)))
