-- Slices of named fields, as shifts and masks compute them.
use Rattle.std.proofs.Common.{◌≡◌, ℕ, ◌+◌, ◌-◌, ◌*◌, ◌/◌, ◌%◌, ◌≤◌, ◌<◌, ◌^◌, List, nat_lt, nat_le, bit_and, IsTrue, ap, ◌∙◌, subst, lt-ltb, ltb-true, leb-true, pow_pos, pow_mono, arith, not}
use Rattle.std.proofs.lemmas.Bool.{and_parts}
use Rattle.std.proofs.lemmas.Nat.{shl_whole, shl_below, shr_below, pow-add, and_le_r}
use Rattle.spec_base.specs.Bits.{all_bits}
use Rattle.spec_actions.specs.declared.named_field.NamedField.{NamedField}
use Rattle.spec_actions.specs.declared.action.Slice.{Slice}
use Rattle.spec_actions.specs.Named.{named, is_printed_alone}
use Rattle.spec_actions.specs.Sound.{is_sound_slice, fits_name}
use Rattle.spec_keys.specs.Keys.{value_of}
use Rattle.spec_xlate.specs.Translation.{in_field, slice_bits, slice_of}
use Rattle.named_fields.proofs.NamedLaws.{named-most}

-- A slice has its bits in order, and within its name.
pub record IsWithin (s : Slice) : Type 0 where
  pub ordered : s.low ≤ s.high
  pub within : s.high < (named s.name).bits

pub within_from_sound : (s : Slice) → IsTrue (is_sound_slice s) → IsWithin s
within_from_sound s sound =
    let parts = and_parts (nat_le s.low s.high) (nat_lt s.high (named s.name).bits) (and_parts (not (is_printed_alone s.name)) _ sound).1 in
    record { ordered = leb-true s.low s.high parts.0; within = ltb-true s.high (named s.name).bits parts.1 }

-- the bits up to one, without those below another
pub bits_between : (low high : ℕ) → low ≤ high → all_bits (high + 1) - all_bits low ≡ 2 ^ (high + 1) - 2 ^ low
bits_between low high ordered =
    let le : 2 ^ low ≤ 2 ^ (high + 1) = pow_mono (omega arith) in omega (arith, pow_pos low, le)

pub slice_bits-within : (s : Slice) → IsWithin s → slice_bits s < 2 ^ (named s.name).bits
slice_bits-within s w =
    let le : 2 ^ (s.high + 1) ≤ 2 ^ (named s.name).bits = pow_mono (omega (arith, w.within)) in
    let pos = pow_pos s.low in
    let above = pow_pos (s.high + 1) in omega arith

pub slice_bits-fit : (s : Slice) → IsWithin s → IsTrue (fits_name s.name (slice_bits s))
slice_bits-fit s w = lt-ltb (slice_bits s) (2 ^ (named s.name).bits) (slice_bits-within s w)

-- bits of a name at their place in 128 bits
pub placed : (n : NamedField) (bits : ℕ) → bits < 2 ^ (named n).bits → (bits * 2 ^ (named n).low) % 2 ^ 128 ≡ in_field n bits
placed n bits fits = shl_whole bits (named n).bits (named n).low 128 fits (omega (arith, named-most n))

-- a read by a mask and a shift
pub read_shifted : (key : List ℕ) (s : Slice) → IsWithin s → bit_and (value_of key (named s.name).field) ((slice_bits s * 2 ^ (named s.name).low) % 2 ^ 128) / 2 ^ (s.low + (named s.name).low) ≡ slice_of key s
read_shifted key s w =
    ap (λ (m : ℕ). bit_and (value_of key (named s.name).field) m / 2 ^ (s.low + (named s.name).low)) (placed s.name (slice_bits s) (slice_bits-within s w))
    ∙ ap (λ (d : ℕ). bit_and (value_of key (named s.name).field) (in_field s.name (slice_bits s)) / d) (pow-add 2 s.low (named s.name).low)

-- the same by what the code has of them
pub read_by_code : (key : List ℕ) (s : Slice) (value bits low : ℕ) → IsWithin s → value ≡ value_of key (named s.name).field → bits ≡ slice_bits s → low ≡ (named s.name).low
    → bit_and value ((bits * 2 ^ low) % 2 ^ 128) / 2 ^ (s.low + low) ≡ slice_of key s
read_by_code key s value bits low w is_value is_bits is_low = rw (is_value, is_bits, is_low) (read_shifted key s w)

-- what is read is no wider than the slice
pub slice_of-within : (key : List ℕ) (s : Slice) → IsWithin s → slice_of key s < 2 ^ (s.high - s.low + 1)
slice_of-within key s w =
    let name = named s.name in
    let value = value_of key name.field in
    let top : slice_bits s < 2 ^ (s.high + 1) = omega (arith, pow_pos s.low, pow_pos (s.high + 1)) in
    let mask : in_field s.name (slice_bits s) < 2 ^ ((s.high + 1) + name.low) = shl_below (slice_bits s) (s.high + 1) name.low top in
    let masked : bit_and value (in_field s.name (slice_bits s)) < 2 ^ ((s.high + 1) + name.low) = omega (arith, mask, and_le_r value (in_field s.name (slice_bits s))) in
    let same : (s.high + 1) + name.low ≡ (s.high - s.low + 1) + (s.low + name.low) = omega (arith, w.ordered) in
    let read : bit_and value (in_field s.name (slice_bits s)) / 2 ^ (s.low + name.low) < 2 ^ (s.high - s.low + 1) =
    shr_below (bit_and value (in_field s.name (slice_bits s))) (s.high - s.low + 1) (s.low + name.low) (subst (λ (k : ℕ). bit_and value (in_field s.name (slice_bits s)) < 2 ^ k) same masked) in
    subst (λ (d : ℕ). bit_and value (in_field s.name (slice_bits s)) / d < 2 ^ (s.high - s.low + 1)) (pow-add 2 s.low name.low) read
