-- Numbers that are written to slices.
use Rattle.std.proofs.Common.{◌≡◌, ℕ, ◌+◌, ◌-◌, ◌*◌, ◌/◌, ◌%◌, ◌^◌, ◌<◌, ◌≤◌, nat_lt, nat_le, IsTrue, sym, ap, ◌∙◌, arith, pow_pos, pow_mono, lt-ltb, ltb-true}
use Rattle.std.specs.Prelude.{bit_and, ◌&&◌}
use Rattle.std.proofs.Math.Nat.{div-lt_iff_lt-mul}
use Rattle.std.proofs.lemmas.Bool.{and_parts}
use Rattle.std.proofs.lemmas.Bool.Decides.{nat_tests}
use Rattle.std.proofs.lemmas.Nat.{shl_whole, shl_below, pow-add, and_le_r}
use Rattle.spec_base.specs.Bits.{all_bits}
use Rattle.spec_actions.specs.declared.named_field.NamedField.{NamedField}
use Rattle.spec_actions.specs.declared.action.Slice.{Slice}
use Rattle.spec_actions.specs.declared.action.OfAction.TheVariants.{Set}
use Rattle.spec_actions.specs.Named.{named}
use Rattle.spec_actions.specs.Sound.{is_written, is_sound_slice, fits_name, is_sound}
use Rattle.spec_xlate.specs.Translation.{slice_bits}
use Rattle.spec_flow_text.specs.Actions.{slice_width}
use Rattle.field_text.specs.declared.values.Bits.{Bits}
use Rattle.field_text.specs.Views.{Fits}
use Rattle.named_fields.proofs.NamedLaws.{named-most}
use Rattle.named_fields.proofs.SliceLaws.{IsWithin, within_from_sound}

double : (d : ℕ) → 2 ^ (d + 1) ≡ 2 * 2 ^ d
double d = let e : 2 ^ (d + 1) ≡ 2 ^ d * 2 ^ 1 = pow-add 2 d 1 in omega (arith, e)

-- a number is below a power of two where a shift leaves at most 1 of it
pub fits_test : (n d : ℕ) → nat_le (n / 2 ^ d) 1 ≡ nat_lt n (2 ^ (d + 1))
fits_test n d =
    let iff = div-lt_iff_lt-mul {k = 2 ^ d} {x = n} {y = 2} (pow_pos d) in
    let e = double d in
    grind (arith, nat_tests, iff, e)

extent : (s : Slice) → IsWithin s → slice_width s + s.low ≡ s.high + 1
extent s w = omega (arith, w.ordered)

extent_most : (s : Slice) → IsWithin s → slice_width s + s.low ≤ 128
extent_most s w = omega (arith, w.ordered, w.within, named-most s.name)

-- the number where it is written
pub shifted : (n : ℕ) (s : Slice) → IsTrue (is_sound_slice s) → n < 2 ^ slice_width s → (n * 2 ^ s.low) % 2 ^ 128 ≡ n * 2 ^ s.low
shifted n s sound lt = shl_whole n (slice_width s) s.low 128 lt (extent_most s (within_from_sound s sound))

pub shifted_fits : (n : ℕ) (s : Slice) → IsTrue (is_sound_slice s) → n < 2 ^ slice_width s → IsTrue (fits_name s.name (n * 2 ^ s.low))
shifted_fits n s sound lt =
    let w = within_from_sound s sound in
    let below : n * 2 ^ s.low < 2 ^ (slice_width s + s.low) = shl_below n (slice_width s) s.low lt in
    let most : 2 ^ (slice_width s + s.low) ≤ 2 ^ (named s.name).bits = pow_mono (omega (arith, w.ordered, w.within)) in
    lt-ltb (n * 2 ^ s.low) (2 ^ (named s.name).bits) (omega arith)

product : (k b : ℕ) → (k + 1) * b - b ≡ k * b
product k b = omega arith

less_one : (a b c : ℕ) → c ≡ a * b → 0 < a → c - b ≡ (a - 1) * b
less_one a b c e lt =
    let one_more : a ≡ (a - 1) + 1 = omega arith in
    ap (λ n. n - b) (e ∙ ap (λ n. n * b) one_more) ∙ product (a - 1) b

-- and the bits that it is written to
pub mask_shifted : (s : Slice) → IsTrue (is_sound_slice s) → slice_bits s ≡ all_bits (slice_width s) * 2 ^ s.low
mask_shifted s sound =
    let w = within_from_sound s sound in
    let whole : 2 ^ (s.high + 1) ≡ 2 ^ slice_width s * 2 ^ s.low = ap (λ n. 2 ^ n) (sym (extent s w)) ∙ pow-add 2 (slice_width s) s.low in
    let pos = pow_pos (slice_width s) in
    less_one (2 ^ slice_width s) (2 ^ s.low) (2 ^ (s.high + 1)) whole pos

-- ---- values with masks

pub masked_fits : (f : NamedField) (b : Bits) → Fits f b → IsTrue (fits_name f (bit_and b.value b.mask))
masked_fits f b fits =
    let below : bit_and b.value b.mask < 2 ^ (named f).bits = omega (arith, fits.1, and_le_r b.value b.mask) in
    lt-ltb (bit_and b.value b.mask) (2 ^ (named f).bits) below

pub mask_fits : (f : NamedField) (b : Bits) → Fits f b → IsTrue (fits_name f b.mask)
mask_fits f b fits = lt-ltb b.mask (2 ^ (named f).bits) fits.1

-- what a sound write has
pub set_fits : (f : NamedField) (value mask : ℕ) → IsTrue (is_sound (Set f value mask)) → Fits f (record { value = value; mask = mask })
set_fits f value mask sound =
    let parts = and_parts (is_written f) (fits_name f value && fits_name f mask) sound in
    let fits = and_parts (fits_name f value) (fits_name f mask) parts.1 in
    (ltb-true value (2 ^ (named f).bits) fits.0, ltb-true mask (2 ^ (named f).bits) fits.1)
