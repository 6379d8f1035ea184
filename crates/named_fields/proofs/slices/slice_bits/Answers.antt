use Rattle.std.proofs.Common.{◌≡◌, ℕ, ◌+◌, ◌-◌, ◌≤◌, ◌^◌, IsTrue, sym, ap₂, ◌∙◌, subst, pow_mono, arith}
use Rattle.spec_actions.specs.Sound.{fits_name}
use Rattle.spec_xlate.specs.Translation.{slice_bits}
use Rattle.named_fields.proofs.SliceLaws.{within_from_sound, bits_between, slice_bits-fit}
use Rattle.named_fields.proofs.slices.slice_bits.Goals as goal

pub overflow_sub-result : goal.overflow_sub-result
overflow_sub-result c =
    let s = c.args.slice.now in
    let w = within_from_sound s c.requires in
    let le : 2 ^ s.low ≤ 2 ^ (s.high + 1) = pow_mono (omega (arith, w.ordered)) in omega (arith, c.low_bits.ensures, c.low_bits-2.ensures)

pub returns-clause-within : goal.returns-clause-within
returns-clause-within c =
    let s = c.args.slice.now in
    let w = within_from_sound s c.requires in
    let is : c.low_bits.result - c.low_bits-2.result ≡ slice_bits s = ap₂ (λ (a b : ℕ). a - b) c.low_bits.ensures c.low_bits-2.ensures ∙ bits_between s.low s.high w.ordered in
    subst (λ (b : ℕ). IsTrue (fits_name s.name b)) (sym is) (slice_bits-fit s w)
