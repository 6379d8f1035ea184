-- A move's bits fit where they go.
use Rattle.std.proofs.Common.{◌≡◌, ℕ, ◌+◌, ◌-◌, ◌*◌, ◌%◌, ◌≤◌, ◌<◌, ◌^◌, ◌&&◌, ◌==◌, IsTrue, subst, lt-ltb, eqb-true, pow_mono, arith}
use Rattle.std.proofs.lemmas.Bool.{and_parts}
use Rattle.std.proofs.lemmas.Nat.{shl_whole, shl_below}
use Rattle.spec_actions.specs.declared.action.Slice.{Slice}
use Rattle.spec_actions.specs.declared.action.OfAction.TheVariants.{Move}
use Rattle.spec_actions.specs.Named.{named}
use Rattle.spec_actions.specs.Sound.{is_written, is_sound_slice, is_sound, fits_name}
use Rattle.named_fields.proofs.NamedLaws.{named-most}
use Rattle.named_fields.proofs.SliceLaws.{within_from_sound}

pub record IsMove (source target : Slice) : Type 0 where
  pub source_sound : IsTrue (is_sound_slice source)
  pub target_sound : IsTrue (is_sound_slice target)
  pub same_width : source.high - source.low ≡ target.high - target.low

pub move_from_sound : (source target : Slice) → IsTrue (is_sound (Move source target)) → IsMove source target
move_from_sound source target sound =
    let first = and_parts (is_sound_slice source) (is_sound_slice target && (is_written target.name && (source.high - source.low == target.high - target.low))) sound in
    let second = and_parts (is_sound_slice target) (is_written target.name && (source.high - source.low == target.high - target.low)) first.1 in
    let third = and_parts (is_written target.name) (source.high - source.low == target.high - target.low) second.1 in
    record { source_sound = first.0; target_sound = second.0; same_width = eqb-true (source.high - source.low) (target.high - target.low) third.1 }

-- the number that is read, at its place in the target's name
pub moved-within : (source target : Slice) (number : ℕ) → IsMove source target → number < 2 ^ (source.high - source.low + 1) → number * 2 ^ target.low < 2 ^ (named target.name).bits
moved-within source target number is_move read =
    let w = within_from_sound target is_move.target_sound in
    let narrow : number < 2 ^ (target.high - target.low + 1) = subst (λ (k : ℕ). number < 2 ^ (k + 1)) is_move.same_width read in
    let placed : number * 2 ^ target.low < 2 ^ ((target.high - target.low + 1) + target.low) = shl_below number (target.high - target.low + 1) target.low narrow in
    let le : 2 ^ ((target.high - target.low + 1) + target.low) ≤ 2 ^ (named target.name).bits = pow_mono (omega (arith, w.ordered, w.within)) in
    omega arith

pub moved-whole : (source target : Slice) (number : ℕ) → IsMove source target → number < 2 ^ (source.high - source.low + 1) → (number * 2 ^ target.low) % 2 ^ 128 ≡ number * 2 ^ target.low
moved-whole source target number is_move read =
    let w = within_from_sound target is_move.target_sound in
    let narrow : number < 2 ^ (target.high - target.low + 1) = subst (λ (k : ℕ). number < 2 ^ (k + 1)) is_move.same_width read in
    shl_whole number (target.high - target.low + 1) target.low 128 narrow (omega (arith, w.ordered, w.within, named-most target.name))

pub moved_fits : (source target : Slice) (number : ℕ) → IsMove source target → number < 2 ^ (source.high - source.low + 1) → IsTrue (fits_name target.name (number * 2 ^ target.low))
moved_fits source target number is_move read = lt-ltb (number * 2 ^ target.low) (2 ^ (named target.name).bits) (moved-within source target number is_move read)
