use Rattle.std.proofs.Common.{ℕ, ◌*◌, ◌^◌, IsTrue, sym, ap, ap₂, ◌∙◌, subst}
use Rattle.spec_actions.specs.Sound.{fits_name}
use Rattle.spec_xlate.specs.Translation.{write}
use Rattle.pipe_model.specs.States.{state_of}
use Rattle.pipe_model.proofs.Moving.{move_from_sound, moved-whole, moved_fits}
use Rattle.pipe_model.proofs.translating.Translating.copy_bits.Goals as goal

pub write-requires : goal.write-requires
write-requires c =
    let is_move = move_from_sound c.args.from c.args.to c.requires in
    let number = c.read_slice-number.result in
    subst (λ (x : ℕ). IsTrue (fits_name c.args.to.name x)) (sym (moved-whole c.args.from c.args.to number is_move c.read_slice-number.ensures.within))
    (moved_fits c.args.from c.args.to number is_move c.read_slice-number.ensures.within)

pub slice_bits-requires : goal.slice_bits-requires
slice_bits-requires c = (move_from_sound c.args.from c.args.to c.requires).target_sound

pub returns : goal.returns
returns c =
    let is_move = move_from_sound c.args.from c.args.to c.requires in
    let number = c.read_slice-number.result in
    c.write.ensures
    ∙ ap₂ (λ (value bits : ℕ). write c.args.to.name value bits (state_of c.args.self.now))
    (moved-whole c.args.from c.args.to number is_move c.read_slice-number.ensures.within ∙ ap (λ (n : ℕ). n * 2 ^ c.args.to.low) c.read_slice-number.ensures.value)
    c.slice_bits.ensures.bits
