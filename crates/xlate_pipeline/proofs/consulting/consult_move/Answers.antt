use Rattle.std.proofs.Common.{List, ℕ, ◌++◌, ◌-◌, ◌&&◌, ◌==◌, ap, sym, ◌∙◌}
use Rattle.std.proofs.lemmas.Bool.{and_parts}
use Rattle.spec_actions.specs.Sound.{is_written, is_sound_slice}
use Rattle.spec_actions.specs.Named as table
use Rattle.spec_actions.specs.Named.{named}
use Rattle.spec_xlate.specs.Translation.{slice_bits, written_bits}
use Rattle.spec_xlate.specs.Lookup.{added}
use Rattle.spec_xlate.specs.Consulted.{bits_written, slice_read}
use Rattle.ovs_fields.specs.Packed.{numbers, bits}
use Rattle.table_laws.proofs.UnionLaws.{added-append}
use Rattle.xlate_pipeline.proofs.Needing.{under-met, under-unmet}
use Rattle.xlate_pipeline.proofs.consulting.consult_move.Goals as goal

pub slice_bits-requires : goal.slice_bits-requires
slice_bits-requires c =
    let from = c.args.from in
    let to = c.args.to in
    let last = is_written to.name && (from.high - from.low == to.high - to.low) in
    (and_parts (is_sound_slice to) last (and_parts (is_sound_slice from) (is_sound_slice to && last) c.requires).1).0

pub returns-then-consult_needs : goal.returns-then-consult_needs
returns-then-consult_needs c =
    let name = c.args.to.name in
    let source = slice_read c.args.from in
    let target = bits_written (named name).field (written_bits name (slice_bits c.args.to)) in
    let needed = bits c.consult_needs.new.mask in
    under-met (named name).write_needs c.named.result.write_needs (numbers c.args.key.now) (source ++ target)
    (bits c.args.mask.now) needed (bits c.consult_target.new.mask)
    (ap (λ (n : table.Named). n.write_needs) c.named.ensures) c.if-consult_needs.ensures.met c.consult_needs.ensures.mask
    (c.consult_target.ensures
    ∙ ap (λ (b : ℕ). added (bits c.consult_slice.new.mask) (bits_written (named name).field (written_bits name b))) c.slice_bits.ensures.bits
    ∙ ap (λ (m : List ℕ). added m target) c.consult_slice.ensures
    ∙ sym (added-append needed source target))

pub returns-else-consult_needs : goal.returns-else-consult_needs
returns-else-consult_needs c =
    let name = c.args.to.name in
    under-unmet (named name).write_needs c.named.result.write_needs (numbers c.args.key.now) (slice_read c.args.from ++ bits_written (named name).field (written_bits name (slice_bits c.args.to)))
    (bits c.args.mask.now) (bits c.consult_needs.new.mask)
    (ap (λ (n : table.Named). n.write_needs) c.named.ensures) c.if-consult_needs.ensures.met c.consult_needs.ensures.mask
