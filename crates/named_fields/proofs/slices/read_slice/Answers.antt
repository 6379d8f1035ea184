use Rattle.std.proofs.Common.{ℕ, ◌+◌, ◌-◌, ◌<◌, ◌^◌, sym, ap, ◌∙◌, subst, arith}
use Rattle.spec_keys.specs.Keys.{value_of}
use Rattle.spec_actions.specs.Named as table
use Rattle.ovs_fields.specs.Packed.{numbers}
use Rattle.named_fields.proofs.NamedLaws.{named-most}
use Rattle.named_fields.proofs.SliceLaws.{within_from_sound, read_by_code, slice_of-within}
use Rattle.named_fields.proofs.slices.read_slice.Goals as goal

pub overflow_shr-result : goal.overflow_shr-result
overflow_shr-result c =
    let s = c.args.slice.now in
    let w = within_from_sound s c.requires in
    let most = named-most s.name in
    omega (arith, w.ordered, w.within, most, ap (λ (n : table.Named). n.low) c.named-at.ensures)

pub returns-clause-value : goal.returns-clause-value
returns-clause-value c =
    let s = c.args.slice.now in
    let key = numbers c.args.key.now in
    read_by_code key s c.get.result c.slice_bits.result c.named-at.result.low (within_from_sound s c.requires)
    (c.get.ensures.value ∙ ap (λ (n : table.Named). value_of key n.field) c.named-at.ensures) c.slice_bits.ensures.bits (ap (λ (n : table.Named). n.low) c.named-at.ensures)

pub returns-clause-within : goal.returns-clause-within
returns-clause-within c =
    let s = c.args.slice.now in
    let key = numbers c.args.key.now in
    let w = within_from_sound s c.requires in
    subst (λ (x : ℕ). x < 2 ^ (s.high - s.low + 1))
    (sym (read_by_code key s c.get.result c.slice_bits.result c.named-at.result.low w
    (c.get.ensures.value ∙ ap (λ (n : table.Named). value_of key n.field) c.named-at.ensures) c.slice_bits.ensures.bits (ap (λ (n : table.Named). n.low) c.named-at.ensures)))
    (slice_of-within key s w)
