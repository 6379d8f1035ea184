use Rattle.std.proofs.Common.{ap}
use Rattle.spec_actions.specs.Named as table
use Rattle.ovs_fields.specs.Packed.{bits}
use Rattle.xlate_pipeline.proofs.Placed.{slice-within, slice_by_code}
use Rattle.xlate_pipeline.proofs.consulting.consult_slice.Goals as goal

pub consult_read-requires : goal.consult_read-requires
consult_read-requires c =
    slice-within c.args.slice.now c.named-at.result.field c.named-at.result.low c.slice_bits.result c.requires
    (ap (λ (n : table.Named). n.field) c.named-at.ensures) (ap (λ (n : table.Named). n.low) c.named-at.ensures) c.slice_bits.ensures.bits

pub returns : goal.returns
returns c =
    slice_by_code c.args.slice.now c.named-at.result.field c.named-at.result.low c.slice_bits.result c.requires
    (ap (λ (n : table.Named). n.field) c.named-at.ensures) (ap (λ (n : table.Named). n.low) c.named-at.ensures) c.slice_bits.ensures.bits
    (bits c.args.mask.now) (bits c.consult_read.new.mask) c.consult_read.ensures
