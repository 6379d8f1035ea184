use Rattle.std.proofs.Common.{ap}
use Rattle.spec_actions.specs.Named as table
use Rattle.ovs_fields.specs.Packed.{bits}
use Rattle.xlate_pipeline.proofs.Placed.{target-within, target_by_code}
use Rattle.xlate_pipeline.proofs.consulting.consult_target.Goals as goal

pub consult_written-requires : goal.consult_written-requires
consult_written-requires c =
    target-within c.args.name c.named-at.result.field c.named-at.result.low c.named-at.result.writable c.args.written
    (ap (λ (n : table.Named). n.field) c.named-at.ensures) (ap (λ (n : table.Named). n.low) c.named-at.ensures) (ap (λ (n : table.Named). n.writable) c.named-at.ensures)

pub returns : goal.returns
returns c =
    target_by_code c.args.name c.named-at.result.field c.named-at.result.low c.named-at.result.writable c.args.written (bits c.args.mask.now) (bits c.consult_written.new.mask)
    (ap (λ (n : table.Named). n.field) c.named-at.ensures) (ap (λ (n : table.Named). n.low) c.named-at.ensures) (ap (λ (n : table.Named). n.writable) c.named-at.ensures)
    c.consult_written.ensures
