use Rattle.std.proofs.Common.{ap}
use Rattle.spec_actions.specs.Named as table
use Rattle.spec_actions.specs.Named.{named}
use Rattle.spec_xlate.specs.Translation.{written_bits}
use Rattle.spec_xlate.specs.Consulted.{bits_written}
use Rattle.ovs_fields.specs.Packed.{numbers, bits}
use Rattle.xlate_pipeline.proofs.Needing.{under-met}
use Rattle.xlate_pipeline.proofs.consulting.consult_set.Goals as goal

pub returns-then-consult_needs : goal.returns-then-consult_needs
returns-then-consult_needs c =
    let name = c.args.name in
    under-met (named name).write_needs c.named.result.write_needs (numbers c.args.key.now) (bits_written (named name).field (written_bits name c.args.written))
    (bits c.args.mask.now) (bits c.consult_needs.new.mask) (bits c.consult_target.new.mask)
    (ap (λ (n : table.Named). n.write_needs) c.named.ensures) c.if-consult_needs.ensures.met c.consult_needs.ensures.mask c.consult_target.ensures
