use Rattle.ovs_fields.specs.Packed.{bits}
use Rattle.spec_keys.specs.Fields.{stages}
use Rattle.spec_keys.specs.Stages.{through, network_stage}
use Rattle.ovs_fields.proofs.KeyLaws.{staged-is_key}
use Rattle.ovs_fields.proofs.bitwise.network_part.Goals as goal

pub invariant_of-result : goal.invariant_of-result
unfolding through stages
invariant_of-result c =
    record { is_key = staged-is_key network_stage (bits c.args.mask.now) c.args.mask.now.is_key }
