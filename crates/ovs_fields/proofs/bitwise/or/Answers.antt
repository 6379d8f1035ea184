use Rattle.spec_keys.specs.Keys.{joined}
use Rattle.ovs_fields.specs.Packed.{bits}
use Rattle.ovs_fields.proofs.KeyLaws.{joined-is_key}
use Rattle.ovs_fields.proofs.bitwise.or.Goals as goal

pub invariant_of-result : goal.invariant_of-result
unfolding joined
invariant_of-result c =
    record { is_key = joined-is_key (bits c.args.a.now) (bits c.args.b.now) c.args.a.now.is_key c.args.b.now.is_key }
