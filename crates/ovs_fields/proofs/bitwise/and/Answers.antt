use Rattle.spec_keys.specs.Keys.{masked}
use Rattle.ovs_fields.specs.Packed.{bits}
use Rattle.ovs_fields.proofs.KeyLaws.{common_bits-is_key}
use Rattle.ovs_fields.proofs.bitwise.and.Goals as goal

pub invariant_of-result : goal.invariant_of-result
unfolding masked
invariant_of-result c =
    record { is_key = common_bits-is_key (bits c.args.a.now) (bits c.args.b.now) c.args.a.now.is_key }
