use Rattle.spec_keys.specs.Keys.{masked}
use Rattle.ovs_fields.specs.Packed.{numbers, bits}
use Rattle.ovs_fields.proofs.KeyLaws.{common_bits-is_key}
use Rattle.ovs_fields.proofs.bitwise.masked.Goals as goal

pub invariant_of-result : goal.invariant_of-result
unfolding masked
invariant_of-result c =
    record { is_key = common_bits-is_key (numbers c.args.key.now) (bits c.args.mask.now) c.args.key.now.is_key }
