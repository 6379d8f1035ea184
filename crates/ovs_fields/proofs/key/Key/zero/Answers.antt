use Rattle.ovs_fields.proofs.KeyLaws.{key_from_none}
use Rattle.ovs_fields.proofs.key.Key.zero.Goals as goal

pub invariant_of-result : goal.invariant_of-result
invariant_of-result c = record { is_key = key_from_none _ c.zero.ensures }
