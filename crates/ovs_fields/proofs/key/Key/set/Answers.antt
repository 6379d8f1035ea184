use Rattle.ovs_fields.proofs.KeyLaws.{key_from_set}
use Rattle.ovs_fields.proofs.key.Key.set.Goals as goal

pub invariant_of-self : goal.invariant_of-self
invariant_of-self c =
    record { is_key = key_from_set _ _ c.args.field c.args.value c.set.ensures c.args.self.now.is_key c.requires }
