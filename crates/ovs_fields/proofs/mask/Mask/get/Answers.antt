use Rattle.ovs_fields.proofs.KeyLaws.{within_width}
use Rattle.ovs_fields.proofs.mask.Mask.get.Goals as goal

pub returns-clause-within : goal.returns-clause-within
returns-clause-within c = rw c.get.ensures (within_width _ c.args.field c.args.self.now.is_key)
