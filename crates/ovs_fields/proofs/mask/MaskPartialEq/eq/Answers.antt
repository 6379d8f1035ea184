use Rattle.ovs_fields.specs.Packed.{bits}
use Rattle.ovs_fields.specs.Equality.{Decides-same}
use Rattle.ovs_fields.proofs.mask.MaskPartialEq.eq.Goals as goal

pub returns-clause-equal : goal.returns-clause-equal
returns-clause-equal c = rw c.is_same.ensures (Decides-same (bits c.args.self.now) (bits c.args.other.now))
