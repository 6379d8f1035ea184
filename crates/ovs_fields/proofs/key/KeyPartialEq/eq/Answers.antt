use Rattle.ovs_fields.specs.Packed.{numbers}
use Rattle.ovs_fields.specs.Equality.{Decides-same}
use Rattle.ovs_fields.proofs.key.KeyPartialEq.eq.Goals as goal

pub returns-clause-equal : goal.returns-clause-equal
returns-clause-equal c = rw c.is_same.ensures (Decides-same (numbers c.args.self.now) (numbers c.args.other.now))
