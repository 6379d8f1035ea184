use Rattle.std.proofs.Common.{sym, subst}
use Rattle.spec_keys.specs.Keys.{IsKey}
use Rattle.ovs_fields.proofs.KeyLaws.{joined-is_key}
use Rattle.masked_map.specs.Compact.{list_of}
use Rattle.masked_map.proofs.compact_mask.CompactMask.or.Goals as goal

pub invariant_of-result : goal.invariant_of-result
invariant_of-result c =
    record { within = subst IsKey (sym c.or.ensures) (joined-is_key (list_of c.args.self.now.fields) (list_of c.args.other.now.fields) c.args.self.now.within c.args.other.now.within) }
