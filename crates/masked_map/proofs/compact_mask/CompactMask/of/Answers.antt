use Rattle.std.proofs.Common.{sym, subst}
use Rattle.spec_keys.specs.Keys.{IsKey}
use Rattle.masked_map.proofs.compact_mask.CompactMask.of.Goals as goal

pub invariant_of-result : goal.invariant_of-result
invariant_of-result c = record { within = subst IsKey (sym c.in_ok-fields.ensures.some) c.args.mask.now.is_key }
