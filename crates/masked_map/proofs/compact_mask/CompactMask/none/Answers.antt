use Rattle.ovs_fields.proofs.KeyLaws.{key_from_none}
use Rattle.masked_map.specs.Compact.{list_of}
use Rattle.masked_map.proofs.compact_mask.CompactMask.none.Goals as goal

pub invariant_of-result : goal.invariant_of-result
invariant_of-result c = record { within = key_from_none (list_of c.zero.result) c.zero.ensures }
