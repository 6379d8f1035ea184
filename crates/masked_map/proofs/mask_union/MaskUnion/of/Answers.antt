use Rattle.std.proofs.Common.{ap, ◌∙◌}
use Rattle.spec_keys.specs.Keys.{joined}
use Rattle.ovs_fields.specs.Packed.{bits}
use Rattle.masked_map.proofs.UnionLaws.{joined-none}
use Rattle.masked_map.proofs.mask_union.MaskUnion.of.Goals as goal

pub returns : goal.returns
returns c = ap (joined (bits c.args.mask.now)) c.none.ensures ∙ joined-none (bits c.args.mask.now) c.args.mask.now.is_key
