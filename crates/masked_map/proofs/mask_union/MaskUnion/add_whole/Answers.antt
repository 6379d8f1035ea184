use Rattle.std.proofs.Common.{ap, ◌∙◌}
use Rattle.spec_keys.specs.Keys.{joined}
use Rattle.masked_map.proofs.UnionLaws.{joined_turned}
use Rattle.ovs_fields.specs.Packed.{bits}
use Rattle.masked_map.specs.Compact.{list_of}
use Rattle.masked_map.proofs.mask_union.MaskUnion.add_whole.Goals as goal

pub returns : goal.returns
returns c =
    let compact = list_of c.args.self.now.compact.fields in
    ap (λ m. joined m compact) c.or-self.ensures ∙ joined_turned (bits c.args.self.now.rest) (bits c.args.mask.now) compact
