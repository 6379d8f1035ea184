use Rattle.std.proofs.Common.{sym, ap, ◌∙◌}
use Rattle.spec_keys.specs.Keys.{joined}
use Rattle.table_laws.proofs.UnionLaws.{joined_assoc}
use Rattle.ovs_fields.specs.Packed.{bits}
use Rattle.masked_map.specs.Compact.{list_of}
use Rattle.masked_map.proofs.mask_union.MaskUnion.add_compact.Goals as goal

pub returns : goal.returns
returns c =
    let rest = bits c.args.self.now.rest in
    ap (joined rest) c.or-self.ensures ∙ sym (joined_assoc rest (list_of c.args.self.now.compact.fields) (list_of c.args.mask.now.fields))
