use Rattle.std.proofs.Common.{◌∙◌}
use Rattle.ovs_fields.specs.Packed.{numbers}
use Rattle.masked_map.proofs.MapLaws.{lookup_at}
use Rattle.masked_map.proofs.map.get_whole.Goals as goal

pub returns : goal.returns
returns g c = c.value_of.ensures ∙ lookup_at numbers c.args.map.now.entries c.masked.result _ c.masked.ensures
