use Rattle.std.proofs.Common.{◌∙◌}
use Rattle.masked_map.specs.Compact.{list_of}
use Rattle.masked_map.proofs.MapLaws.{lookup_at}
use Rattle.masked_map.proofs.compact_map.CompactMap.get_hashed.Goals as goal

pub returns : goal.returns
returns g c = c.get.ensures.value ∙ lookup_at list_of c.args.self.now.by_key.entries c.masked.result _ c.masked.ensures
