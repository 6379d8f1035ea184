use Rattle.std.proofs.Common.{List, ℕ, ap, ◌∙◌}
use Rattle.spec_keys.specs.Keys.{masked}
use Rattle.masked_map.specs.Compact.{list_of}
use Rattle.masked_map.proofs.CompactLaws.{masked-compacted}
use Rattle.masked_map.proofs.packet_key.PacketKey.masked.Goals as goal

pub returns : goal.returns
returns c =
    c.and.ensures ∙ ap (λ (l : List ℕ). masked l (list_of c.args.mask.now)) c.args.self.now.taken ∙ masked-compacted c.args.self.now.key.now.fields c.args.mask.now
