use Rattle.spec_keys.specs.Keys.{masked}
use Rattle.ovs_fields.specs.Packed.{numbers}
use Rattle.masked_map.specs.Compact.{list_of}
use Rattle.masked_map.proofs.packet_key.PacketKey.mark.Goals as goal

pub returns : goal.returns
returns c =
    let key = c.args.self.now in
    let mask = c.args.mask.now in
    c.mark.ensures (masked (numbers key.key.now) (list_of mask.bits.fields)) (c.and.ensures (numbers key.key.now) (list_of mask.bits.fields) key.key.now.is_key mask.bits.within key.worded mask.worded)
