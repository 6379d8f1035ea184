use Rattle.text_laws.proofs.round_trips.PartsRead.{ReadRanges}
use Rattle.text_laws.proofs.round_trips.ListsRead.{actions_read}
use Rattle.text_laws.proofs.round_trips.actions_read.read_actions_can_be_spelled.Goals as goal

pub returns : goal.returns
returns c at line actions h again =
    let k : ReadRanges = record {
      numbers = c.numbers_are_within.ensures;
      macs = c.addresses_are_within.ensures.mac;
      ipv4s = c.addresses_are_within.ensures.ipv4;
      ipv6s = c.addresses_are_within.ensures.ipv6;
      ipv4_masks = c.masks_are_within.ensures.ipv4;
      ipv6_masks = c.masks_are_within.ensures.ipv6;
    } in
    actions_read k at line actions h again
