use Rattle.text_laws.proofs.round_trips.PartsRead.{ReadRanges}
use Rattle.text_laws.proofs.round_trips.ReadSpelled.{read_spelled}
use Rattle.text_laws.proofs.round_trips.matches_read.read_match_can_be_spelled.Goals as goal

pub returns : goal.returns
returns c word at line t h =
    let k : ReadRanges = record {
      numbers = c.numbers_are_within.ensures;
      macs = c.addresses_are_within.ensures.mac;
      ipv4s = c.addresses_are_within.ensures.ipv4;
      ipv6s = c.addresses_are_within.ensures.ipv6;
      ipv4_masks = c.masks_are_within.ensures.ipv4;
      ipv6_masks = c.masks_are_within.ensures.ipv6;
    } in
    read_spelled k word at line t h
