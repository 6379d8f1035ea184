use Rattle.text_laws.proofs.round_trips.PartsRead.{ReadRanges}
use Rattle.text_laws.proofs.item_order.SwappedLines.{line_alike, both_read}
use Rattle.text_laws.proofs.item_order.order.order_of_items_changes_nothing.Goals as goal

pub returns-clause-alike : goal.returns-clause-alike
returns-clause-alike c word at front one other back s t u es et eu i j le m h =
    let k : ReadRanges = record {
      numbers = c.numbers_are_within.ensures;
      macs = c.addresses_are_within.ensures.mac;
      ipv4s = c.addresses_are_within.ensures.ipv4;
      ipv6s = c.addresses_are_within.ensures.ipv6;
      ipv4_masks = c.masks_are_within.ensures.ipv4;
      ipv6_masks = c.masks_are_within.ensures.ipv6;
    } in
    line_alike k word at front s one t other u back m es et eu i j le h

pub returns-clause-faults : goal.returns-clause-faults
returns-clause-faults c word at front one other back s t u es et eu i j le =
    let k : ReadRanges = record {
      numbers = c.numbers_are_within.ensures;
      macs = c.addresses_are_within.ensures.mac;
      ipv4s = c.addresses_are_within.ensures.ipv4;
      ipv6s = c.addresses_are_within.ensures.ipv6;
      ipv4_masks = c.masks_are_within.ensures.ipv4;
      ipv6_masks = c.masks_are_within.ensures.ipv6;
    } in
    both_read k word at front s one t other u back es et eu i j le
