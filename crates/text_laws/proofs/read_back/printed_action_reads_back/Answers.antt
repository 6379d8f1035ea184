use Rattle.text_laws.proofs.PlainValues.{ValueTexts}
use Rattle.text_laws.proofs.ValuesBack.{ReadValues}
use Rattle.text_laws.proofs.ActionsBack.{action_back}
use Rattle.text_laws.proofs.read_back.printed_action_reads_back.Goals as goal

pub returns : goal.returns
returns c only last action h g place =
    let texts : ValueTexts = record {
      four_digits = c.numbers_have_value_characters.ensures.hexadecimal4;
      macs = c.addresses_have_value_characters.ensures.mac;
      ipv4s = c.addresses_have_value_characters.ensures.ipv4;
      ipv6s = c.addresses_have_value_characters.ensures.ipv6;
      ipv4_masks = c.masks_have_value_characters.ensures.ipv4;
      ipv6_masks = c.masks_have_value_characters.ensures.ipv6;
    } in
    let r : ReadValues = record {
      texts = texts;
      decimal_characters = c.numbers_have_value_characters.ensures.decimal;
      hexadecimal_characters = c.numbers_have_value_characters.ensures.hexadecimal;
      decimals = c.decimal_reads_back.ensures;
      hexadecimals = c.hexadecimal_reads_back.ensures;
      four_digits = c.hexadecimal4_reads_back.ensures;
      macs = c.mac_reads_back.ensures;
      ipv4s = c.ipv4_reads_back.ensures;
      ipv6s = c.ipv6_reads_back.ensures;
      ipv4_masks = c.ipv4_mask_reads_back.ensures;
      ipv6_masks = c.ipv6_mask_reads_back.ensures;
    } in
    action_back r only last action h g place
