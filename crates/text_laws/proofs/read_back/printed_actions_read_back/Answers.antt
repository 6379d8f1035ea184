use Rattle.std.proofs.Common.{[], refl}
use Rattle.text_laws.proofs.PlainValues.{ValueTexts}
use Rattle.text_laws.proofs.ValuesBack.{ReadValues}
use Rattle.text_laws.proofs.ListsBack.{actions_back}
use Rattle.text_laws.proofs.read_back.printed_actions_read_back.Goals as goal

pub returns-clause-alone : goal.returns-clause-alone
returns-clause-alone c actions h =
    let texts : ValueTexts = record {
      four_digits = c.numbers_have_value_characters.ensures.hexadecimal4;
      macs = c.addresses_have_value_characters.ensures.mac;
      ipv4s = c.addresses_have_value_characters.ensures.ipv4;
      ipv6s = c.addresses_have_value_characters.ensures.ipv6;
      ipv4_masks = c.masks_have_value_characters.ensures.ipv4;
      ipv6_masks = c.masks_have_value_characters.ensures.ipv6;
    } in
    let r : ReadValues = record {
      texts = texts;
      decimal_characters = c.numbers_have_value_characters.ensures.decimal;
      hexadecimal_characters = c.numbers_have_value_characters.ensures.hexadecimal;
      decimals = c.decimal_reads_back.ensures;
      hexadecimals = c.hexadecimal_reads_back.ensures;
      four_digits = c.hexadecimal4_reads_back.ensures;
      macs = c.mac_reads_back.ensures;
      ipv4s = c.ipv4_reads_back.ensures;
      ipv6s = c.ipv6_reads_back.ensures;
      ipv4_masks = c.ipv4_mask_reads_back.ensures;
      ipv6_masks = c.ipv6_mask_reads_back.ensures;
    } in
    actions_back r [] actions refl h

pub returns-clause-behind : goal.returns-clause-behind
returns-clause-behind c front actions clean h =
    let texts : ValueTexts = record {
      four_digits = c.numbers_have_value_characters.ensures.hexadecimal4;
      macs = c.addresses_have_value_characters.ensures.mac;
      ipv4s = c.addresses_have_value_characters.ensures.ipv4;
      ipv6s = c.addresses_have_value_characters.ensures.ipv6;
      ipv4_masks = c.masks_have_value_characters.ensures.ipv4;
      ipv6_masks = c.masks_have_value_characters.ensures.ipv6;
    } in
    let r : ReadValues = record {
      texts = texts;
      decimal_characters = c.numbers_have_value_characters.ensures.decimal;
      hexadecimal_characters = c.numbers_have_value_characters.ensures.hexadecimal;
      decimals = c.decimal_reads_back.ensures;
      hexadecimals = c.hexadecimal_reads_back.ensures;
      four_digits = c.hexadecimal4_reads_back.ensures;
      macs = c.mac_reads_back.ensures;
      ipv4s = c.ipv4_reads_back.ensures;
      ipv6s = c.ipv6_reads_back.ensures;
      ipv4_masks = c.ipv4_mask_reads_back.ensures;
      ipv6_masks = c.ipv6_mask_reads_back.ensures;
    } in
    actions_back r front actions clean h
