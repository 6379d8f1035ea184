use Rattle.std.proofs.Common.{refl}
use Rattle.text_laws.proofs.PlainValues.{ValueTexts}
use Rattle.text_laws.proofs.ValuesBack.{ReadValues}
use Rattle.text_laws.proofs.matches.FlowTexts.{spelled_sound}
use Rattle.output_laws.proofs.rule_text.Back.{commented_back}
use Rattle.output_laws.proofs.rule_text.lines.printed_rules_read_back.Goals as goal

pub returns-clause-line : goal.returns-clause-line
returns-clause-line c counts r = refl

pub returns-clause-back : goal.returns-clause-back
returns-clause-back c counts r few w =
    let texts : ValueTexts = record {
      four_digits = c.numbers_have_value_characters.ensures.hexadecimal4;
      macs = c.addresses_have_value_characters.ensures.mac;
      ipv4s = c.addresses_have_value_characters.ensures.ipv4;
      ipv6s = c.addresses_have_value_characters.ensures.ipv6;
      ipv4_masks = c.masks_have_value_characters.ensures.ipv4;
      ipv6_masks = c.masks_have_value_characters.ensures.ipv6;
    } in
    let v : ReadValues = record {
      texts = texts;
      decimal_characters = c.numbers_have_value_characters.ensures.decimal;
      hexadecimal_characters = c.numbers_have_value_characters.ensures.hexadecimal;
      decimals = c.decimal_reads_back.ensures;
      hexadecimals = c.hexadecimal_reads_back.ensures;
      four_digits = c.hexadecimal4_reads_back.ensures;
      macs = c.mac_reads_back.ensures;
      ipv4s = c.ipv4_reads_back.ensures;
      ipv6s = c.ipv6_reads_back.ensures;
      ipv4_masks = c.ipv4_mask_reads_back.ensures;
      ipv6_masks = c.ipv6_mask_reads_back.ensures;
    } in
    commented_back v counts few r w (c.printed_actions_are_one_line.ensures r.actions (spelled_sound r.actions w.actions))
    (λ front clean. c.printed_actions_read_back.ensures.behind front r.actions clean w.actions)
    (λ line white e is read. c.separators_at_the_end_change_nothing.ensures.edit line white e is read)
