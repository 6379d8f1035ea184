use Rattle.std.proofs.Common.{◌≡◌, ◌+◌, ◌++◌, length, ap, ◌∙◌, Some, Ok, arith, length-append}
use Rattle.std.specs.Prelude.{codes}
use Rattle.std.proofs.lemmas.Bool.{not-true}
use Rattle.spec_flow_text.specs.Items.{deletes}
use Rattle.spec_flow_text.specs.Printed.{match_printed}
use Rattle.text_laws.proofs.PlainValues.{ValueTexts}
use Rattle.text_laws.proofs.ValuesBack.{ReadValues}
use Rattle.text_laws.specs.SpelledMatches.{match_alone}
use Rattle.text_laws.proofs.matches.LinesBack.{alone_back, listed_back}
use Rattle.text_laws.proofs.matches.matches_back.printed_match_reads_back.Goals as goal

pub returns-clause-alone : goal.returns-clause-alone
returns-clause-alone c m s word front delete clean =
    let texts : ValueTexts = record {
      four_digits = c.numbers_have_value_characters.ensures.hexadecimal4;
      macs = c.addresses_have_value_characters.ensures.mac;
      ipv4s = c.addresses_have_value_characters.ensures.ipv4;
      ipv6s = c.addresses_have_value_characters.ensures.ipv6;
      ipv4_masks = c.masks_have_value_characters.ensures.ipv4;
      ipv6_masks = c.masks_have_value_characters.ensures.ipv6;
    } in
    let r : ReadValues = record {
      texts = texts;
      decimal_characters = c.numbers_have_value_characters.ensures.decimal;
      hexadecimal_characters = c.numbers_have_value_characters.ensures.hexadecimal;
      decimals = c.decimal_reads_back.ensures;
      hexadecimals = c.hexadecimal_reads_back.ensures;
      four_digits = c.hexadecimal4_reads_back.ensures;
      macs = c.mac_reads_back.ensures;
      ipv4s = c.ipv4_reads_back.ensures;
      ipv6s = c.ipv6_reads_back.ensures;
      ipv4_masks = c.ipv4_mask_reads_back.ensures;
      ipv6_masks = c.ipv6_mask_reads_back.ensures;
    } in
    alone_back r word front m delete clean s

pub returns-clause-before_actions : goal.returns-clause-before_actions
returns-clause-before_actions c m list s plain word front add clean =
    let texts : ValueTexts = record {
      four_digits = c.numbers_have_value_characters.ensures.hexadecimal4;
      macs = c.addresses_have_value_characters.ensures.mac;
      ipv4s = c.addresses_have_value_characters.ensures.ipv4;
      ipv6s = c.addresses_have_value_characters.ensures.ipv6;
      ipv4_masks = c.masks_have_value_characters.ensures.ipv4;
      ipv6_masks = c.masks_have_value_characters.ensures.ipv6;
    } in
    let r : ReadValues = record {
      texts = texts;
      decimal_characters = c.numbers_have_value_characters.ensures.decimal;
      hexadecimal_characters = c.numbers_have_value_characters.ensures.hexadecimal;
      decimals = c.decimal_reads_back.ensures;
      hexadecimals = c.hexadecimal_reads_back.ensures;
      four_digits = c.hexadecimal4_reads_back.ensures;
      macs = c.mac_reads_back.ensures;
      ipv4s = c.ipv4_reads_back.ensures;
      ipv6s = c.ipv6_reads_back.ensures;
      ipv4_masks = c.ipv4_mask_reads_back.ensures;
      ipv6_masks = c.ipv6_mask_reads_back.ensures;
    } in
    let place : length front + length (match_printed m) + 9 ≡ length (front ++ (match_printed m ++ codes ",actions=")) =
    omega (arith, length-append front (match_printed m ++ codes ",actions="), length-append (match_printed m) (codes ",actions=")) in
    listed_back r word front m list (not-true (deletes word) add) clean s plain ∙ ap (λ n. Ok (match_alone m (Some n))) place
