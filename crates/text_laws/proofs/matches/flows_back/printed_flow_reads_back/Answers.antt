use Rattle.std.proofs.Common.{◌++◌, length, refl, ap, ◌∙◌, Some, None}
use Rattle.std.specs.Prelude.{codes}
use Rattle.spec_flow_text.specs.Actions.{read_actions}
use Rattle.spec_flow_text.specs.Printed.{match_printed, actions_printed}
use Rattle.text_laws.proofs.PlainValues.{ValueTexts}
use Rattle.text_laws.proofs.ValuesBack.{ReadValues}
use Rattle.text_laws.specs.SpelledMatches.{match_alone}
use Rattle.text_laws.proofs.matches.FlowTexts.{spelled_sound, before_list, list_behind, front_clean, flow_read, match_read_alone}
use Rattle.text_laws.proofs.matches.flows_back.printed_flow_reads_back.Goals as goal

pub returns-clause-flow : goal.returns-clause-flow
returns-clause-flow c m actions s h word front add clean =
    let texts : ValueTexts = record {
      four_digits = c.numbers_have_value_characters.ensures.hexadecimal4;
      macs = c.addresses_have_value_characters.ensures.mac;
      ipv4s = c.addresses_have_value_characters.ensures.ipv4;
      ipv6s = c.addresses_have_value_characters.ensures.ipv6;
      ipv4_masks = c.masks_have_value_characters.ensures.ipv4;
      ipv6_masks = c.masks_have_value_characters.ensures.ipv6;
    } in
    let r : ReadValues = record {
      texts = texts;
      decimal_characters = c.numbers_have_value_characters.ensures.decimal;
      hexadecimal_characters = c.numbers_have_value_characters.ensures.hexadecimal;
      decimals = c.decimal_reads_back.ensures;
      hexadecimals = c.hexadecimal_reads_back.ensures;
      four_digits = c.hexadecimal4_reads_back.ensures;
      macs = c.mac_reads_back.ensures;
      ipv4s = c.ipv4_reads_back.ensures;
      ipv6s = c.ipv6_reads_back.ensures;
      ipv4_masks = c.ipv4_mask_reads_back.ensures;
      ipv6_masks = c.ipv6_mask_reads_back.ensures;
    } in
    let list = actions_printed actions in
    let plain = c.printed_actions_are_one_line.ensures actions (spelled_sound actions h) in
    let matching = c.printed_match_reads_back.ensures.before_actions m list s plain word front add clean in
    let read = c.printed_actions_read_back.ensures.behind (before_list front m) actions (front_clean r front m clean s) h in
    flow_read word (length front) (front ++ (match_printed m ++ (codes ",actions=" ++ list))) (match_alone m (Some (length (before_list front m)))) (length (before_list front m)) actions matching refl (ap (read_actions (length (before_list front m))) (list_behind front m list) ∙ read)

pub returns-clause-alone : goal.returns-clause-alone
returns-clause-alone c m s word front delete clean =
    match_read_alone word (length front) (front ++ match_printed m) (match_alone m None) (c.printed_match_reads_back.ensures.alone m s word front delete clean) refl
