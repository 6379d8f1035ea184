use Rattle.std.proofs.Common.{[]}
use Rattle.std.specs.Prelude.{IsTrue}
use Rattle.std.specs.List.{list_all}
use Rattle.spec_tables.specs.Rules.{Rule}
use Rattle.spec_tables.specs.Bundles.{edits_through}
use Rattle.spec_case.specs.Run.{last_version}
use Rattle.spec_flow_text.specs.Actions.{is_respellable}
use Rattle.spec_run.specs.Rules.{comes_before, counts_of, live_rules}
use Rattle.table_laws.proofs.MemberLaws.{Among, All-Among, Among-sort_by}
use Rattle.text_laws.proofs.PlainValues.{ValueTexts}
use Rattle.text_laws.proofs.ValuesBack.{ReadValues}
use Rattle.text_laws.proofs.matches.FlowTexts.{spelled_sound}
use Rattle.text_laws.proofs.round_trips.EditTexts.{edit_matching, edit_actions}
use Rattle.output_laws.specs.Lines.{IsWritable}
use Rattle.output_laws.specs.Dumps.{dumped_rules}
use Rattle.output_laws.proofs.rule_text.Back.{rule_feedless}
use Rattle.output_laws.proofs.rule_text.Stated.{rules_made}
use Rattle.output_laws.proofs.rule_text.Dumped.{script_is, rules_are}
use Rattle.output_laws.proofs.rule_text.dumps.dumped_rules_read_back.Goals as goal

pub returns-clause-script : goal.returns-clause-script
returns-clause-script c run journals d =
    let texts : ValueTexts = record {
      four_digits = c.numbers_have_value_characters.ensures.hexadecimal4;
      macs = c.addresses_have_value_characters.ensures.mac;
      ipv4s = c.addresses_have_value_characters.ensures.ipv4;
      ipv6s = c.addresses_have_value_characters.ensures.ipv6;
      ipv4_masks = c.masks_have_value_characters.ensures.ipv4;
      ipv6_masks = c.masks_have_value_characters.ensures.ipv6;
    } in
    let v : ReadValues = record {
      texts = texts;
      decimal_characters = c.numbers_have_value_characters.ensures.decimal;
      hexadecimal_characters = c.numbers_have_value_characters.ensures.hexadecimal;
      decimals = c.decimal_reads_back.ensures;
      hexadecimals = c.hexadecimal_reads_back.ensures;
      four_digits = c.hexadecimal4_reads_back.ensures;
      macs = c.mac_reads_back.ensures;
      ipv4s = c.ipv4_reads_back.ensures;
      ipv6s = c.ipv6_reads_back.ensures;
      ipv4_masks = c.ipv4_mask_reads_back.ensures;
      ipv6_masks = c.ipv6_mask_reads_back.ensures;
    } in
    let matching = edit_matching (λ word at line t h. c.read_match_can_be_spelled.ensures word at line t h) in
    let actions = edit_actions (λ at line actions h again. c.read_actions_can_be_spelled.ensures at line actions h again) in
    let writable : (r : Rule) → Among r (dumped_rules run) → IsWritable r = λ r there.
    let live = Among-sort_by comes_before r (live_rules run) there in
    let made = rules_made c.numbers_are_within.ensures matching actions run.edits d.read (edits_through run.bundles (last_version run)) r live in
    let again = All-Among (λ (x : Rule). IsTrue (list_all is_respellable x.actions)) (live_rules run) d.respellable r live in
    record { cookie = made.cookie; table = made.table; priority = made.priority; matching = made.matching; actions = made.actions again } in
    script_is run journals d
    (λ r there. c.printed_rules_read_back.ensures.back (counts_of run journals r.number) r (d.counts r.number) (writable r there))
    (λ r there.
    let w = writable r there in
    rule_feedless v (counts_of run journals r.number) (d.counts r.number) r w (c.printed_actions_are_one_line.ensures r.actions (spelled_sound r.actions w.actions)))

pub returns-clause-rules : goal.returns-clause-rules
returns-clause-rules c run = rules_are run []
