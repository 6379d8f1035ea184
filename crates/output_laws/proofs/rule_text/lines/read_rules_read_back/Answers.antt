use Rattle.table_laws.proofs.MemberLaws.{All_from-Among}
use Rattle.text_laws.proofs.round_trips.EditTexts.{edit_matching, edit_actions}
use Rattle.output_laws.specs.Lines.{ReadsBack}
use Rattle.output_laws.proofs.rule_text.Stated.{rules_made}
use Rattle.output_laws.proofs.rule_text.lines.read_rules_read_back.Goals as goal

pub returns : goal.returns
returns c edits n read =
    let matching = edit_matching (λ word at line t h. c.read_match_can_be_spelled.ensures word at line t h) in
    let actions = edit_actions (λ at line actions h again. c.read_actions_can_be_spelled.ensures at line actions h again) in
    All_from-Among ReadsBack _ (λ r there again counts few.
    let made = rules_made c.numbers_are_within.ensures matching actions edits read n r there in
    c.printed_rules_read_back.ensures.back counts r few (record {
      cookie = made.cookie;
      table = made.table;
      priority = made.priority;
      matching = made.matching;
      actions = made.actions again;
    }))
