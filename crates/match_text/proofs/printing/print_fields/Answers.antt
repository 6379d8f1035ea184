use Rattle.std.proofs.Common.{string_bytes, sym, ◌∙◌}
use Rattle.spec_keys.specs.declared.field_id.FieldId.TheVariants.{InPort}
use Rattle.spec_flow_text.specs.Printed.{shown_field}
use Rattle.rule_tables.specs.Views.{match_view}
use Rattle.match_text.proofs.ItemTexts.{one_more, one_more_begun, none_left, none_left_begun, begins_before}
use Rattle.match_text.proofs.printing.print_fields.Goals as goal

pub fields-preserved : goal.fields-preserved
fields-preserved c = record {
  printed = rw c.in_ok-begun.ensures.begun (one_more (shown_field (match_view c.args.m.now) c.args.shorthand) c.fields.begun (string_bytes c.fields.out)
      (string_bytes c.print_field.new.out) c.args.fields.now c.fields.field-index InPort c.fields-test.true c.in_ok-begun.ensures.added.text)
      ∙ c.fields.invariant.printed;
  begun = rw c.in_ok-begun.ensures.begun (one_more_begun (shown_field (match_view c.args.m.now) c.args.shorthand) c.fields.begun
      c.args.fields.now c.fields.field-index InPort c.fields-test.true)
      ∙ c.fields.invariant.begun;
  kept = begins_before _ _ _ _ c.fields.invariant.kept c.in_ok-begun.ensures.added.text;
}

pub returns-clause-added : goal.returns-clause-added
returns-clause-added c = record {
  text = sym (none_left (shown_field (match_view c.args.m.now) c.args.shorthand) c.fields.begun (string_bytes c.fields.out) c.args.fields.now c.fields.field-index c.fields-test.false)
      ∙ c.fields.invariant.printed;
  kept = tt;
}

pub returns-clause-begun : goal.returns-clause-begun
returns-clause-begun c =
    sym (none_left_begun (shown_field (match_view c.args.m.now) c.args.shorthand) c.fields.begun c.args.fields.now c.fields.field-index c.fields-test.false)
    ∙ c.fields.invariant.begun
