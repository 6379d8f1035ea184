use Rattle.std.proofs.Common.{◌≡◌, ◌++◌, drop, string_bytes}
use Rattle.std.specs.List.{flat_map}
use Rattle.spec_flow_text.specs.Printed.{shown_field}
use Rattle.rule_tables.specs.Views.{match_view}
use Rattle.text_numbers.specs.Added.{IsPrefix}
use Rattle.match_text.specs.Shown.{items_text, begun_after}
use Rattle.match_text.proofs.printing.print_fields.Given as goal

-- what is printed so far, and then the items of the fields to come, are those of all
abbrev pub invariant-fields : goal.invariant-fields
invariant-fields l = record {
  printed : string_bytes l.out ++ items_text l.begun (flat_map (shown_field (match_view l.m) l.shorthand) (drop l.field-index l.fields))
      ≡ string_bytes l.fn.out ++ items_text l.fn.begun (flat_map (shown_field (match_view l.m) l.shorthand) l.fields);
  begun : begun_after l.begun (flat_map (shown_field (match_view l.m) l.shorthand) (drop l.field-index l.fields))
      ≡ begun_after l.fn.begun (flat_map (shown_field (match_view l.m) l.shorthand) l.fields);
  kept : IsPrefix (string_bytes l.fn.out) (string_bytes l.out);
}
