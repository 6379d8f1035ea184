use Rattle.std.proofs.Common.{◌≡◌, ◌++◌, false, drop, string_bytes}
use Rattle.std.specs.List.{flat_map}
use Rattle.spec_run.specs.Megaflows.{stated}
use Rattle.text_numbers.specs.Added.{IsPrefix}
use Rattle.match_text.specs.Shown.{items_text}
use Rattle.dump_lines.specs.Views.{match_of}
use Rattle.dump_lines.proofs.megaflows.matches.print_fields.Given as goal

-- what is printed so far, and then what is stated of the fields to come, are those of all
abbrev pub invariant-fields : goal.invariant-fields
invariant-fields l = record {
  printed : string_bytes l.out ++ items_text l.begun (flat_map (stated (match_of l.key l.mask)) (drop l.field-index l.fields))
      ≡ string_bytes l.fn.out ++ items_text false (flat_map (stated (match_of l.key l.mask)) l.fields);
  kept : IsPrefix (string_bytes l.fn.out) (string_bytes l.out);
}
