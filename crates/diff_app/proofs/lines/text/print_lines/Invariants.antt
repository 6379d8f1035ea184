use Rattle.std.proofs.Common.{◌≡◌, ◌++◌, drop, string_bytes}
use Rattle.std.specs.List.{flat_map}
use Rattle.spec_tools.specs.DiffTexts.{line_text}
use Rattle.class_list.specs.LineViews.{lines_view}
use Rattle.text_numbers.specs.Added.{IsPrefix}
use Rattle.diff_app.proofs.lines.text.print_lines.Given as goal

-- with the text of those that are left it is all
abbrev pub invariant-lines : goal.invariant-lines
invariant-lines l = record {
  whole : string_bytes l.out ++ flat_map line_text (lines_view (drop l.line-index l.lines))
      ≡ string_bytes l.fn.out ++ flat_map line_text (lines_view l.lines);
  begins : IsPrefix (string_bytes l.fn.out) (string_bytes l.out);
}
