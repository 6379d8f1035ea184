use Rattle.std.proofs.Common.{◌≡◌, ◌++◌, string_bytes}
use Rattle.std.specs.List.{flat_map}
use Rattle.spec_tools.specs.DiffTexts.{kinds_in, kinds_of, kind_line, kinds_text}
use Rattle.class_list.specs.LineViews.{lines_view}
use Rattle.text_numbers.specs.Added.{IsPrefix}
use Rattle.diff_app.proofs.lines.KindLaws.{later_kinds}
use Rattle.diff_app.proofs.lines.text.print_kinds.Given as goal

-- with the text of those that are left it is all
abbrev pub invariant-lines : goal.invariant-lines
invariant-lines l = record {
  whole : string_bytes l.out ++ flat_map (kind_line (kinds_in (lines_view l.lines))) (kinds_of (later_kinds l.lines l.i))
      ≡ string_bytes l.fn.out ++ kinds_text (kinds_in (lines_view l.lines));
  begins : IsPrefix (string_bytes l.fn.out) (string_bytes l.out);
}
