use Rattle.std.proofs.Common.{◌≡◌, ◌+◌, ◌≤◌, length}
use Rattle.spec_tools.specs.DiffTexts.{kinds_in, kinds_of}
use Rattle.class_list.specs.LineViews.{lines_view}
use Rattle.diff_app.proofs.lines.KindLaws.{later_kinds}
use Rattle.diff_app.proofs.lines.kinds.count_kinds.Given as goal

-- with those of the lines that are left, all are counted
abbrev pub invariant-lines : goal.invariant-lines
invariant-lines l = record {
  counted : l.count + length (kinds_of (later_kinds l.lines l.i)) ≡ length (kinds_of (kinds_in (lines_view l.lines)));
  few : l.count ≤ l.i;
}
