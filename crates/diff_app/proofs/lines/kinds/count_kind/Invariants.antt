use Rattle.std.proofs.Common.{◌≡◌, ◌+◌, ◌≤◌}
use Rattle.std.specs.List.{count_by}
use Rattle.spec_tools.specs.DiffTexts.{is_same_kind, kinds_in}
use Rattle.class_list.specs.LineViews.{lines_view}
use Rattle.diff_app.specs.Pieces.{kind_view}
use Rattle.diff_app.proofs.lines.KindLaws.{later_kinds}
use Rattle.diff_app.proofs.lines.kinds.count_kind.Given as goal

-- with those that are left, all are counted
abbrev pub invariant-others : goal.invariant-others
invariant-others l = record {
  counted : l.count + count_by (is_same_kind (kind_view l.class)) (later_kinds l.others l.other-index)
      ≡ count_by (is_same_kind (kind_view l.class)) (kinds_in (lines_view l.others));
  few : l.count ≤ l.other-index;
}
