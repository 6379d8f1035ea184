use Rattle.std.proofs.Common.{◌≡◌, ◌++◌, drop}
use Rattle.spec_tools.specs.Lines.{differing}
use Rattle.table_diff.specs.Cubes.{cubes_view}
use Rattle.class_list.specs.LineViews.{lines_view}
use Rattle.class_list.proofs.agreeing.add_cubes.Given as goal

-- what is left of the lines comes behind
abbrev pub invariant-lines : goal.invariant-lines
invariant-lines l = cubes_view l.work.items ++ differing (lines_view (drop l.line-index l.lines)) ≡ cubes_view l.fn.work.items ++ differing (lines_view l.lines)
