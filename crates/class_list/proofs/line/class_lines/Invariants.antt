use Rattle.std.proofs.Common.{◌≡◌, ◌++◌, drop}
use Rattle.table_diff.specs.Cubes.{classes_view}
use Rattle.class_list.specs.LineViews.{lines_view, class_lines}
use Rattle.class_list.proofs.line.class_lines.Given as goal

-- what is left of the classes comes behind
abbrev pub invariant-classes : goal.invariant-classes
invariant-classes l = lines_view l.lines.items ++ class_lines (classes_view (drop l.class-index l.classes)) ≡ class_lines (classes_view l.classes)
