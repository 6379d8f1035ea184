use Rattle.table_diff.specs.Cubes.{cubes_view}
use Rattle.class_list.specs.LineViews.{lines_view}
use Rattle.class_list.specs.Agreeing.{IsSettled}
use Rattle.class_list.proofs.agreeing.settle_all.Given as goal

abbrev pub invariant-cubes : goal.invariant-cubes
invariant-cubes l = IsSettled (lines_view l.a) (lines_view l.b) (cubes_view l.fn.work.items) (cubes_view l.work.items)
