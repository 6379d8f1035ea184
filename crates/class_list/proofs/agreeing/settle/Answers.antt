use Rattle.std.proofs.Common.{sym, ◌∙◌, ◌++◌, [], ◌∷◌}
use Rattle.table_diff.specs.Cubes.{cubes_view}
use Rattle.class_list.specs.LineViews.{lines_view}
use Rattle.class_list.proofs.HoldLaws.{settled_split, settled_cube}
use Rattle.class_list.proofs.agreeing.settle.Goals as goal

pub returns-in_ok-halve-in-Some : goal.returns-in_ok-halve-in-Some
returns-in_ok-halve-in-Some c is =
    settled_split (lines_view c.args.a.now) (lines_view c.args.b.now) (cubes_view (c.args.work.now.items ++ c.args.cube ∷ [])) (cubes_view c.halve.new.work.items)
    c.in_ok-halve-in-Some.ensures

pub returns-in-None : goal.returns-in-None
returns-in-None c is =
    settled_cube (lines_view c.args.a.now) (lines_view c.args.b.now) c.args.work.now.items c.args.cube c.in-None.ensures.first c.in-None.ensures.second
    (sym c.said.ensures ∙ c.is_same_said.ensures is ∙ c.said-in-None.ensures)
