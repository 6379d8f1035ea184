use Rattle.std.proofs.Common.{◌≡◌, ◌++◌, List, ap, ◌∙◌}
use Rattle.std.proofs.lemmas.Result.{IfOk-weaker}
use Rattle.spec_tables.specs.Rules.{Match}
use Rattle.spec_tools.specs.Lines.{differing}
use Rattle.table_diff.specs.declared.cube.Cube.{Cube}
use Rattle.table_diff.specs.Cubes.{cubes_view}
use Rattle.class_list.specs.LineViews.{lines_view}
use Rattle.class_list.proofs.HoldLaws.{settled_all}
use Rattle.class_list.proofs.agreeing.compare_lists.Goals as goal

pub returns : goal.returns
returns c =
    let a = lines_view c.args.a.now in
    let b = lines_view c.args.b.now in
    let first = cubes_view c.add_cubes-2.new.work.items in
    let is_all : first ≡ differing b ++ differing a =
    c.in_ok-add_cubes-2.ensures
    ∙ ap (λ (ms : List Match). ms ++ differing a) (c.in_ok-add_cubes.ensures ∙ ap (λ (w : List Cube). cubes_view w ++ differing b) c.new-work.ensures.items) in
    IfOk-weaker c.settle_all.result _ _ (λ found settled is. settled_all a b first is_all (settled is)) c.settle_all.ensures
