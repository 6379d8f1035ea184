use Rattle.std.proofs.Common.{rules, ◌≡◌, ◌++◌, List, [], ◌∷◌, subst}
use Rattle.table_diff.specs.declared.cube.Cube.{Cube}
use Rattle.table_diff.specs.Cubes.{cubes_view}
use Rattle.class_list.specs.LineViews.{lines_view}
use Rattle.class_list.specs.Agreeing.{IsSettled}
use Rattle.class_list.proofs.HoldLaws.{settled_none, settled_then}
use Rattle.class_list.proofs.agreeing.settle_all.Goals as goal

pub cubes-init : goal.cubes-init
cubes-init c = settled_none (lines_view c.args.a.now) (lines_view c.args.b.now) (cubes_view c.args.work.items)

pub cubes-preserved : goal.cubes-preserved
cubes-preserved c =
    let a = lines_view c.args.a.now in
    let b = lines_view c.args.b.now in
    let first = cubes_view c.args.work.items in
    let taken : c.cubes.work.items ≡ c.pop.new.self.items ++ c.in-Some.cube ∷ [] = search rules in
    settled_then a b first (cubes_view (c.pop.new.self.items ++ c.in-Some.cube ∷ [])) (cubes_view c.settle.new.work.items)
    (subst (λ (w : List Cube). IsSettled a b first (cubes_view w)) taken c.cubes.invariant)
    (c.in_ok-same-in-Some.ensures c.if-not-same.false)

pub returns-in-None : goal.returns-in-None
returns-in-None c is =
    let none : c.cubes.work.items ≡ [] = search rules in
    subst (λ (w : List Cube). IsSettled (lines_view c.args.a.now) (lines_view c.args.b.now) (cubes_view c.args.work.items) (cubes_view w)) none c.cubes.invariant
