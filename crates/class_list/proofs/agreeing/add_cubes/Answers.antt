use Rattle.table_diff.specs.Cubes.{cubes_view}
use Rattle.class_list.proofs.ListLaws.{differing_step, differing_end}
use Rattle.class_list.proofs.agreeing.add_cubes.Goals as goal

pub lines-preserved : goal.lines-preserved
lines-preserved c =
    differing_step c.args.lines.now c.lines.line-index c.line-item.result _ (cubes_view c.lines.work.items) (cubes_view c.add_cube.new.work.items)
    c.lines-test.true c.line-item.is c.in_ok-add_cube.ensures c.lines.invariant

pub returns : goal.returns
returns c = differing_end c.args.lines.now c.lines.line-index _ (cubes_view c.lines.work.items) c.lines-test.false c.lines.invariant
