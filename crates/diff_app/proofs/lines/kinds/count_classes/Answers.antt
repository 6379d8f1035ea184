use Rattle.std.proofs.Common.{length, ap, arith}
use Rattle.spec_tools.specs.DiffTexts.{kinds_in}
use Rattle.class_list.specs.LineViews.{said_view, lines_view}
use Rattle.diff_app.proofs.lines.KindLaws.{classes_step, no_later, one_class}
use Rattle.diff_app.proofs.lines.kinds.count_classes.Goals as goal

pub lines-preserved : goal.lines-preserved
lines-preserved c =
    let lines = c.args.lines.now in
    let x = c.line-item.result in
    let one = c.count_class-count.ensures in
    record {
      counted = classes_step lines c.lines.line-index x c.lines.count c.count_class-count.result (length (kinds_in (lines_view lines))) c.lines-test.true c.line-item.is one c.lines.invariant.counted;
      few = let few = c.lines.invariant.few in let small = one_class (said_view x.class) in omega (arith, few, small, one);
    }

pub returns : goal.returns
returns c =
    let none = ap length (no_later c.args.lines.now c.lines.line-index c.lines-test.false) in
    let counted = c.lines.invariant.counted in
    omega (arith, none, counted)
