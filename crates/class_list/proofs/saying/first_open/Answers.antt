use Rattle.std.proofs.Common.{refl, sym, ◌∙◌}
use Rattle.class_list.proofs.SaidLaws.{pass_line, stop_at_line, pass_all}
use Rattle.class_list.proofs.saying.first_open.Goals as goal

pub lines-init : goal.lines-init
lines-init c key h = refl

pub lines-preserved : goal.lines-preserved
lines-preserved c =
    pass_line c.args.lines.now c.args.cube.now c.lines.line-index c.lines.invariant c.line-item.result c.lines-test.true c.line-item.is
    (sym c.tells.ensures ∙ c.if-not-tells.false) (sym c.has.ensures ∙ c.if-has.false)

pub returns-then-has : goal.returns-then-has
returns-then-has c =
    stop_at_line c.args.lines.now c.args.cube.now c.lines.line-index c.lines.invariant c.line-item.result c.lines-test.true c.line-item.is
    (sym c.tells.ensures ∙ c.if-not-tells.false) (sym c.has.ensures ∙ c.if-has.true)

pub returns : goal.returns
returns c = pass_all c.args.lines.now c.args.cube.now c.lines.line-index c.lines.invariant c.lines-test.false
