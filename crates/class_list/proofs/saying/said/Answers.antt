use Rattle.std.proofs.Common.{sym, ◌∙◌}
use Rattle.ovs_fields.specs.Packed.{numbers}
use Rattle.class_list.proofs.SaidLaws.{said_here, said_later, said_nowhere}
use Rattle.class_list.proofs.saying.said.Goals as goal

pub lines-preserved : goal.lines-preserved
lines-preserved c =
    c.lines.invariant
    ∙ said_later c.args.lines.now c.lines.line-index c.line-item.result c.lines-test.true c.line-item.is (numbers c.args.key.now) (sym c.has.ensures ∙ c.if-has.false)

pub returns-then-has : goal.returns-then-has
returns-then-has c =
    sym (c.lines.invariant
    ∙ said_here c.args.lines.now c.lines.line-index c.line-item.result c.lines-test.true c.line-item.is (numbers c.args.key.now) (sym c.has.ensures ∙ c.if-has.true))

pub returns : goal.returns
returns c = sym (c.lines.invariant ∙ said_nowhere c.args.lines.now c.lines.line-index (numbers c.args.key.now) c.lines-test.false)
