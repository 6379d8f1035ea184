use Rattle.std.proofs.Common.{sym, ◌∙◌}
use Rattle.ovs_fields.specs.Packed.{numbers}
use Rattle.class_list.proofs.ListLaws.{holding_step, holding_end}
use Rattle.class_list.proofs.listing.none_has.Goals as goal

pub lines-preserved : goal.lines-preserved
lines-preserved c =
    holding_step c.args.lines.now c.lines.line-index c.line-item.result (numbers c.args.key.now) _ c.lines-test.true c.line-item.is
    (sym c.has.ensures ∙ c.if-has.false) c.lines.invariant

pub returns : goal.returns
returns c is = holding_end c.args.lines.now c.lines.line-index (numbers c.args.key.now) _ c.lines-test.false c.lines.invariant
