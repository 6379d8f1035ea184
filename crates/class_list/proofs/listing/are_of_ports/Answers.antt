use Rattle.class_list.proofs.ListLaws.{ports_step, ports_end}
use Rattle.class_list.proofs.listing.are_of_ports.Goals as goal

pub lines-preserved : goal.lines-preserved
lines-preserved c later =
    c.lines.invariant
    (ports_step c.args.ports.now c.args.lines.now c.lines.line-index c.line-item.result c.lines-test.true c.line-item.is
    (c.is_line_of_ports.ensures c.if-not-is_line_of_ports.false) later)

pub returns : goal.returns
returns c is = c.lines.invariant (ports_end c.args.ports.now c.args.lines.now c.lines.line-index c.lines-test.false)
