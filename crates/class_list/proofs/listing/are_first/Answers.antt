use Rattle.class_list.proofs.ListLaws.{first_step}
use Rattle.class_list.proofs.listing.are_first.Goals as goal

pub lines-preserved : goal.lines-preserved
lines-preserved c =
    first_step c.args.lines.now c.lines.i c.index-lines-i.result c.lines-test.true c.index-lines-i.is c.lines.invariant (c.is_first.ensures c.if-not-is_first.false)
