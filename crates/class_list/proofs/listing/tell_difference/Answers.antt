use Rattle.std.proofs.Common.{sym, ◌∙◌}
use Rattle.class_list.proofs.ListLaws.{some_differ}
use Rattle.class_list.proofs.listing.tell_difference.Goals as goal

pub returns-then-tells_difference : goal.returns-then-tells_difference
returns-then-tells_difference c is =
    some_differ c.args.lines.now c.lines.line-index c.line-item.result c.lines-test.true c.line-item.is (sym c.tells_difference.ensures ∙ c.if-tells_difference.true)
