use Rattle.class_list.proofs.ListLaws.{listed_too}
use Rattle.class_list.proofs.listing.are_listed.Goals as goal

pub returns-in-Same : goal.returns-in-Same
returns-in-Same c is o n listed =
    listed_too o n c.args.ports.now c.args.lines.now c.args.told.now listed (c.in_ok-found.ensures c.in-Same.is)
    (c.are_first.ensures c.if-not-are_first.false) (c.are_of_ports.ensures c.if-not-are_of_ports.false) (c.tell_difference.ensures c.if-not-tell_difference.false)
