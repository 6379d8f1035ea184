use Rattle.text_numbers.proofs.Adding.{then, same_text}
use Rattle.field_text.proofs.CommaSteps.{first_and_others}
use Rattle.field_text.proofs.listing.print_list.Goals as goal

pub returns-in_ok-print_item-in-len1-up : goal.returns-in_ok-print_item-in-len1-up
returns-in_ok-print_item-in-len1-up g c =
    same_text (first_and_others g.P.ItemPrinter.text c.args.list.now c.first-item.result c.in-len1-up.len_at_least c.first-item.is)
    (then c.in_ok-print_item-in-len1-up.ensures c.print_others.ensures)
