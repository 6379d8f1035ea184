use Rattle.std.proofs.Common.{rules}
use Rattle.text_numbers.proofs.Adding.{then, same_text}
use Rattle.match_text.specs.Shown.{item_of, items_text}
use Rattle.match_text.proofs.ItemTexts.{both_printed}
use Rattle.match_text.proofs.printing.print_field.Goals as goal

pub returns-clause-added : goal.returns-clause-added
returns-clause-added c =
    same_text (both_printed c.args.begun c.in_ok-begun.begun (item_of c.shown_field-first.result.0) (item_of c.shown_field-first.result.1) _
    c.in_ok-begun.ensures.begun c.shown_field-first.ensures.items) (then c.in_ok-begun.ensures.added c.print_item-2.ensures.added)

pub returns-then-is_unstated-clause-added : goal.returns-then-is_unstated-clause-added
unfolding items_text
returns-then-is_unstated-clause-added c = rw (c.is_unstated.ensures c.if-is_unstated.true c.args.shorthand) (search rules)

pub returns-then-is_unstated-clause-begun : goal.returns-then-is_unstated-clause-begun
returns-then-is_unstated-clause-begun c = rw (c.is_unstated.ensures c.if-is_unstated.true c.args.shorthand) (search rules)
