use Rattle.std.proofs.Common.{rules}
use Rattle.match_text.specs.Shown.{items_text}
use Rattle.match_text.proofs.printing.print_part.Goals as goal

pub returns-then-are_unstated-clause-added : goal.returns-then-are_unstated-clause-added
unfolding items_text
returns-then-are_unstated-clause-added c = rw (c.requires c.if-are_unstated.true) (search rules)

pub returns-then-are_unstated-clause-begun : goal.returns-then-are_unstated-clause-begun
returns-then-are_unstated-clause-begun c = rw (c.requires c.if-are_unstated.true) (search rules)
