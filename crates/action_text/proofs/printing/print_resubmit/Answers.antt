use Rattle.std.proofs.Common.{refl}
use Rattle.text_numbers.proofs.Adding.{then, same_text}
use Rattle.action_text.proofs.printing.print_resubmit.Goals as goal

pub returns : goal.returns
returns c = same_text (rw c.from.ensures refl) (then c.in_ok-print_number_after.ensures c.print_word.ensures)
