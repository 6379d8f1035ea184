use Rattle.text_numbers.proofs.Adding.{then}
use Rattle.action_text.proofs.printing.print_slice_after.Goals as goal

pub returns : goal.returns
returns c = then c.in_ok-print_word.ensures c.print_slice.ensures
