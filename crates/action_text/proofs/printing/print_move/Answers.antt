use Rattle.text_numbers.proofs.Adding.{then}
use Rattle.action_text.proofs.printing.print_move.Goals as goal

pub returns : goal.returns
returns c = then c.in_ok-print_slice_after.ensures c.print_slice_after-2.ensures
