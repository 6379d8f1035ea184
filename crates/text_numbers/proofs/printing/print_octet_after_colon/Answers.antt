use Rattle.text_numbers.proofs.Adding.{then}
use Rattle.text_numbers.proofs.printing.print_octet_after_colon.Goals as goal

pub returns : goal.returns
returns c = then c.in_ok-print_word.ensures c.print_octet_digits.ensures
