use Rattle.spec_flow_text.specs.NumbersPrinted.{hexadecimal4}
use Rattle.text_numbers.proofs.Adding.{then}
use Rattle.text_numbers.proofs.printing.print_hexadecimal4.Goals as goal

pub returns : goal.returns
unfolding hexadecimal4
returns c = then c.in_ok-print_word.ensures (then c.in_ok-print_octet_digits.ensures c.print_octet_digits-2.ensures)
