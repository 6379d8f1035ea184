use Rattle.spec_flow_text.specs.NumbersPrinted.{hexadecimal}
use Rattle.text_numbers.proofs.Adding.{then}
use Rattle.text_numbers.proofs.printing.print_hexadecimal.Goals as goal

pub returns : goal.returns
unfolding hexadecimal
returns c = then c.in_ok-print_word.ensures c.print_hexadecimal_digits.ensures
