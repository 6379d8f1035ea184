use Rattle.std.proofs.Common.{refl}
use Rattle.text_numbers.proofs.Adding.{then, same_text}
use Rattle.text_numbers.proofs.printing.print_octet_after_dot.Goals as goal

pub returns : goal.returns
returns c = same_text (rw c.from.ensures refl) (then c.in_ok-print_word.ensures c.print_decimal.ensures)
