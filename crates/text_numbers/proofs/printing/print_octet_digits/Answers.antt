use Rattle.std.proofs.Common.{refl}
use Rattle.text_numbers.proofs.Adding.{then, same_text}
use Rattle.text_numbers.proofs.printing.print_octet_digits.Goals as goal

pub returns : goal.returns
returns c = same_text (rw (c.from.ensures, c.from-2.ensures) refl) (then c.in_ok-print_digit.ensures c.print_digit-2.ensures)
