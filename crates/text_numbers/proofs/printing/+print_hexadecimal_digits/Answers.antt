use Rattle.std.proofs.Common.{sym, arith}
use Rattle.text_numbers.proofs.Adding.{then, same_text}
use Rattle.text_numbers.proofs.HexadecimalDigits.{digits_step}
use Rattle.text_numbers.proofs.printing.+print_hexadecimal_digits.Goals as goal

pub returns : goal.returns
returns t c = same_text (sym (digits_step c.args.number (omega arith) (omega arith))) (then c.in_ok-print_hexadecimal_digits.ensures c.print_digit-2.ensures)
