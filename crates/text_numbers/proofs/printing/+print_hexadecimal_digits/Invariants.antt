use Rattle.text_numbers.proofs.printing.+print_hexadecimal_digits.Given as goal

abbrev pub decreases-print_hexadecimal_digits : goal.decreases-print_hexadecimal_digits
decreases-print_hexadecimal_digits l = l.number
