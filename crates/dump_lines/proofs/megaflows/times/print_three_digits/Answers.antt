use Rattle.text_numbers.proofs.Adding.{then}
use Rattle.dump_lines.proofs.megaflows.times.print_three_digits.Goals as goal

pub returns : goal.returns
returns c =
    then c.in_ok-print_digit_at.ensures (then c.in_ok-print_digit_at-2.ensures c.print_digit_at-3.ensures)
