use Rattle.text_numbers.proofs.Adding.{then}
use Rattle.dump_lines.proofs.megaflows.times.print_nanoseconds.Goals as goal

pub returns : goal.returns
returns c =
    then c.in_ok-print_three_digits.ensures (then c.in_ok-print_three_digits-2.ensures c.print_three_digits-3.ensures)
