use Rattle.text_numbers.proofs.Adding.{stopped, then}
use Rattle.dump_lines.proofs.megaflows.lines.print_counts.Goals as goal

pub returns-in_err-print_number : goal.returns-in_err-print_number
returns-in_err-print_number c = stopped c.from_residual.ensures.0 c.in_err-print_number.ensures

pub returns-in_err-print_number-2 : goal.returns-in_err-print_number-2
returns-in_err-print_number-2 c =
    stopped c.from_residual-in_err-print_number-2.ensures.0 (then c.in_ok-print_number.ensures c.in_err-print_number-2.ensures)

pub returns-in_err-print_number-3 : goal.returns-in_err-print_number-3
returns-in_err-print_number-3 c =
    stopped c.from_residual-in_err-print_number-3.ensures.0 (then c.in_ok-print_number.ensures (then c.in_ok-print_number-2.ensures
    c.in_err-print_number-3.ensures))
