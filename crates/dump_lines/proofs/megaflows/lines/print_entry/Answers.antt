use Rattle.text_numbers.proofs.Adding.{stopped, then}
use Rattle.dump_lines.proofs.megaflows.lines.print_entry.Goals as goal

pub returns-in_err-print_name : goal.returns-in_err-print_name
returns-in_err-print_name c = stopped c.from_residual.ensures.0 c.in_err-print_name.ensures

pub returns-in_err-print_counts : goal.returns-in_err-print_counts
returns-in_err-print_counts c = stopped c.from_residual-in_err-print_counts.ensures.0 (then c.in_ok-print_name.ensures c.in_err-print_counts.ensures)
