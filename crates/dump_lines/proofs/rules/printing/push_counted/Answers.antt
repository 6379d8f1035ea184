use Rattle.text_numbers.proofs.Adding.{stopped, then}
use Rattle.dump_lines.proofs.rules.printing.push_counted.Goals as goal

pub returns-in_err-print_word : goal.returns-in_err-print_word
returns-in_err-print_word c = stopped c.from_residual.ensures.0 c.in_err-print_word.ensures

pub returns-in_err-push_counts : goal.returns-in_err-push_counts
returns-in_err-push_counts c = stopped c.from_residual-in_err-push_counts.ensures.0 (then c.in_ok-print_word.ensures c.in_err-push_counts.ensures)
