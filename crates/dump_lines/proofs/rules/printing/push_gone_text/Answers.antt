use Rattle.text_numbers.proofs.Adding.{stopped, then}
use Rattle.dump_lines.proofs.rules.printing.push_gone_text.Goals as goal

pub returns-in_err-push_number_after : goal.returns-in_err-push_number_after
returns-in_err-push_number_after c = stopped c.from_residual.ensures.0 c.in_err-push_number_after.ensures

pub returns-in_err-print_word : goal.returns-in_err-print_word
returns-in_err-print_word c = stopped c.from_residual-in_err-print_word.ensures.0 (then c.in_ok-push_number_after.ensures c.in_err-print_word.ensures)
