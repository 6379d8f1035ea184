use Rattle.text_numbers.proofs.Adding.{stopped, then}
use Rattle.action_text.proofs.dp_printing.print_set.Goals as goal

pub returns-in_err-print_word : goal.returns-in_err-print_word
returns-in_err-print_word c = stopped c.from_residual.ensures.0 c.in_err-print_word.ensures

pub returns-in_err-print_word-2 : goal.returns-in_err-print_word-2
returns-in_err-print_word-2 c = stopped c.from_residual-in_err-print_word-2.ensures.0 (then c.in_ok-print_word.ensures c.in_err-print_word-2.ensures)

pub returns-in_err-print_word-3 : goal.returns-in_err-print_word-3
returns-in_err-print_word-3 c =
    stopped c.from_residual-in_err-print_word-3.ensures.0 (then c.in_ok-print_word.ensures (then c.in_ok-print_word-2.ensures
    c.in_err-print_word-3.ensures))

pub returns-in_err-print_value : goal.returns-in_err-print_value
returns-in_err-print_value c =
    stopped c.from_residual-in_err-print_value.ensures.0 (then c.in_ok-print_word.ensures (then c.in_ok-print_word-2.ensures (then
    c.in_ok-print_word-3.ensures c.in_err-print_value.ensures)))
