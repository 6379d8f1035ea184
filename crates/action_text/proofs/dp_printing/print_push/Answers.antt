use Rattle.text_numbers.proofs.Adding.{stopped, then}
use Rattle.action_text.proofs.dp_printing.print_push.Goals as goal

pub returns-in_err-print_word : goal.returns-in_err-print_word
returns-in_err-print_word c = stopped c.from_residual.ensures.0 c.in_err-print_word.ensures

pub returns-in_err-print_tag_type : goal.returns-in_err-print_tag_type
returns-in_err-print_tag_type c =
    stopped c.from_residual-in_err-print_tag_type.ensures.0 (then c.in_ok-print_word.ensures c.in_err-print_tag_type.ensures)

pub returns-in_err-print_word-2 : goal.returns-in_err-print_word-2
returns-in_err-print_word-2 c =
    stopped c.from_residual-in_err-print_word-2.ensures.0 (then c.in_ok-print_word.ensures (then c.in_ok-print_tag_type.ensures
    c.in_err-print_word-2.ensures))

pub returns-in_err-print_decimal : goal.returns-in_err-print_decimal
returns-in_err-print_decimal c =
    stopped c.from_residual-in_err-print_decimal.ensures.0 (then c.in_ok-print_word.ensures (then c.in_ok-print_tag_type.ensures (then
    c.in_ok-print_word-2.ensures c.in_err-print_decimal.ensures)))

pub returns-in_err-print_word-3 : goal.returns-in_err-print_word-3
returns-in_err-print_word-3 c =
    stopped c.from_residual-in_err-print_word-3.ensures.0 (then c.in_ok-print_word.ensures (then c.in_ok-print_tag_type.ensures (then
    c.in_ok-print_word-2.ensures (then c.in_ok-print_decimal.ensures c.in_err-print_word-3.ensures))))

pub returns-in_err-print_decimal-2 : goal.returns-in_err-print_decimal-2
returns-in_err-print_decimal-2 c =
    stopped c.from_residual-in_err-print_decimal-2.ensures.0 (then c.in_ok-print_word.ensures (then c.in_ok-print_tag_type.ensures (then
    c.in_ok-print_word-2.ensures (then c.in_ok-print_decimal.ensures (then c.in_ok-print_word-3.ensures c.in_err-print_decimal-2.ensures)))))
