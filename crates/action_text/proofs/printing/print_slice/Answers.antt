use Rattle.std.proofs.Common.{refl}
use Rattle.text_numbers.proofs.Adding.{then, same_text, stopped}
use Rattle.action_text.proofs.printing.print_slice.Goals as goal

pub returns : goal.returns
returns c =
    same_text (rw (c.name_of.ensures, c.from.ensures, c.from-2.ensures) refl) (
    then c.in_ok-print_word.ensures (then c.in_ok-print_number_after.ensures (then c.in_ok-print_number_after-2.ensures c.print_word-2.ensures)))

pub returns-in_err-print_word : goal.returns-in_err-print_word
returns-in_err-print_word c = stopped c.from_residual.ensures.0 c.in_err-print_word.ensures

pub returns-in_err-print_number_after : goal.returns-in_err-print_number_after
returns-in_err-print_number_after c =
    stopped c.from_residual-in_err-print_number_after.ensures.0 (then c.in_ok-print_word.ensures c.in_err-print_number_after.ensures)

pub returns-in_err-print_number_after-2 : goal.returns-in_err-print_number_after-2
returns-in_err-print_number_after-2 c =
    stopped c.from_residual-in_err-print_number_after-2.ensures.0 (then c.in_ok-print_word.ensures (then c.in_ok-print_number_after.ensures
    c.in_err-print_number_after-2.ensures))
