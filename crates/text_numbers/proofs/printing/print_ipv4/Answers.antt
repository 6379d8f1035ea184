use Rattle.spec_flow_text.specs.NumbersPrinted.{ipv4_text}
use Rattle.std.proofs.Common.{refl}
use Rattle.text_numbers.proofs.Adding.{then, same_text, stopped}
use Rattle.text_numbers.proofs.printing.print_ipv4.Goals as goal

pub returns : goal.returns
unfolding ipv4_text
returns c =
    same_text (rw (c.from.ensures, c.to_be_bytes.ensures) refl) (
    then c.in_ok-print_decimal.ensures (then c.in_ok-print_octet_after_dot.ensures (then c.in_ok-print_octet_after_dot-2.ensures c.print_octet_after_dot-3.ensures)))

pub returns-in_err-print_decimal : goal.returns-in_err-print_decimal
returns-in_err-print_decimal c = stopped c.from_residual.ensures.0 c.in_err-print_decimal.ensures

pub returns-in_err-print_octet_after_dot : goal.returns-in_err-print_octet_after_dot
returns-in_err-print_octet_after_dot c =
    stopped c.from_residual-in_err-print_octet_after_dot.ensures.0 (then c.in_ok-print_decimal.ensures c.in_err-print_octet_after_dot.ensures)

pub returns-in_err-print_octet_after_dot-2 : goal.returns-in_err-print_octet_after_dot-2
returns-in_err-print_octet_after_dot-2 c =
    stopped c.from_residual-in_err-print_octet_after_dot-2.ensures.0 (then c.in_ok-print_decimal.ensures (then c.in_ok-print_octet_after_dot.ensures
    c.in_err-print_octet_after_dot-2.ensures))
