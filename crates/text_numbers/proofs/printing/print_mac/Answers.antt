use Rattle.std.proofs.Common.{refl}
use Rattle.spec_flow_text.specs.NumbersPrinted.{mac_text}
use Rattle.text_numbers.proofs.Adding.{then, same_text, stopped}
use Rattle.text_numbers.proofs.printing.print_mac.Goals as goal

pub returns : goal.returns
unfolding mac_text
returns c =
    same_text (rw c.to_be_bytes.ensures refl) (
    then c.in_ok-print_octet_digits.ensures (then c.in_ok-print_octet_after_colon.ensures (then c.in_ok-print_octet_after_colon-2.ensures (
    then c.in_ok-print_octet_after_colon-3.ensures (then c.in_ok-print_octet_after_colon-4.ensures c.print_octet_after_colon-5.ensures)))))

pub returns-in_err-print_octet_digits : goal.returns-in_err-print_octet_digits
returns-in_err-print_octet_digits c = stopped c.from_residual.ensures.0 c.in_err-print_octet_digits.ensures

pub returns-in_err-print_octet_after_colon : goal.returns-in_err-print_octet_after_colon
returns-in_err-print_octet_after_colon c =
    stopped c.from_residual-in_err-print_octet_after_colon.ensures.0 (then c.in_ok-print_octet_digits.ensures
    c.in_err-print_octet_after_colon.ensures)

pub returns-in_err-print_octet_after_colon-2 : goal.returns-in_err-print_octet_after_colon-2
returns-in_err-print_octet_after_colon-2 c =
    stopped c.from_residual-in_err-print_octet_after_colon-2.ensures.0 (then c.in_ok-print_octet_digits.ensures (then
    c.in_ok-print_octet_after_colon.ensures c.in_err-print_octet_after_colon-2.ensures))

pub returns-in_err-print_octet_after_colon-3 : goal.returns-in_err-print_octet_after_colon-3
returns-in_err-print_octet_after_colon-3 c =
    stopped c.from_residual-in_err-print_octet_after_colon-3.ensures.0 (then c.in_ok-print_octet_digits.ensures (then
    c.in_ok-print_octet_after_colon.ensures (then c.in_ok-print_octet_after_colon-2.ensures c.in_err-print_octet_after_colon-3.ensures)))

pub returns-in_err-print_octet_after_colon-4 : goal.returns-in_err-print_octet_after_colon-4
returns-in_err-print_octet_after_colon-4 c =
    stopped c.from_residual-in_err-print_octet_after_colon-4.ensures.0 (then c.in_ok-print_octet_digits.ensures (then
    c.in_ok-print_octet_after_colon.ensures (then c.in_ok-print_octet_after_colon-2.ensures (then c.in_ok-print_octet_after_colon-3.ensures
    c.in_err-print_octet_after_colon-4.ensures))))
