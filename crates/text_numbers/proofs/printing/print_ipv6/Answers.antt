use Rattle.spec_flow_text.specs.NumbersPrinted.{ipv6_text}
use Rattle.text_numbers.proofs.Adding.{then, stopped}
use Rattle.text_numbers.proofs.printing.print_ipv6.Goals as goal

pub returns : goal.returns
unfolding ipv6_text
returns c =
    then c.in_ok-print_group.ensures (then c.in_ok-print_group_after_colon.ensures (then c.in_ok-print_group_after_colon-2.ensures (
    then c.in_ok-print_group_after_colon-3.ensures (then c.in_ok-print_group_after_colon-4.ensures (
    then c.in_ok-print_group_after_colon-5.ensures (then c.in_ok-print_group_after_colon-6.ensures c.print_group_after_colon-7.ensures))))))

pub returns-in_err-print_group : goal.returns-in_err-print_group
returns-in_err-print_group c = stopped c.from_residual.ensures.0 c.in_err-print_group.ensures

pub returns-in_err-print_group_after_colon : goal.returns-in_err-print_group_after_colon
returns-in_err-print_group_after_colon c =
    stopped c.from_residual-in_err-print_group_after_colon.ensures.0 (then c.in_ok-print_group.ensures c.in_err-print_group_after_colon.ensures)

pub returns-in_err-print_group_after_colon-2 : goal.returns-in_err-print_group_after_colon-2
returns-in_err-print_group_after_colon-2 c =
    stopped c.from_residual-in_err-print_group_after_colon-2.ensures.0 (then c.in_ok-print_group.ensures (then c.in_ok-print_group_after_colon.ensures
    c.in_err-print_group_after_colon-2.ensures))

pub returns-in_err-print_group_after_colon-3 : goal.returns-in_err-print_group_after_colon-3
returns-in_err-print_group_after_colon-3 c =
    stopped c.from_residual-in_err-print_group_after_colon-3.ensures.0 (then c.in_ok-print_group.ensures (then c.in_ok-print_group_after_colon.ensures
    (then c.in_ok-print_group_after_colon-2.ensures c.in_err-print_group_after_colon-3.ensures)))

pub returns-in_err-print_group_after_colon-4 : goal.returns-in_err-print_group_after_colon-4
returns-in_err-print_group_after_colon-4 c =
    stopped c.from_residual-in_err-print_group_after_colon-4.ensures.0 (then c.in_ok-print_group.ensures (then c.in_ok-print_group_after_colon.ensures
    (then c.in_ok-print_group_after_colon-2.ensures (then c.in_ok-print_group_after_colon-3.ensures c.in_err-print_group_after_colon-4.ensures))))

pub returns-in_err-print_group_after_colon-5 : goal.returns-in_err-print_group_after_colon-5
returns-in_err-print_group_after_colon-5 c =
    stopped c.from_residual-in_err-print_group_after_colon-5.ensures.0 (then c.in_ok-print_group.ensures (then c.in_ok-print_group_after_colon.ensures
    (then c.in_ok-print_group_after_colon-2.ensures (then c.in_ok-print_group_after_colon-3.ensures (then c.in_ok-print_group_after_colon-4.ensures
    c.in_err-print_group_after_colon-5.ensures)))))

pub returns-in_err-print_group_after_colon-6 : goal.returns-in_err-print_group_after_colon-6
returns-in_err-print_group_after_colon-6 c =
    stopped c.from_residual-in_err-print_group_after_colon-6.ensures.0 (then c.in_ok-print_group.ensures (then c.in_ok-print_group_after_colon.ensures
    (then c.in_ok-print_group_after_colon-2.ensures (then c.in_ok-print_group_after_colon-3.ensures (then c.in_ok-print_group_after_colon-4.ensures
    (then c.in_ok-print_group_after_colon-5.ensures c.in_err-print_group_after_colon-6.ensures))))))
