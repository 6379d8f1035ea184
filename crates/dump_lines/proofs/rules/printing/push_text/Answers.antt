use Rattle.std.proofs.Common.{ℕ, subst}
use Rattle.text_numbers.specs.Added.{Adds}
use Rattle.dump_lines.specs.Live.{live_view}
use Rattle.dump_lines.specs.Pieces.{rule_text}
use Rattle.dump_lines.proofs.rules.Pieces.{then_adds}
use Rattle.text_numbers.proofs.Adding.{stopped, then}
use Rattle.dump_lines.proofs.rules.printing.push_text.Goals as goal

pub returns : goal.returns
returns c =
    let rule = live_view c.args.rule.now c.args.cookie c.args.actions.now in
    let P : ℕ → ℕ → Type 0 = λ cookie table.
    Adds c.args.line.now c.push_counted.new.line (rule_text c.args.counts (record rule { cookie = cookie; table = table })) c.push_counted.result in
    let last = then_adds c.print_hexadecimal.new.out c.push_number_after.new.line c.push_counted.new.line _ _ c.push_counted.result
    c.in_ok-push_number_after.ensures.text c.push_counted.ensures in
    let rest = then_adds c.print_word.new.out c.print_hexadecimal.new.out c.push_counted.new.line _ _ c.push_counted.result
    c.in_ok-print_hexadecimal.ensures.text last in
    let all : P c.from.result c.from-2.result = then_adds c.args.line.now c.print_word.new.out c.push_counted.new.line _ _ c.push_counted.result
    c.in_ok-print_word.ensures.text rest in
    subst (λ cookie. P cookie rule.table) c.from.ensures (subst (λ table. P c.from.result table) c.from-2.ensures all)

pub returns-in_err-print_word : goal.returns-in_err-print_word
returns-in_err-print_word c = stopped c.from_residual.ensures.0 c.in_err-print_word.ensures

pub returns-in_err-print_hexadecimal : goal.returns-in_err-print_hexadecimal
returns-in_err-print_hexadecimal c =
    stopped c.from_residual-in_err-print_hexadecimal.ensures.0 (then c.in_ok-print_word.ensures c.in_err-print_hexadecimal.ensures)

pub returns-in_err-push_number_after : goal.returns-in_err-push_number_after
returns-in_err-push_number_after c =
    stopped c.from_residual-in_err-push_number_after.ensures.0 (then c.in_ok-print_word.ensures (then c.in_ok-print_hexadecimal.ensures
    c.in_err-push_number_after.ensures))
