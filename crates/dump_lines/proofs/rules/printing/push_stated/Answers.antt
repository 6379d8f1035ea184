use Rattle.std.proofs.Common.{ℕ, subst}
use Rattle.text_numbers.specs.Added.{Adds}
use Rattle.dump_lines.specs.Live.{live_view}
use Rattle.dump_lines.specs.Pieces.{stated_text}
use Rattle.dump_lines.proofs.rules.Pieces.{then_adds}
use Rattle.dump_lines.proofs.rules.printing.push_stated.Goals as goal

pub returns : goal.returns
returns c =
    let rule = live_view c.args.rule.now c.args.cookie c.args.actions.now in
    let P : ℕ → Type 0 = λ priority. Adds c.args.line.now c.push_done.new.line (stated_text (record rule { priority = priority })) c.push_done.result in
    let rest = then_adds c.push_number_after.new.line c.push_match.new.line c.push_done.new.line _ _ c.push_done.result
    c.in_ok-push_match.ensures.text c.push_done.ensures in
    let all : P c.from.result = then_adds c.args.line.now c.push_number_after.new.line c.push_done.new.line _ _ c.push_done.result
    c.in_ok-push_number_after.ensures.text rest in
    subst P c.from.ensures all
