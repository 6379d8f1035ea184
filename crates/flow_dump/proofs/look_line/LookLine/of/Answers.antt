use Rattle.std.proofs.Common.{◌≡◌, ℕ, List, ◌++◌, length, ap, ◌∙◌, rules}
use Rattle.std.specs.Prelude.{codes}
use Rattle.flow_dump.specs.LookLines.{leading, tail_text}
use Rattle.flow_dump.proofs.LookLines.{is_made}
use Rattle.flow_dump.proofs.look_line.LookLine.of.Goals as goal

pub invariant_of-result : goal.invariant_of-result
invariant_of-result c =
    let begun = c.push_leading.new.text.items in
    let word = c.in_ok-extend_from_slice.ensures.items ∙ ap (λ (l : List ℕ). l ++ codes "look ") c.in_ok-text.ensures.items in
    let head = c.in_ok-push_leading.ensures ∙ ap (λ (l : List ℕ). l ++ leading c.args.tens) word in
    let text = c.in_ok-push_tail.ensures ∙ ap (λ (l : List ℕ). l ++ tail_text c.args.found) c.in_ok-push.ensures.items in
    let made = is_made c.args.tens c.args.found begun c.push_tail.new.text.items head text in
    let digit : c.len-digit.result ≡ length begun = search rules in
    record { is_line = rw digit made }
