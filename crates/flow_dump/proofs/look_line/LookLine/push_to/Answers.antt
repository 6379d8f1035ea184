use Rattle.std.proofs.Common.{ℕ, List, ◌++◌, ap, ◌∙◌, arith}
use Rattle.flow_dump.proofs.LookLines.{is_still, line_at}
use Rattle.flow_dump.proofs.look_line.LookLine.push_to.Goals as goal

pub invariant_of-self : goal.invariant_of-self
invariant_of-self c = record { is_line = is_still _ _ _ _ _ c.turn_to.new.self.is_line }

pub returns-clause-text : goal.returns-clause-text
returns-clause-text c =
    let kept = rw (c.in_ok-turn_to.ensures.tens, c.in_ok-turn_to.ensures.found) at c.turn_to.new.self.is_line in
    let line = line_at c.args.place c.args.found c.turn_to.new.self.digit c.turn_to.new.self.text.items (omega (arith, c.ranges.place.fits)) kept in
    c.in_ok-extend_from_slice.ensures.items ∙ ap (λ (l : List ℕ). c.args.text.now.items ++ l) (c.deref.ensures.value ∙ line)
