use Rattle.std.proofs.Common.{arith}
use Rattle.std.proofs.lemmas.List.{same_lists}
use Rattle.rule_changes.proofs.twins.are_same_actions.Goals as goal

pub returns : goal.returns
returns c is =
    let lengths = c.if-a-b.false in
    let past = c.places-test.false in
    same_lists c.args.a.now c.args.b.now (omega arith) (λ k d within. c.places.invariant k d (omega arith))
