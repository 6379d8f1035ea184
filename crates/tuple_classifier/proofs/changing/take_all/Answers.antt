use Rattle.std.proofs.Common.{◌≡◌, ℕ, length, subst, arith}
use Rattle.tuple_classifier.specs.Changing.{HaveGone}
use Rattle.tuple_classifier.proofs.changing.take_all.Goals as goal

pub went-preserved : goal.went-preserved
went-preserved c = record {
  can = (c.went.invariant.can.0, c.went.invariant.can.1, c.take_at.ensures c.went.invariant.can.0 c.went.invariant.can.1 c.went.invariant.can.2);
  gone = λ rules can have. c.take_at.ensures rules can (c.went.invariant.gone rules can have);
}

pub returns : goal.returns
returns c rules can have =
    let at_end : c.went.place ≡ length c.args.change.now.went = omega arith in
    subst (λ (n : ℕ). HaveGone c.args.change.now n c.went.tables.items rules) at_end (c.went.invariant.gone rules can have)
