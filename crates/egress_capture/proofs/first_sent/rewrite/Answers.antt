use Rattle.std.proofs.Common.{refl, ap, sym, ◌∙◌, arith}
use Rattle.egress_capture.specs.Sending.{next, rewritten}
use Rattle.egress_capture.proofs.Sends.{rewritten_take_more}
use Rattle.egress_capture.proofs.first_sent.rewrite.Goals as goal

pub actions-init : goal.actions-init
unfolding rewritten
actions-init c = record { frame = refl; grown = omega arith }

pub actions-preserved : goal.actions-preserved
actions-preserved c = record {
  frame = c.in_ok-rewrite_by.ensures.frame ∙ ap (next _) c.actions.invariant.frame
      ∙ sym (rewritten_take_more c.args.actions.now c.actions.action-index _ c.args.frame.now c.actions-test.true);
  grown = omega (arith, c.in_ok-rewrite_by.ensures.grows, c.actions.invariant.grown);
}
