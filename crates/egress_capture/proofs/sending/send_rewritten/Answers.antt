use Rattle.std.proofs.Common.{Err, refl, ap, sym, ◌∙◌, arith}
use Rattle.std.proofs.lemmas.Result.{err_from_is_err_and}
use Rattle.edge_io.proofs.InTurn.{none_yet, cut_within, more}
use Rattle.spec_pcap.specs.Pcap.{record_of}
use Rattle.spec_exec.specs.Sent.{sent}
use Rattle.egress_capture.specs.Sending.{next, rewritten}
use Rattle.egress_capture.proofs.Sends.{rewritten_take_more}
use Rattle.egress_capture.proofs.Written.{action_more, around_action}
use Rattle.egress_capture.proofs.sending.send_rewritten.Goals as goal

pub actions-init : goal.actions-init
unfolding sent rewritten
actions-init g c = record {
  nanos = refl;
  frame = refl;
  grown = omega arith;
  wrote = none_yet g.S.Shelf _ c.requires.in_use;
}

pub returns-in_err-run_action-clause-writes : goal.returns-in_err-run_action-clause-writes
returns-in_err-run_action-clause-writes g c =
    let p = err_from_is_err_and c.from_residual.result c.from_residual.ensures.1 in
    let w = rw (c.actions.invariant.nanos, c.actions.invariant.frame) at c.in_err-run_action.ensures.writes in
    cut_within g.S.Shelf _ _ _ _ _ _ _ (around_action (record_of c.args.writer.now) c.args.port c.args.time c.args.actions.now c.actions.action-index _ c.args.frame.now c.actions-test.true)
    c.actions.invariant.wrote _ _ (p.1 ∙ ap Err p.2) w

pub actions-preserved : goal.actions-preserved
actions-preserved g c = record {
  nanos = c.run_action.ensures.nanos ∙ c.actions.invariant.nanos;
  frame = c.in_ok-run_action.ensures.frame ∙ ap (next _) c.actions.invariant.frame
      ∙ sym (rewritten_take_more c.args.actions.now c.actions.action-index _ c.args.frame.now c.actions-test.true);
  grown = omega (arith, c.in_ok-run_action.ensures.grows, c.actions.invariant.grown);
  wrote =
      let w = rw (c.actions.invariant.nanos, c.actions.invariant.frame) at c.in_ok-run_action.ensures.writes in
      more g.S.Shelf _ _ _ _ _ _ (action_more (record_of c.args.writer.now) c.args.port c.args.time c.args.actions.now c.actions.action-index _ c.args.frame.now c.actions-test.true)
      c.actions.invariant.wrote _ w;
}
