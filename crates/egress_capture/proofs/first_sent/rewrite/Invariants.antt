use Rattle.std.proofs.Common.{◌≡◌, ◌+◌, ◌*◌, ◌≤◌, length, take}
use Rattle.spec_frames.specs.Ethernet.{tag_size}
use Rattle.egress_capture.specs.Sending.{rewritten}
use Rattle.egress_capture.proofs.first_sent.rewrite.Given as goal

abbrev pub invariant-actions : goal.invariant-actions
invariant-actions l = record {
  frame : l.frame ≡ rewritten (take l.action-index l.actions) l.fn.frame;
  grown : length l.frame ≤ length l.fn.frame + l.action-index * tag_size;
}
