use Rattle.std.proofs.Common.{◌+◌, ◌*◌, ◌≤◌, length}
use Rattle.std.specs.Prelude.{count_by}
use Rattle.std.specs.Vec.{vec_len, vec_capacity}
use Rattle.std.specs.List.{FoldsTo}
use Rattle.spec_frames.specs.Ethernet.{tag_size}
use Rattle.spec_exec.specs.Sent.{sent}
use Rattle.action_exec.specs.Visits.{is_push, IsVisitedAt}
use Rattle.action_exec.proofs.execution.visit_pieces.Given as goal

abbrev pub invariant-actions : goal.invariant-actions
invariant-actions g l = record {
  callable : goal.F-IsAlwaysCallable g l.visit;
  room : vec_len l.frame + tag_size * count_by is_push l.rest ≤ vec_capacity l.frame;
  so_far : (last : _) → FoldsTo (IsVisitedAt g.F.FnMut) l.visit (sent l.rest l.frame.items) last
      → FoldsTo (IsVisitedAt g.F.FnMut) l.fn.visit (sent l.fn.list l.fn.frame.items) last;
}

abbrev pub decreases-actions : goal.decreases-actions
decreases-actions g l = length l.rest
