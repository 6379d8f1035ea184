use Rattle.std.proofs.Common.{length}
use Rattle.std.specs.Prelude.{All, IsTrue}
use Rattle.std.specs.List.{FoldsTo}
use Rattle.spec_exec.specs.Sent.{is_output, sent}
use Rattle.action_exec.specs.Visits.{IsVisitedAt}
use Rattle.action_exec.proofs.execution.visit_outputs.Given as goal

abbrev pub invariant-actions : goal.invariant-actions
invariant-actions g l = record {
  callable : goal.F-IsAlwaysCallable g l.visit;
  outputs : All (λ a. IsTrue (is_output a)) l.rest;
  so_far : (last : _) → FoldsTo (IsVisitedAt g.F.FnMut) l.visit (sent l.rest l.frame) last
      → FoldsTo (IsVisitedAt g.F.FnMut) l.fn.visit (sent l.list l.frame) last;
}

abbrev pub decreases-actions : goal.decreases-actions
decreases-actions g l = length l.rest
