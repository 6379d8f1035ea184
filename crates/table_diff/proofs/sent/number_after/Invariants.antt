use Rattle.std.proofs.Common.{◌≡◌, drop}
use Rattle.table_diff.specs.Sending.{number_after}
use Rattle.table_diff.proofs.sent.number_after.Given as goal

-- the actions that are left make the whole of it
abbrev pub invariant-actions : goal.invariant-actions
invariant-actions l = number_after l.field (drop l.action-index l.actions) l.after ≡ number_after l.field l.actions l.number
