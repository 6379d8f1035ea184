use Rattle.std.proofs.Common.{◌≡◌}
use Rattle.worker_phase.proofs.mailbox.tell_all.Given as goal

abbrev pub invariant-mailboxes : goal.invariant-mailboxes
invariant-mailboxes g l = l.editor ≡ l.initial.editor
