use Rattle.std.proofs.Common.{◌≡◌, map}
use Rattle.given_steps.proofs.WholeRuns.{new_view}
use Rattle.given_steps.proofs.schedule.scheduled_boards.Given as goal

abbrev pub invariant-boards : goal.invariant-boards
invariant-boards g l = l.list.items ≡ map new_view l.yielded
