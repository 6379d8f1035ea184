use Rattle.std.proofs.Common.{◌≡◌, ℕ, ◌<◌, get_or}
use Rattle.spec_actions.specs.declared.action.OfAction.{OfAction}
use Rattle.rule_changes.proofs.twins.are_same_actions.Given as goal

-- the actions so far are the same
abbrev pub invariant-places : goal.invariant-places
invariant-places l = (k : ℕ) (d : OfAction) → k < l.i → get_or l.a k d ≡ get_or l.b k d
