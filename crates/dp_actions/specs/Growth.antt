-- Lists that grow at their end.
use Rattle.std.specs.Prelude.{◌≡◌, List, ◌++◌}
use Rattle.spec_actions.specs.declared.action.DpAction.{DpAction}

-- The new list is the old one with further actions behind it, or with none.
pub record Extends (old new : List DpAction) : Type 0 where
  pub more : List DpAction
  pub is : new ≡ old ++ more
