-- The rule that an edit added.
use Rattle.std.specs.Prelude.{◌≡◌, ℕ, List, Some}
use Rattle.spec_actions.specs.declared.action.OfAction.{OfAction}
use Rattle.rule_tables.specs.declared.rule.Rule.{Rule}
use Rattle.rule_tables.specs.History.{EditHistory, added_as}
use Rattle.rule_tables.specs.Views.{rule_view}

-- this is the rule of this number as its edit added it, with some actions
abbrev pub IsAdded : EditHistory → ℕ → Rule → Type 0
IsAdded h number r = (actions : List OfAction) × (added_as h number ≡ Some (rule_view r actions))
