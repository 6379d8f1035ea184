-- What a lookup in a table finds.
use Rattle.std.specs.Prelude.{◌≡◌, ℕ, List, Some}
use Rattle.spec_actions.specs.declared.action.OfAction.{OfAction}
use Rattle.spec_actions.specs.Sound.{AreSound}
use Rattle.spec_tables.specs.Rules.{Rule, winner}

-- A rule of this number and these actions, which are sound, wins for a key.
pub record IsWinner (rules : List Rule) (key : List ℕ) (number : ℕ) (actions : List OfAction) : Type 0 where
  pub rule : Rule
  pub wins : winner rules key ≡ Some rule
  pub its_number : rule.number ≡ number
  pub its_actions : rule.actions ≡ actions
  pub sound : AreSound actions
