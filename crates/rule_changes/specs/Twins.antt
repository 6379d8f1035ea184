-- Two live rules side by side.
use Rattle.std.specs.Prelude.{◌≡◌, ℕ, true, List}
use Rattle.spec_actions.specs.declared.action.OfAction.{OfAction}
use Rattle.spec_tables.specs.Rules.{is_matched}
use Rattle.rule_tables.specs.declared.rule.Rule.{Rule}
use Rattle.rule_tables.specs.Views.{match_view}

-- They are the same but for their numbers and cookies.
pub record AreTwins (r : Rule) (old : List OfAction) (s : Rule) (new : List OfAction) : Type 0 where
  pub table : r.table ≡ s.table
  pub priority : r.priority ≡ s.priority
  pub matching : match_view r.matching ≡ match_view s.matching
  pub actions : old ≡ new

-- No packet meets both, or they do the same.
abbrev pub DontClash : Rule → List OfAction → Rule → List OfAction → Type 0
DontClash r actions s others =
    (key : List ℕ) → is_matched key (match_view r.matching) ≡ true → is_matched key (match_view s.matching) ≡ true → actions ≡ others
