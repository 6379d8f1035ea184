-- A live rule by its number, and what is stored of it.
use Rattle.std.specs.Prelude.{◌≡◌, ℕ, List, Some}
use Rattle.spec_actions.specs.declared.action.OfAction.{OfAction}
use Rattle.spec_tables.specs.Rules as tables
use Rattle.spec_tables.specs.Live.{rule_numbered}
use Rattle.rule_tables.specs.declared.rule.Rule.{Rule}
use Rattle.rule_tables.specs.History.{History}
use Rattle.rule_tables.specs.Views.{match_view}
use Rattle.dump_lines.specs.Live.{live_in}

-- A rule of this number is live in the last version, with these actions.
pub record IsLiveRule (h : History) (number : ℕ) (r : Rule) (list : List OfAction) : Type 0 where
  pub rule : tables.Rule
  pub found : rule_numbered number (live_in h) ≡ Some rule
  pub table : r.table ≡ rule.table
  pub priority : r.priority ≡ rule.priority
  pub matching : match_view r.matching ≡ rule.matching
  pub actions : list ≡ rule.actions
