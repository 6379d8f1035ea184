-- The rules of the last version.
use Rattle.std.specs.Prelude.{◌≡◌, ℕ, ◌≤◌, Bool, not, if◌then◌else◌, List, [], length, IsTrue}
use Rattle.std.specs.List.{list_all}
use Rattle.std.specs.Option.{is_some, option_map_or}
use Rattle.spec_actions.specs.declared.action.OfAction.{OfAction}
use Rattle.spec_tables.specs.Rules as tables
use Rattle.spec_tables.specs.Edits.{Edit, has_sound_actions}
use Rattle.spec_tables.specs.Bundles.{AreBundles}
use Rattle.spec_tables.specs.Live.{is_live, rule_numbered}
use Rattle.rule_tables.specs.declared.rule.Rule.{Rule}
use Rattle.rule_tables.specs.History.{History, applied, newest, rules_of, added_as, history_of}
use Rattle.rule_tables.specs.Views.{match_view}
use Rattle.spec_run.specs.declared.rule_counts.RuleCounts.{RuleCounts}
use Rattle.spec_run.specs.Rules.{rule_line_with}

-- Some edits of sound actions made these rules, in some bundles.
pub record IsOfEdits (h : History) : Type 0 where
  pub edits : List Edit
  pub bundles : List ℕ
  pub history : h ≡ history_of edits bundles
  pub whole : AreBundles bundles (length edits)
  pub sound : IsTrue (list_all has_sound_actions edits)

-- the rules of the last version
abbrev pub live_in : History → List tables.Rule
live_in h = rules_of h (newest h)

-- A rule of this number is live, and it is the number of an edit.
pub record IsLiveIn (h : History) (number : ℕ) : Type 0 where
  pub live : IsTrue (is_live number (live_in h))
  pub first : 1 ≤ number
  pub last : number ≤ applied h.edits

-- a rule with this cookie and these actions
abbrev pub live_view : Rule → ℕ → List OfAction → tables.Rule
live_view r cookie actions =
    record { number = r.number; table = r.table; priority = r.priority; cookie = cookie; matching = match_view r.matching; actions = actions }

-- the line of the live rule of a number, with these counts
abbrev pub live_line : History → RuleCounts → ℕ → List ℕ
live_line h counts number = option_map_or (rule_line_with counts) (rule_numbered number (live_in h)) []

-- whether an edit added the rule of a number and it isn't live
abbrev pub is_gone_in : History → ℕ → Bool
is_gone_in h number = if is_live number (live_in h) then not (is_some (added_as h.edits number)) else is_some (added_as h.edits number)
