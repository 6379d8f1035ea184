-- Which stored rules may win.
use Rattle.std.specs.Prelude.{ℕ, Bool, ◌&&◌, ◌==◌, List}
use Rattle.spec_tables.specs.Rules.{is_matched}
use Rattle.rule_tables.specs.declared.stored.StoredRule.{StoredRule}
use Rattle.rule_tables.specs.Views.{match_view}
use Rattle.rule_tables.specs.Stored.{is_alive}

-- whether a stored rule stands in a table, is live after v edits and matches a key
abbrev pub is_candidate : ℕ → ℕ → List ℕ → StoredRule → Bool
is_candidate v table key s = (s.rule.table == table) && (is_alive v s && is_matched key (match_view s.rule.matching))
