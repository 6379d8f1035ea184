-- What bundles change, but for what modifies give.
use Rattle.std.specs.Prelude.{ℕ, ◌+◌, nat_le, if◌then◌else◌, List, map, slice_get, Option, Some, None}
use Rattle.std.specs.Option.{option_and_then}
use Rattle.spec_tables.specs.Rules as tables
use Rattle.rule_tables.specs.declared.changes.Change.TheInside.{Inside}
use Rattle.rule_tables.specs.declared.ending.Ending.{Ending}
use Rattle.rule_tables.specs.declared.stored.StoredRule.{StoredRule}
use Rattle.rule_tables.specs.Bare.{bare_view, apart_from}
use Rattle.rule_tables.specs.History.{History, rules_of}
use Rattle.rule_tables.specs.Stored.{is_alive}

-- the rules that came with version v + 1: version v has none of their numbers
abbrev pub came : History → ℕ → List tables.Rule
came h v = apart_from (rules_of h v) (rules_of h (v + 1))

-- the rules of version v that went with version v + 1
abbrev pub went : History → ℕ → List tables.Rule
went h v = apart_from (rules_of h (v + 1)) (rules_of h v)

-- What contracts see of a change: at each place a rule that came, or that went, or none.
pub record Changed : Type 0 where
  pub came : List (Option tables.Rule)
  pub went : List (Option tables.Rule)

-- ---- as it is stored

-- a rule that was added, if it is live after so many edits
abbrev pub came_at : ℕ → StoredRule → Option tables.Rule
came_at after s = if is_alive after s then Some (bare_view s.rule) else None

-- a rule, if it was added by one of so many edits
abbrev pub if_before : ℕ → StoredRule → Option tables.Rule
if_before before s = if nat_le s.rule.number before then Some (bare_view s.rule) else None

-- the rule whose life ended, if it was added before
abbrev pub went_at : List StoredRule → ℕ → Ending → Option tables.Rule
went_at stored before e = option_and_then (if_before before) (slice_get stored e.place)

abbrev pub changed_in : Inside → Changed
changed_in a = record { came = map (came_at a.after) a.added.now; went = map (went_at a.rules.now a.before) a.ended.now }
