-- The rules of all tables.
use Rattle.std.specs.Prelude.{◌≡◌, ℕ, List, [], slice_get, Option, Some, None}
use Rattle.spec_tables.specs.Rules as tables
use Rattle.spec_tables.specs.Rules.{Rule, rules_in}
use Rattle.table_laws.specs.Members.{Among}
use Rattle.staged_lookup.specs.declared.rank.Rank.{Rank}
use Rattle.staged_lookup.specs.Subtables.{HasNoRule}
use Rattle.tuple_classifier.specs.declared.subtable.Subtable.{Subtable}
use Rattle.tuple_classifier.specs.declared.table.Table.{Table}
use Rattle.tuple_classifier.specs.Kept.{by_place}
use Rattle.tuple_classifier.specs.Ranks.{rank_of}
use Rattle.tuple_classifier.specs.Tables.{IsTableOf}

-- a table has these rules; where it is missing there are none
abbrev pub HasRules : Option Table → List Rule → Type 0
HasRules None rs = rs ≡ []
HasRules (Some t) rs = IsTableOf t rs

-- each table has those of these rules that are in it
abbrev pub AreClassified : List Table → List Rule → Type 0
AreClassified tables rules = (table : ℕ) → HasRules (slice_get tables table) (rules_in table rules)

-- none of the rules has this number
abbrev pub HaveNoRule : ℕ → List Table → Type 0
HaveNoRule number tables = (table i : ℕ) (t : Table) (s : Subtable) → slice_get tables table ≡ Some t → slice_get (by_place t.subtables) i ≡ Some s → HasNoRule number s.staged

-- one of the rules is in this table, with this match and rank
pub record HaveRuleOf (ts : List Table) (table : ℕ) (m : tables.Match) (rank : Rank) : Type 0 where
  pub rules : List Rule
  pub rule : Rule
  pub are : AreClassified ts rules
  pub among : Among rule rules
  pub table_is : rule.table ≡ table
  pub matching_is : rule.matching ≡ m
  pub rank_is : rank_of rule ≡ rank
