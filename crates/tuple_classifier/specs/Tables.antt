-- A table, and its rules.
use Rattle.std.specs.Prelude.{◌≡◌, List}
use Rattle.spec_tables.specs.Rules as tables
use Rattle.spec_tables.specs.Rules.{Rule}
use Rattle.table_laws.specs.Members.{Among}
use Rattle.address_prefixes.specs.Addresses.{AreOf}
use Rattle.staged_lookup.specs.declared.rank.Rank.{Rank}
use Rattle.tuple_classifier.specs.declared.table.Table.{Table}
use Rattle.tuple_classifier.specs.Kept.{AreKeptOf}
use Rattle.tuple_classifier.specs.Ranks.{rank_of}

-- its subtables have these rules, and its prefixes are those that they state
pub record IsTableOf (t : Table) (rs : List Rule) : Type 0 where
  pub kept : AreKeptOf t.subtables rs
  pub prefixed : AreOf t.prefixes rs

-- it has a rule with this match and rank
pub record HasRuleOf (t : Table) (m : tables.Match) (rank : Rank) : Type 0 where
  pub rules : List Rule
  pub rule : Rule
  pub are : IsTableOf t rules
  pub among : Among rule rules
  pub matching_is : rule.matching ≡ m
  pub rank_is : rank_of rule ≡ rank
