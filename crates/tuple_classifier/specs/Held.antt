-- What the tables are seen as, and what holds of their parts.
use Rattle.std.specs.Prelude.{◌≤◌, List, map}
use Rattle.spec_tables.specs.Rules.{Rule}
use Rattle.rule_tables.specs.Bare.{bare}
use Rattle.rule_tables.specs.History.{newest, rules_of}
use Rattle.staged_lookup.specs.Numbered.{AreDistinct}
use Rattle.tuple_classifier.specs.declared.tables.Tables.TheInside.{Inside}
use Rattle.tuple_classifier.specs.ByTable.{AreClassified}
use Rattle.tuple_classifier.specs.Versions.{Version, version_in}

abbrev pub version_at : Inside → Version
version_at a = version_in a.store.now a.version

-- the rules of the version, of which lookups read neither cookies nor actions
abbrev pub bare_rules : Inside → List Rule
bare_rules a = map bare (rules_of a.store.now a.version)

-- The version is one of the store's, and the tables have its rules.
pub record HoldsVersion (a : Inside) : Type 0 where
  pub made : a.version ≤ newest a.store.now
  pub distinct : AreDistinct (bare_rules a)
  pub classified : AreClassified a.tables.items (bare_rules a)
