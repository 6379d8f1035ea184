-- The rules of all versions, as bundles of edits made them.
use Rattle.std.specs.Prelude.{◌<◌, ◌^◌}
use Rattle.spec_tables.specs.Bundles.{AreBundles}
use Rattle.rule_tables.specs.declared.versions.VersionedRules.TheInside.{Inside}
use Rattle.rule_tables.specs.History.{History, applied}

abbrev pub versions_in : Inside → History
versions_in a = record { edits = a.edited.history; bundles = a.bundles.items }

-- All edits that were applied stand in bundles.
abbrev pub AreBundled : Inside → Type 0
AreBundled a = AreBundles a.bundles.items (applied a.edited.history) × (applied a.edited.history < 2 ^ 32)
