use Rattle.std.proofs.Common.{◌<◌, ◌≤◌, ◌^◌, length, arith}
use Rattle.rule_tables.specs.History.{applied}
use Rattle.table_laws.proofs.Bundles.{few_bundles}
use Rattle.rule_tables.proofs.versions.VersionedRules.version.Goals as goal

pub overflow_cast-result : goal.overflow_cast-result
overflow_cast-result c =
    let few : length c.self.inside.bundles.items ≤ applied c.self.inside.edited.history =
    few_bundles c.self.inside.bundles.items (applied c.self.inside.edited.history) c.self.invariant.0 in
    let fits : applied c.self.inside.edited.history < 2 ^ 32 = c.self.invariant.1 in
    grind (arith, few, fits)
