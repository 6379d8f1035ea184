use Rattle.std.proofs.Common.{◌≡◌, Some, sym, ap, ◌∙◌, subst}
use Rattle.std.specs.Option.{option_map}
use Rattle.spec_actions.specs.Sound.{AreSound}
use Rattle.spec_tables.specs.Rules.{Rule}
use Rattle.ovs_fields.specs.Packed.{numbers}
use Rattle.table_diff.proofs.OpenLaws.{won_in}
use Rattle.table_diff.proofs.finding.found.Goals as goal

pub actions-requires-clause-live : goal.actions-requires-clause-live
actions-requires-clause-live c =
    (won_in c.args.rules.now c.version.result c.version.ensures c.requires.runnable c.args.table (numbers c.args.key.now) c.in-Some.number (sym c.in-Some.is ∙ c.requires.winner)).live

pub returns-in-Some : goal.returns-in-Some
returns-in-Some c =
    let won = won_in c.args.rules.now c.version.result c.version.ensures c.requires.runnable c.args.table (numbers c.args.key.now) c.in-Some.number (sym c.in-Some.is ∙ c.requires.winner) in
    let found : Some won.rule.actions ≡ Some c.actions.result.now = sym (ap (option_map (λ (r : Rule). r.actions)) won.numbered) ∙ c.actions.ensures in
    let same : won.rule.actions ≡ c.actions.result.now = cc found in record {
      rule = won.rule;
      wins = won.wins;
      its_number = won.its_number;
      its_actions = same;
      sound = subst AreSound same won.sound;
    }
