use Rattle.std.proofs.Common.{◌≡◌, Some, sym, ap, ◌∙◌, subst}
use Rattle.std.specs.Option.{option_map}
use Rattle.spec_actions.specs.Sound.{AreSound}
use Rattle.spec_tables.specs.Rules.{Rule}
use Rattle.ovs_fields.specs.Packed.{numbers}
use Rattle.rule_tables.specs.History.{rules_of}
use Rattle.pipe_model.proofs.Winners.{won_by_number}
use Rattle.xlate_pipeline.proofs.scanning.ScanLookups.find.Goals as goal

pub actions-requires-clause-live : goal.actions-requires-clause-live
actions-requires-clause-live c =
    let scan = c.args.self.now in
    (won_by_number (rules_of scan.rules.now scan.version) c.args.table (numbers c.args.key.now) c.in-Some.number c.requires.runnable c.in-Some.ensures).live

pub returns-in-Some-clause-winner : goal.returns-in-Some-clause-winner
returns-in-Some-clause-winner c =
    let scan = c.args.self.now in
    let won = won_by_number (rules_of scan.rules.now scan.version) c.args.table (numbers c.args.key.now) c.in-Some.number c.requires.runnable c.in-Some.ensures in
    let found : Some won.rule.actions ≡ Some c.actions.result.now = sym (ap (option_map (λ (r : Rule). r.actions)) won.numbered) ∙ c.actions.ensures in
    let same : won.rule.actions ≡ c.actions.result.now = cc found in record {
      rule = won.rule;
      wins = won.wins;
      its_number = won.its_number;
      its_actions = same;
      sound = subst AreSound same won.sound;
    }
