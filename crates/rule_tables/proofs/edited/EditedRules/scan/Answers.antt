use Rattle.std.proofs.Common.{ap, ◌∙◌}
use Rattle.std.specs.Option.{option_map}
use Rattle.ovs_fields.specs.Packed.{numbers}
use Rattle.spec_tables.specs.Rules.{rules_in, winner}
use Rattle.rule_tables.specs.Edited.{Edited}
use Rattle.rule_tables.proofs.Seen.{seen_rules}
use Rattle.rule_tables.proofs.edited.EditedRules.scan.Goals as goal

pub returns-in_err-stored : goal.returns-in_err-stored
returns-in_err-stored c =
    c.from_residual.ensures
    ∙ ap (option_map (λ r. r.number)) (c.in_err-stored.ensures c.self.inside.modifications.items ∙ ap (λ rules. winner (rules_in c.args.table rules) (numbers c.args.key.now)) (seen_rules c.self.inside.modifications.items c.self.inside.rules.items c.deref.result.now c.self.inside.last c.self.inside.changes c.args.self.now.history c.deref.ensures.value (ap (λ (s : Edited). s.history) c.self.view_is) c.args.after c.requires))

pub returns : goal.returns
returns c =
    ap (option_map (λ r. r.number)) (c.in_ok-stored.ensures c.self.inside.modifications.items ∙ ap (λ rules. winner (rules_in c.args.table rules) (numbers c.args.key.now)) (seen_rules c.self.inside.modifications.items c.self.inside.rules.items c.deref.result.now c.self.inside.last c.self.inside.changes c.args.self.now.history c.deref.ensures.value (ap (λ (s : Edited). s.history) c.self.view_is) c.args.after c.requires))
