use Rattle.std.proofs.Common.{refl, sym, ap, ◌∙◌, arith}
use Rattle.rule_tables.specs.Edited.{Edited}
use Rattle.rule_tables.proofs.Orders.{none_first}
use Rattle.rule_tables.proofs.Seen.{seen_rules}
use Rattle.rule_tables.proofs.edited.EditedRules.first_law.Goals as goal

pub returns : goal.returns
returns c =
    sym (seen_rules c.self.inside.modifications.items c.self.inside.rules.items c.self.inside.rules.items c.self.inside.last c.self.inside.changes c.args.self.now.history refl (ap (λ (s : Edited). s.history) c.self.view_is) 0 (omega arith))
    ∙ none_first c.self.inside.modifications.items c.self.inside.rules.items c.self.inside.last c.self.invariant.consistent.numbered
