use Rattle.std.proofs.Common.{length, sym, ap, ◌∙◌}
use Rattle.rule_tables.specs.Edited.{Edited}
use Rattle.rule_tables.specs.History.{applied}
use Rattle.rule_tables.specs.Stored.{rules_at}
use Rattle.rule_tables.proofs.Histories.{applied-states_to, length-states_to}
use Rattle.rule_tables.proofs.edited.EditedRules.applied.Goals as goal

pub returns-clause-applied : goal.returns-clause-applied
returns-clause-applied c =
    sym (applied-states_to c.self.inside.last c.self.inside.changes (λ n. rules_at c.self.inside.modifications.items n c.self.inside.rules.items))
    ∙ ap (λ (s : Edited). applied s.history) c.self.view_is

pub returns-clause-states : goal.returns-clause-states
returns-clause-states c =
    sym (ap (λ (s : Edited). length s.history.states) c.self.view_is)
    ∙ length-states_to c.self.inside.last (λ n. rules_at c.self.inside.modifications.items n c.self.inside.rules.items)
