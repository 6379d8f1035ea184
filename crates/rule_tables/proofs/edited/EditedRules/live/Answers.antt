use Rattle.std.proofs.Common.{ap, ◌∙◌}
use Rattle.spec_tables.specs.Live.{is_live}
use Rattle.rule_tables.specs.Edited.{Edited}
use Rattle.rule_tables.specs.Stored.{stored_in}
use Rattle.rule_tables.proofs.Numbered.{live_if_found}
use Rattle.rule_tables.proofs.Seen.{in_order_there, seen_rules}
use Rattle.rule_tables.proofs.edited.EditedRules.live.Goals as goal

pub find_live-requires : goal.find_live-requires
find_live-requires c = in_order_there c.self.inside.rules.items c.deref.result.now c.deref.ensures.value c.self.invariant.consistent.in_order

pub returns : goal.returns
returns c =
    c.is_some.ensures ∙ live_if_found (λ s. stored_in c.self.inside.modifications.items c.args.after s.now) c.find_live.result c.args.number _ (c.find_live.ensures.rule c.self.inside.modifications.items)
    ∙ ap (is_live c.args.number) (seen_rules c.self.inside.modifications.items c.self.inside.rules.items c.deref.result.now c.self.inside.last c.self.inside.changes c.args.self.now.history c.deref.ensures.value (ap (λ (s : Edited). s.history) c.self.view_is) c.args.after c.requires)
