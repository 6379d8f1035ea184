use Rattle.std.proofs.Common.{Some, sym, ap, ◌∙◌}
use Rattle.std.specs.Option.{option_map}
use Rattle.spec_tables.specs.Live.{rule_numbered}
use Rattle.rule_tables.specs.Edited.{Edited}
use Rattle.rule_tables.specs.Stored.{cookie_in}
use Rattle.rule_tables.proofs.Logged.{log_at_number}
use Rattle.rule_tables.proofs.Numbered.{not_live}
use Rattle.rule_tables.proofs.Seen.{in_order_there, seen_rules}
use Rattle.rule_tables.proofs.edited.EditedRules.cookie.Goals as goal

pub find_live-requires : goal.find_live-requires
find_live-requires c = in_order_there c.self.inside.rules.items c.deref.result.now c.deref.ensures.value c.self.invariant.consistent.in_order

pub unreachable-requires : goal.unreachable-requires
unreachable-requires c =
    not_live c.args.number _ (c.in-None.ensures.rule c.self.inside.modifications.items ∙ ap (rule_numbered c.args.number) (seen_rules c.self.inside.modifications.items c.self.inside.rules.items c.deref.result.now c.self.inside.last c.self.inside.changes c.args.self.now.history c.deref.ensures.value (ap (λ (s : Edited). s.history) c.self.view_is) c.args.after c.requires.made)) c.requires.live

pub cookie_in-requires-clause-given : goal.cookie_in-requires-clause-given
cookie_in-requires-clause-given c =
    log_at_number c.self.inside.log c.self.inside.modifications.items c.deref-in-Some.result.now c.self.inside.rules.items c.deref.result.now c.args.number c.in-Some.stored.now
    c.deref-in-Some.ensures.value c.deref.ensures.value c.in-Some.ensures.stored c.self.invariant.log

pub returns : goal.returns
returns c =
    ap (option_map (λ r. r.cookie)) (ap (rule_numbered c.args.number) (sym (seen_rules c.self.inside.modifications.items c.self.inside.rules.items c.deref.result.now c.self.inside.last c.self.inside.changes c.args.self.now.history c.deref.ensures.value (ap (λ (s : Edited). s.history) c.self.view_is) c.args.after c.requires.made)) ∙ sym (c.in-Some.ensures.rule c.self.inside.modifications.items))
    ∙ ap (λ x. Some x) (sym (c.cookie_in.ensures ∙ ap (λ made. cookie_in made c.args.after c.in-Some.stored.now) c.deref-in-Some.ensures.value))
