use Rattle.std.proofs.Common.{ap, ap₂, ◌∙◌, subst, arith}
use Rattle.std.specs.Prelude.{List, IsPermutation}
use Rattle.spec_tables.specs.Rules.{Rule}
use Rattle.rule_tables.specs.Bare.{apart_from, told}
use Rattle.rule_tables.specs.Edited.{Edited}
use Rattle.rule_tables.proofs.EndLaws.{ends_moved}
use Rattle.rule_tables.proofs.Seen.{in_order_there, seen_rules}
use Rattle.rule_tables.proofs.edited.EditedRules.change.Goals as goal

pub between-requires : goal.between-requires
between-requires c = record {
  order = c.requires.order;
  in_order = in_order_there c.self.inside.rules.items c.deref.result.now c.deref.ensures.value c.self.invariant.consistent.in_order;
  ends = (c.self.inside.last, ends_moved c.self.inside.ends.items c.deref-2.result.now c.self.inside.rules.items c.deref.result.now c.self.inside.last c.deref-2.ensures.value c.deref.ensures.value c.self.invariant.ends);
}

pub returns-clause-came : goal.returns-clause-came
returns-clause-came c =
    c.between.ensures.came c.self.inside.modifications.items
    ∙ ap₂ apart_from
    (seen_rules c.self.inside.modifications.items c.self.inside.rules.items c.deref.result.now c.self.inside.last c.self.inside.changes c.args.self.now.history c.deref.ensures.value (ap (λ (s : Edited). s.history) c.self.view_is) c.args.before (omega (arith, c.requires.order, c.requires.made)))
    (seen_rules c.self.inside.modifications.items c.self.inside.rules.items c.deref.result.now c.self.inside.last c.self.inside.changes c.args.self.now.history c.deref.ensures.value (ap (λ (s : Edited). s.history) c.self.view_is) c.args.after c.requires.made)

pub returns-clause-went : goal.returns-clause-went
returns-clause-went c =
    subst (λ (rules : List Rule). IsPermutation rules (told c.between.result.went))
    (ap₂ apart_from
    (seen_rules c.self.inside.modifications.items c.self.inside.rules.items c.deref.result.now c.self.inside.last c.self.inside.changes c.args.self.now.history c.deref.ensures.value (ap (λ (s : Edited). s.history) c.self.view_is) c.args.after c.requires.made)
    (seen_rules c.self.inside.modifications.items c.self.inside.rules.items c.deref.result.now c.self.inside.last c.self.inside.changes c.args.self.now.history c.deref.ensures.value (ap (λ (s : Edited). s.history) c.self.view_is) c.args.before (omega (arith, c.requires.order, c.requires.made))))
    (c.between.ensures.went c.self.inside.modifications.items)
