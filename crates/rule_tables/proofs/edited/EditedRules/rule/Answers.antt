use Rattle.std.proofs.Common.{sym, ap, ◌∙◌}
use Rattle.std.specs.Prelude.{is_some}
use Rattle.std.proofs.lemmas.Bool.{false≢true}
use Rattle.std.proofs.lemmas.Option.{none-some}
use Rattle.rule_tables.specs.Edited.{Edited}
use Rattle.rule_tables.proofs.Seen.{in_order_there, none_added, is_added}
use Rattle.rule_tables.proofs.edited.EditedRules.rule.Goals as goal

pub stored_at-requires : goal.stored_at-requires
stored_at-requires c = in_order_there c.self.inside.rules.items c.deref.result.now c.deref.ensures.value c.self.invariant.consistent.in_order

pub returns-in_err-stored-clause-none : goal.returns-in_err-stored-clause-none
returns-in_err-stored-clause-none c = (
  λ none.
      none_added c.self.inside.modifications.items c.self.inside.rules.items c.deref.result.now c.self.inside.last c.self.inside.changes c.args.self.now.history c.deref.ensures.value (ap (λ (s : Edited). s.history) c.self.view_is)
      c.self.invariant.consistent.in_order c.self.invariant.consistent.numbered c.self.invariant.consistent.lives c.args.number c.in_err-stored.ensures,
  λ none. ap is_some c.from_residual.ensures,
)

pub returns-clause-none : goal.returns-clause-none
returns-clause-none c = (
  λ none. absurd (false≢true (sym none)),
  λ none.
      absurd (none-some _ (sym none
      ∙ is_added c.self.inside.modifications.items c.self.inside.rules.items c.deref.result.now c.self.inside.last c.self.inside.changes c.args.self.now.history c.deref.ensures.value (ap (λ (s : Edited). s.history) c.self.view_is)
      c.self.invariant.consistent.in_order c.self.invariant.consistent.numbered c.self.invariant.consistent.lives c.args.number c.in_ok-stored.stored.now c.in_ok-stored.ensures)),
)

pub returns-clause-some : goal.returns-clause-some
returns-clause-some c = (
  c.in_ok-stored.stored.now.actions,
  is_added c.self.inside.modifications.items c.self.inside.rules.items c.deref.result.now c.self.inside.last c.self.inside.changes c.args.self.now.history c.deref.ensures.value (ap (λ (s : Edited). s.history) c.self.view_is)
      c.self.invariant.consistent.in_order c.self.invariant.consistent.numbered c.self.invariant.consistent.lives c.args.number c.in_ok-stored.stored.now c.in_ok-stored.ensures,
)
