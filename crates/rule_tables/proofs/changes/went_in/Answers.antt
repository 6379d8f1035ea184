use Rattle.std.proofs.Common.{Some, None, sym, ap, ◌∙◌}
use Rattle.std.specs.Prelude.{nat_le}
use Rattle.std.specs.Option.{option_map, option_and_then}
use Rattle.std.proofs.lemmas.Bool.{cond-true, cond-false, le-leb, lt-leb}
use Rattle.rule_tables.specs.declared.stored.StoredRule.{StoredRule}
use Rattle.rule_tables.specs.Bare.{bare_view}
use Rattle.rule_tables.specs.Changes.{if_before, went_at}
use Rattle.rule_tables.proofs.changes.went_in.Goals as goal

pub returns-in_err-stored : goal.returns-in_err-stored
returns-in_err-stored c =
    ap (option_map (went_at c.args.rules.now c.args.before)) c.end_at-end.ensures
    ∙ ap (λ o. Some (option_and_then (if_before c.args.before) o)) (sym c.in_err-stored.ensures)
    ∙ sym (ap (λ o. Some (option_map (λ r. bare_view r.now) o)) c.from_residual.ensures)

pub returns-then-stored-before : goal.returns-then-stored-before
returns-then-stored-before c =
    let s : StoredRule = c.in_ok-stored.stored.now in
    ap (option_map (went_at c.args.rules.now c.args.before)) c.end_at-end.ensures
    ∙ ap (λ o. Some (option_and_then (if_before c.args.before) o)) (sym c.in_ok-stored.ensures)
    ∙ ap Some (cond-true (nat_le s.rule.number c.args.before) (Some (bare_view s.rule)) None (le-leb s.rule.number c.args.before c.if-stored-before.true))

pub returns-else-stored-before : goal.returns-else-stored-before
returns-else-stored-before c =
    let s : StoredRule = c.in_ok-stored.stored.now in
    ap (option_map (went_at c.args.rules.now c.args.before)) c.end_at-end.ensures
    ∙ ap (λ o. Some (option_and_then (if_before c.args.before) o)) (sym c.in_ok-stored.ensures)
    ∙ ap Some (cond-false (nat_le s.rule.number c.args.before) (Some (bare_view s.rule)) None (lt-leb s.rule.number c.args.before c.if-stored-before.false))
