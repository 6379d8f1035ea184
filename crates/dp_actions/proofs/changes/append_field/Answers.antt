use Rattle.std.proofs.Common.{sym, ap, ◌∙◌, ◌++◌, append-nil}
use Rattle.std.proofs.lemmas.Result.{on_ok_weaker}
use Rattle.dp_actions.proofs.CommitSteps.{field_same, field_set}
use Rattle.dp_actions.proofs.changes.append_field.Goals as goal

pub returns-then-before-after-clause-ok : goal.returns-then-before-after-clause-ok
returns-then-before-after-clause-ok c =
    sym (ap (λ xs. c.args.out.now ++ xs) (field_same c.args.field _ _ _ _ c.get-before.ensures.value c.get-after.ensures.value c.if-before-after.true) ∙ append-nil c.args.out.now)

pub returns-clause-ok : goal.returns-clause-ok
returns-clause-ok c =
    on_ok_weaker c.push.result (λ e. e ∙ ap (λ xs. c.args.out.now ++ xs) (field_set c.args.field _ _ _ _ c.get-before.ensures.value c.get-after.ensures.value c.if-before-after.false)) c.push.ensures.ok
