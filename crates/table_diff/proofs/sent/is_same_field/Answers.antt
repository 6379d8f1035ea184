use Rattle.std.proofs.Common.{ℕ, ◌==◌, ap₂, ◌∙◌}
use Rattle.table_diff.proofs.SameActions.{tag_is}
use Rattle.table_diff.proofs.sent.is_same_field.Goals as goal

pub returns : goal.returns
returns c = c.eq.ensures ∙ ap₂ (λ (a b : ℕ). a == b) (tag_is c.args.field) (tag_is c.args.other)
