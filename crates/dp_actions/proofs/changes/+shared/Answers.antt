use Rattle.std.proofs.Common.{◌≡◌, ◌+◌, ◌∷◌, true, false, length, sym, ◌∙◌, arith}
use Rattle.named_fields.specs.TagViews.{tag_view}
use Rattle.dp_actions.proofs.TagSteps.{none_shared, first_shared, first_other, same_tag-comm}
use Rattle.dp_actions.proofs.changes.+shared.Goals as goal

pub returns-in_default-clause-before : goal.returns-in_default-clause-before
returns-in_default-clause-before t c = (none_shared c.args.before.now c.args.after.now c.in_default.ensures.cases).0

pub returns-in_default-clause-after : goal.returns-in_default-clause-after
returns-in_default-clause-after t c = (none_shared c.args.before.now c.args.after.now c.in_default.ensures.cases).1

pub returns-in_default-split_first-clause-before : goal.returns-in_default-split_first-clause-before
returns-in_default-split_first-clause-before t c = (none_shared c.args.after.now c.args.before.now c.in_default-split_first.ensures.cases).1

pub returns-in_default-split_first-clause-after : goal.returns-in_default-split_first-clause-after
returns-in_default-split_first-clause-after t c = (none_shared c.args.after.now c.args.before.now c.in_default-split_first.ensures.cases).0

pub returns-then-is_same-clause-before : goal.returns-then-is_same-clause-before
returns-then-is_same-clause-before t c =
    first_shared _ _ _ _ _ _ c.shared.result c.in-Some.ensures.cases.0 c.in-Some-split_first.ensures.cases.0 (sym c.is_same.ensures ∙ c.if-is_same.true) c.shared.ensures.before

pub returns-then-is_same-clause-after : goal.returns-then-is_same-clause-after
returns-then-is_same-clause-after t c =
    first_shared _ _ _ _ _ _ c.shared.result c.in-Some-split_first.ensures.cases.0 c.in-Some.ensures.cases.0
    (same_tag-comm (tag_view c.in-Some.first.now) (tag_view c.in-Some-split_first.other.now) ∙ (sym c.is_same.ensures ∙ c.if-is_same.true)) c.shared.ensures.after

pub returns-else-is_same-clause-before : goal.returns-else-is_same-clause-before
returns-else-is_same-clause-before t c =
    first_other _ _ _ _ _ _ c.in-Some.ensures.cases.0 c.in-Some-split_first.ensures.cases.0 (sym c.is_same.ensures ∙ c.if-is_same.false)

pub returns-else-is_same-clause-after : goal.returns-else-is_same-clause-after
returns-else-is_same-clause-after t c =
    first_other _ _ _ _ _ _ c.in-Some-split_first.ensures.cases.0 c.in-Some.ensures.cases.0 (same_tag-comm (tag_view c.in-Some.first.now) (tag_view c.in-Some-split_first.other.now) ∙ (sym c.is_same.ensures ∙ c.if-is_same.false))
