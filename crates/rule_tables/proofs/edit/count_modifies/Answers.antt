use Rattle.std.proofs.Common.{ℕ, ◌+◌, ◌<◌, length, sym, ap, ◌∙◌, arith}
use Rattle.std.proofs.lemmas.List.Sums.{count_by_more_yes, count_by_more_no}
use Rattle.rule_tables.specs.Edited.{modifies}
use Rattle.rule_tables.proofs.edit.count_modifies.Goals as goal
use Rattle.rule_tables.proofs.edit.count_modifies.Goals.{then-is_modify, else-is_modify}

pub list-preserved : goal.list-preserved
list-preserved c =
    let within : c.list.edit-index < length c.args.list.now = omega arith in
    elim c.if-is_modify.branch [
      | then-is_modify w ↦
          w.count-is ∙ ap (λ (k : ℕ). k + 1) c.list.invariant
          ∙ sym (count_by_more_yes modifies c.args.list.now c.list.edit-index c.edit-item.result within
          (ap modifies (sym c.edit-item.is) ∙ sym c.is_modify.ensures ∙ w.if-is_modify.true))
      | else-is_modify w ↦
          w.count-is ∙ c.list.invariant
          ∙ sym (count_by_more_no modifies c.args.list.now c.list.edit-index c.edit-item.result within
          (ap modifies (sym c.edit-item.is) ∙ sym c.is_modify.ensures ∙ w.if-is_modify.false))
    ]
