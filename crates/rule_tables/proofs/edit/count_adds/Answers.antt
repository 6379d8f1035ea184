use Rattle.std.proofs.Common.{ℕ, ◌+◌, ◌<◌, length, sym, ap, ◌∙◌, arith}
use Rattle.std.proofs.lemmas.List.Sums.{count_by_more_yes, count_by_more_no}
use Rattle.rule_tables.specs.Edited.{adds}
use Rattle.rule_tables.proofs.edit.count_adds.Goals as goal
use Rattle.rule_tables.proofs.edit.count_adds.Goals.{then-is_add, else-is_add}

pub list-preserved : goal.list-preserved
list-preserved c =
    let within : c.list.edit-index < length c.args.list.now = omega arith in
    elim c.if-is_add.branch [
      | then-is_add w ↦
          w.count-is ∙ ap (λ (k : ℕ). k + 1) c.list.invariant
          ∙ sym (count_by_more_yes adds c.args.list.now c.list.edit-index c.edit-item.result within
          (ap adds (sym c.edit-item.is) ∙ sym c.is_add.ensures ∙ w.if-is_add.true))
      | else-is_add w ↦
          w.count-is ∙ c.list.invariant
          ∙ sym (count_by_more_no adds c.args.list.now c.list.edit-index c.edit-item.result within
          (ap adds (sym c.edit-item.is) ∙ sym c.is_add.ensures ∙ w.if-is_add.false))
    ]
