use Rattle.std.proofs.Common.{◌≡◌, ℕ, ◌+◌, ◌<◌, length, slice_get, Some, sym, ap, ◌∙◌, arith}
use Rattle.std.proofs.lemmas.List.Sums.{count_by_more_yes, count_by_more_no}
use Rattle.std.proofs.lemmas.Option.{slice_get-get_or}
use Rattle.rule_tables.specs.Stored.{acts_on}
use Rattle.rule_tables.proofs.SignedLaws.{signature_at}
use Rattle.rule_tables.proofs.stored.count_acted_on.Goals as goal
use Rattle.rule_tables.proofs.stored.count_acted_on.Goals.{then-is_found, else-is_found}

pub rules-preserved : goal.rules-preserved
rules-preserved c =
    let within : c.rules.stored-index < length c.args.rules.now = omega arith in
    let s = c.stored-item.result in
    let at : slice_get c.args.rules.now c.rules.stored-index ≡ Some s = slice_get-get_or c.args.rules.now c.rules.stored-index s within ∙ ap Some (sym c.stored-item.is) in
    let acts = sym (c.is_found.ensures (signature_at c.args.signatures.now c.args.rules.now c.rules.stored-index c.rules.place s _ c.requires c.rules.invariant.place at) c.wanted-wanted.ensures) in
    elim c.if-is_found.branch [
      | then-is_found w ↦
          record {
            place = ap (λ (k : ℕ). k + 1) c.rules.invariant.place;
            count =
                w.count-is ∙ ap (λ (k : ℕ). k + 1) c.rules.invariant.count
                ∙ sym (count_by_more_yes (acts_on c.args.edit.now) c.args.rules.now c.rules.stored-index s within
                (ap (acts_on c.args.edit.now) (sym c.stored-item.is) ∙ acts ∙ w.if-is_found.true));
          }
      | else-is_found w ↦
          record {
            place = ap (λ (k : ℕ). k + 1) c.rules.invariant.place;
            count =
                w.count-is ∙ c.rules.invariant.count
                ∙ sym (count_by_more_no (acts_on c.args.edit.now) c.args.rules.now c.rules.stored-index s within
                (ap (acts_on c.args.edit.now) (sym c.stored-item.is) ∙ acts ∙ w.if-is_found.false));
          }
    ]
