use Rattle.std.proofs.Common.{ap, sym, subst, ◌++◌, ◌∷◌, []}
use Rattle.ovs_fields.specs.Packed.{bits}
use Rattle.tuple_classifier.specs.Indexes.{AreIndexes}
use Rattle.staged_lookup.proofs.Results.{on_err_always}
use Rattle.tuple_classifier.proofs.subtable.Subtable.insert.Goals as goal

pub returns-in_err-reserve-clause-err : goal.returns-in_err-reserve-clause-err
returns-in_err-reserve-clause-err c = on_err_always c.from_residual.result _ (λ rs is. record { staged = is.staged; indexed = c.reserve.ensures.same (bits c.args.self.now.staged.mask) rs is.indexed })

pub returns-in_err-insert-clause-err : goal.returns-in_err-insert-clause-err
returns-in_err-insert-clause-err c = on_err_always c.from_residual-in_err-insert.result _ (λ rs is. record {
  staged = c.in_err-insert.ensures.err rs is.staged;
  indexed = subst (λ m. AreIndexes c.reserve.new.self (bits m) rs) (sym c.insert.ensures.mask) (c.reserve.ensures.same (bits c.args.self.now.staged.mask) rs is.indexed);
})

pub returns-clause-ok : goal.returns-clause-ok
returns-clause-ok c rs r is of_match of_rank = record {
  staged = c.in_ok-insert.ensures.ok rs r is.staged (ap (λ k. k.number) of_rank) (ap (λ k. k.priority) of_rank) of_match;
  indexed = subst (λ m. AreIndexes c.add.new.self (bits m) (rs ++ r ∷ [])) (sym c.insert.ensures.mask)
      (c.add.ensures (bits c.args.self.now.staged.mask) rs r (c.reserve.ensures.same (bits c.args.self.now.staged.mask) rs is.indexed) (ap (λ k. k.priority) of_rank));
}
