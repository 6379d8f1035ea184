use Rattle.std.proofs.Common.{ap, sym, subst}
use Rattle.ovs_fields.specs.Packed.{bits}
use Rattle.staged_lookup.specs.Numbered.{without}
use Rattle.staged_lookup.specs.Subtables as lookup
use Rattle.tuple_classifier.specs.Indexes.{AreIndexes}
use Rattle.tuple_classifier.proofs.subtable.Subtable.take.Goals as goal

pub returns-clause-taken : goal.returns-clause-taken
returns-clause-taken c rs r is m of_rank = record {
  staged = subst (λ n. lookup.IsSubtableOf c.remove.new.self (without n rs)) (sym (ap (λ k. k.number) of_rank)) (c.remove.ensures.removed rs is.staged);
  indexed = subst (λ m. AreIndexes c.take.new.self (bits m) (without r.number rs)) (sym c.remove.ensures.mask)
      (c.take.ensures (bits c.args.self.now.staged.mask) rs r is.indexed is.staged.distinct m (ap (λ k. k.priority) of_rank));
}
