use Rattle.std.proofs.Common.{subst, sym}
use Rattle.tuple_classifier.specs.ByTable.{AreClassified, HaveNoRule}
use Rattle.tuple_classifier.proofs.TablesLaws.{one_more, one_more_new}
use Rattle.tuple_classifier.proofs.by_table.grow.Goals as goal

pub tables-preserved : goal.tables-preserved
tables-preserved c = record {
  rules = λ rules are. subst (λ ts. AreClassified ts rules) (sym c.in_ok-push.ensures.items) (one_more c.tables.tables.items c.new.result rules c.new.ensures (c.tables.invariant.rules rules are));
  numbers = λ number new. subst (HaveNoRule number) (sym c.in_ok-push.ensures.items) (one_more_new c.tables.tables.items c.new.result number c.new.ensures (c.tables.invariant.numbers number new));
}

pub returns-in_err-push-clause-numbers : goal.returns-in_err-push-clause-numbers
returns-in_err-push-clause-numbers c number new = subst (HaveNoRule number) (sym c.in_err-push.ensures.items) (c.tables.invariant.numbers number new)
