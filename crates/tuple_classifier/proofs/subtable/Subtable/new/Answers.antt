use Rattle.std.proofs.Common.{[], subst, sym}
use Rattle.tuple_classifier.specs.Indexes.{AreIndexes}
use Rattle.tuple_classifier.proofs.subtable.Subtable.new.Goals as goal

pub returns-clause-rules : goal.returns-clause-rules
returns-clause-rules c = record { staged = c.new.ensures.rules; indexed = subst (λ m. AreIndexes c.new-2.result m []) (sym c.new.ensures.mask) c.new-2.ensures }
