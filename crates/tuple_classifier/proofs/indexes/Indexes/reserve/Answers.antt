use Rattle.std.proofs.Common.{ap, ◌∙◌}
use Rattle.tuple_classifier.specs.Numbers.{times}
use Rattle.tuple_classifier.proofs.indexes.Indexes.reserve.Goals as goal

pub returns-clause-same : goal.returns-clause-same
returns-clause-same c mask rs is = record { prefixed = is.prefixed; prioritised = λ n. ap (times n) c.reserve.ensures.items ∙ is.prioritised n }
