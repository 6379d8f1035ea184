use Rattle.std.proofs.Common.{◌∙◌}
use Rattle.std.specs.Prelude.{nat_le}
use Rattle.tuple_classifier.proofs.PriorityLaws.{any_priority}
use Rattle.tuple_classifier.specs.Numbers.{numbers_in}
use Rattle.tuple_classifier.proofs.indexes.Indexes.reaches.Goals as goal

pub returns : goal.returns
returns c mask rs is = c.reaches.ensures ∙ any_priority rs (numbers_in c.args.self.now.priorities.items.items) is.prioritised (λ n. nat_le c.args.floor n)
