use Rattle.std.proofs.Common.{◌∙◌, sym}
use Rattle.tuple_classifier.proofs.KeptLaws.{length-ranked}
use Rattle.tuple_classifier.proofs.subtables.Subtables.len.Goals as goal

pub returns : goal.returns
returns c = c.len.ensures ∙ c.args.self.now.order.ok.0 ∙ sym (length-ranked c.args.self.now)
