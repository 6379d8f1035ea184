use Rattle.tuple_classifier.proofs.subtable.Subtable.is_empty.Goals as goal

pub returns : goal.returns
returns c empty rs is = c.is_empty.ensures empty rs is.staged
