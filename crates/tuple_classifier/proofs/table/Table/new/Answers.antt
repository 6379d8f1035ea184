use Rattle.tuple_classifier.proofs.table.Table.new.Goals as goal

pub returns : goal.returns
returns c = record { kept = c.new-2.ensures; prefixed = c.new.ensures }
