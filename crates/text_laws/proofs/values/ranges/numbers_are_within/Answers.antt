use Rattle.text_laws.proofs.values.WithinLaws.{number_within}
use Rattle.text_laws.proofs.values.ranges.numbers_are_within.Goals as goal

pub returns : goal.returns
returns c most text n h = number_within most text n h
