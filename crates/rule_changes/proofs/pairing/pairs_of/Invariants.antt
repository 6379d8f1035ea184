use Rattle.dump_lines.specs.Live.{live_in}
use Rattle.rule_changes.specs.Pairs.{ArePairs}
use Rattle.rule_changes.proofs.pairing.pairs_of.Given as goal

abbrev pub invariant-numbers : goal.invariant-numbers
invariant-numbers l = ArePairs (live_in l.old) (live_in l.new) l.pairs.items
