use Rattle.flow_dump.proofs.sums.Adding.{AddedUpTo}
use Rattle.flow_dump.proofs.sums.sums.add_totals.Given as goal

abbrev pub invariant-rules : goal.invariant-rules
invariant-rules l = AddedUpTo l.totals l.before l.fn.counts l.counts
