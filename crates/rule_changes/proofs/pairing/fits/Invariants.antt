use Rattle.std.proofs.Common.{ℕ, ◌<◌, get_or}
use Rattle.dump_lines.specs.Live.{live_in}
use Rattle.rule_changes.specs.declared.pair.Pair.{Pair}
use Rattle.rule_changes.specs.Pairs.{KeepOrder}
use Rattle.rule_changes.proofs.pairing.fits.Given as goal

-- it keeps the order of those so far
abbrev pub invariant-pairs : goal.invariant-pairs
invariant-pairs l = record {
  after : (k : ℕ) (d : Pair) → k < l.q-index → KeepOrder (live_in l.old) l.p (get_or l.pairs k d);
  before : (k : ℕ) (d : Pair) → k < l.q-index → KeepOrder (live_in l.old) (get_or l.pairs k d) l.p;
}
