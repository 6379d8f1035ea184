use Rattle.std.proofs.Common.{arith}
use Rattle.dump_lines.specs.Live.{live_in}
use Rattle.rule_changes.specs.declared.pair.Pair.{Pair}
use Rattle.rule_changes.specs.Pairs.{KeepOrder}
use Rattle.rule_changes.proofs.ListLaws.{all_places}
use Rattle.rule_changes.proofs.pairing.fits.Goals as goal

pub returns-clause-after : goal.returns-clause-after
returns-clause-after c is =
    let past = c.pairs-test.false in
    all_places (λ (q : Pair). KeepOrder (live_in c.args.old.now) c.args.p.now q) c.args.pairs.now (λ k d within. c.pairs.invariant.after k d (omega arith))

pub returns-clause-before : goal.returns-clause-before
returns-clause-before c is =
    let past = c.pairs-test.false in
    all_places (λ (q : Pair). KeepOrder (live_in c.args.old.now) q c.args.p.now) c.args.pairs.now (λ k d within. c.pairs.invariant.before k d (omega arith))
