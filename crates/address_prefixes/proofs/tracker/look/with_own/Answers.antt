use Rattle.std.proofs.Common.{refl, arith}
use Rattle.address_prefixes.proofs.tracker.LookLaws.{adds_own, adds_own_none}
use Rattle.address_prefixes.proofs.tracker.look.with_own.Goals as goal

pub returns-then-count-eq0 : goal.returns-then-count-eq0
returns-then-count-eq0 c w x bits within wide begins = adds_own_none w x bits c.args.length c.args.count c.args.found c.if-count-eq0.true

pub returns : goal.returns
returns c w x bits within wide begins =
    adds_own w x bits c.args.length c.args.count c.args.found _ within wide (c.requires.some (omega arith)) (omega arith) begins refl c.max.ensures
