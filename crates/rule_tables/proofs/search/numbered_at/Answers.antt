use Rattle.std.proofs.Common.{sym}
use Rattle.rule_tables.proofs.Numbered.{at_its_place}
use Rattle.rule_tables.proofs.search.numbered_at.Goals as goal

pub returns-then-stored-number : goal.returns-then-stored-number
returns-then-stored-number c =
    at_its_place c.args.number c.args.place c.args.rules.now c.requires c.in_ok-stored.stored.now (sym c.in_ok-stored.ensures) c.if-stored-number.true
