use Rattle.std.proofs.Common.{sym, ◌∙◌, eqb-true}
use Rattle.staged_lookup.proofs.OtherRules.{no_rules}
use Rattle.staged_lookup.proofs.subtable.Subtable.is_empty.Goals as goal

pub returns : goal.returns
returns c empty rs is = no_rules rs (sym is.count ∙ eqb-true c.args.self.now.rules 0 empty)
