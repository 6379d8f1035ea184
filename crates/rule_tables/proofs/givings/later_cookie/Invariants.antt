use Rattle.std.proofs.Common.{◌≡◌, take}
use Rattle.std.specs.List.{fold}
use Rattle.rule_tables.specs.Stored.{given_cookie}
use Rattle.rule_tables.proofs.givings.later_cookie.Given as goal

abbrev pub invariant-modifications : goal.invariant-modifications
invariant-modifications l = l.cookie ≡ fold (given_cookie l.after l.stored) l.fn.before (take l.modification-index l.modifications)
