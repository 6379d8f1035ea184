use Rattle.std.proofs.Common.{sym, subst}
use Rattle.address_prefixes.specs.Looks.{Adds}
use Rattle.address_prefixes.specs.Tries.{prefixes_in}
use Rattle.address_prefixes.proofs.tracker.LookLaws.{adds_none}
use Rattle.address_prefixes.proofs.tracker.Nodes.{some_in}
use Rattle.address_prefixes.proofs.tracker.look.with_other_side.Goals as goal

pub returns-in-Empty : goal.returns-in-Empty
returns-in-Empty c w x sound apart = subst (λ t. Adds w x c.args.found c.args.found (prefixes_in w t)) (sym c.in-Empty.is) (adds_none w x c.args.found)

pub returns-in-Fork : goal.returns-in-Fork
returns-in-Fork c w x sound apart = c.with_apart.ensures w x (prefixes_in w c.args.side.now) apart (some_in w c.args.side.now c.in-Fork.field-0 c.in-Fork.is sound)
