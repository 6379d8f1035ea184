use Rattle.std.proofs.Common.{◌==◌, ◌-◌, ap}
use Rattle.std.proofs.lemmas.Nat.Bits.{shr_and_one}
use Rattle.address_prefixes.proofs.prefix_test.begins_with_some.Goals as goal

pub returns : goal.returns
returns c = ap (λ b. b == 1) (shr_and_one c.args.found.lengths (c.args.length - 1))
