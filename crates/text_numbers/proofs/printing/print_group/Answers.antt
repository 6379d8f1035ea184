use Rattle.std.proofs.Common.{arith}
use Rattle.text_numbers.proofs.GroupNumbers.{power_fits, power_positive}
use Rattle.text_numbers.proofs.printing.print_group.Goals as goal

pub pow-requires : goal.pow-requires
pow-requires c = power_fits c.args.place (omega arith)

pub nonzero_div-address : goal.nonzero_div-address
nonzero_div-address c = omega (arith, power_positive c.args.place, c.pow.ensures)
