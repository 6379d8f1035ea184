use Rattle.std.proofs.Common.{◌-◌, arith, sym}
use Rattle.text_numbers.proofs.GroupNumbers.{power_fits, round_zeros_fits, some_before}
use Rattle.text_numbers.proofs.addresses.number_round_zeros.Goals as goal

pub pow-requires : goal.pow-requires
pow-requires c = power_fits (8 - c.args.front.count) (omega arith)

pub overflow_mul-result : goal.overflow_mul-result
overflow_mul-result c = omega (arith, round_zeros_fits c.args.front.number c.args.back.number c.args.front.count c.args.back.count c.pow.result c.pow.ensures (omega arith) (omega arith) (omega arith))

pub overflow_add-result : goal.overflow_add-result
overflow_add-result c = omega (arith, round_zeros_fits c.args.front.number c.args.back.number c.args.front.count c.args.back.count c.pow.result c.pow.ensures (omega arith) (omega arith) (omega arith))

pub returns : goal.returns
returns c fronts backs f b = sym (some_before c.pow.result c.args.front c.args.back fronts backs f b (omega arith) c.pow.ensures)
