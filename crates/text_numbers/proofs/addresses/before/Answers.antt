use Rattle.std.proofs.Common.{arith, refl}
use Rattle.text_numbers.proofs.GroupNumbers.{power_fits, before_fits, counted_before}
use Rattle.text_numbers.proofs.addresses.before.Goals as goal

pub pow-requires : goal.pow-requires
pow-requires c = power_fits c.args.others.count (omega arith)

pub overflow_mul-result : goal.overflow_mul-result
overflow_mul-result c = omega (arith, before_fits c.args.first c.args.others.number c.args.others.count c.pow.result c.pow.ensures (omega arith) (omega arith) (omega arith))

pub overflow_add-result-2 : goal.overflow_add-result-2
overflow_add-result-2 c = omega (arith, before_fits c.args.first c.args.others.number c.args.others.count c.pow.result c.pow.ensures (omega arith) (omega arith) (omega arith))

pub returns-clause-value : goal.returns-clause-value
returns-clause-value c all e = counted_before c.args.first c.pow.result c.args.others _ all e c.pow.ensures refl refl
