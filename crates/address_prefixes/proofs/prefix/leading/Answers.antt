use Rattle.std.proofs.Common.{◌≤◌, ◌-◌, ◌^◌, arith}
use Rattle.std.proofs.Math.Nat.{pow-le-pow_right}
use Rattle.address_prefixes.proofs.prefix.leading.Goals as goal

pub overflow_sub-result : goal.overflow_sub-result
overflow_sub-result c =
    let less : c.args.width - c.args.n ≤ c.args.width = omega arith in
    let powers : 2 ^ (c.args.width - c.args.n) ≤ 2 ^ c.args.width = pow-le-pow_right (omega arith) less in
    omega arith
