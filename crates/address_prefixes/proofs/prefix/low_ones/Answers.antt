use Rattle.std.proofs.Common.{◌≡◌, ◌-◌, ◌^◌, ap, ◌∙◌, arith}
use Rattle.std.proofs.lemmas.Nat.Bits.{ones_shr}
use Rattle.address_prefixes.proofs.prefix.low_ones.Goals as goal

pub returns-else-k-eq0 : goal.returns-else-k-eq0
returns-else-k-eq0 c =
    let back : 128 - (128 - c.args.k) ≡ c.args.k = omega arith in
    ones_shr 128 (128 - c.args.k) (omega arith) ∙ ap (λ j. 2 ^ j - 1) back
