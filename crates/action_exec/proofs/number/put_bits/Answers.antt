use Rattle.std.proofs.Common.{◌<◌, ◌^◌, bit_and, bit_xor, arith}
use Rattle.std.proofs.lemmas.Nat.{and_le_r}
use Rattle.action_exec.specs.Shapes.{size_of}
use Rattle.action_exec.proofs.Merging.{xor-fits, merged-masked}
use Rattle.action_exec.proofs.number.put_bits.Goals as goal

pub put_number-requires-clause-fits : goal.put_number-requires-clause-fits
put_number-requires-clause-fits c =
    let before = c.number_at-before.result in
    let most = c.placed_bits-2.result in
    let changed : bit_and (bit_xor before c.placed_bits.result) most < 256 ^ size_of c.args.shape =
    omega (arith, and_le_r (bit_xor before c.placed_bits.result) most, c.placed_bits-2.ensures.fits) in
    xor-fits c.args.shape before _ c.number_at-before.ensures.fits changed

pub returns : goal.returns
returns c =
    let same = merged-masked c.args.shape c.number_at-before.result c.args.value (bit_and c.args.mask c.all_bits.result) in
    cc
