use Rattle.std.proofs.Common.{◌≡◌, bit_and}
use Rattle.spec_base.specs.Bits.{all_bits}
use Rattle.spec_exec.specs.Rewriting.{with_bits}
use Rattle.action_exec.specs.Shapes.{bits_of}
use Rattle.action_exec.specs.Placed.{placed}
use Rattle.action_exec.proofs.Correcting.{corrected-sums}
use Rattle.action_exec.proofs.field.write.Goals as goal

pub returns : goal.returns
returns c =
    let place = c.args.place.now in
    let all = corrected-sums c.args.frame.now place c.args.sums.now c.put_bits.new.frame in
    let bits : c.put_bits.new.frame ≡ with_bits (placed place) c.args.value (bit_and c.args.mask (all_bits (bits_of place.shape))) c.args.frame.now = c.put_bits.ensures in
    cc
