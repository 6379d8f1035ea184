use Rattle.std.proofs.Common.{arith}
use Rattle.table_tests.proofs.megaflows.key_of.Goals as goal

pub set-requires : goal.set-requires
set-requires c = omega (arith, c.ranges.port.fits)

pub set-requires-2 : goal.set-requires-2
set-requires-2 c = omega (arith, c.ranges.address.fits)
