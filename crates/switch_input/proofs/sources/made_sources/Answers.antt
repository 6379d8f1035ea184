use Rattle.std.proofs.Common.{arith}
use Rattle.switch_input.proofs.Lists.{four_differ}
use Rattle.switch_input.proofs.sources.made_sources.Goals as goal

pub returns-clause-ports : goal.returns-clause-ports
returns-clause-ports c = record { some = omega arith; distinct = four_differ }
