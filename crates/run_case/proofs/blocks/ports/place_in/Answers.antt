use Rattle.std.proofs.Common.{sym}
use Rattle.run_case.proofs.blocks.PlacesOfPorts.{position-at}
use Rattle.run_case.proofs.blocks.ports.place_in.Goals as goal

pub returns-then-list-by_number : goal.returns-then-list-by_number
returns-then-list-by_number c =
    sym (position-at c.args.port c.args.list.now c.from-by_number.result c.requires c.if-by_number-list.true c.if-list-by_number.true)
