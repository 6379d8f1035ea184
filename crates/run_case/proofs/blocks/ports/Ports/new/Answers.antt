use Rattle.std.proofs.Common.{rules}
use Rattle.run_case.proofs.blocks.PlacesOfPorts.{length-distinct_ports}
use Rattle.run_case.proofs.blocks.ports.Ports.new.Goals as goal

pub invariant_of-result : goal.invariant_of-result
invariant_of-result c =
    (c.requires.some, length-distinct_ports c.args.list.items (search rules) c.requires.distinct, c.requires.distinct)
