use Rattle.std.proofs.Common.{[]}
use Rattle.switch_input.proofs.refusals.Reading.{reads_none, reads_ending}
use Rattle.switch_input.proofs.inputs.read_run.Goals as goal

pub returns-in-Files-clause-reads : goal.returns-in-Files-clause-reads
returns-in-Files-clause-reads g c = rw c.in-Files.is (rw c.in-Files.is at c.read_sources.ensures.reads)

pub returns-in-Made-clause-reads : goal.returns-in-Made-clause-reads
returns-in-Made-clause-reads g c =
    rw c.in-Made.is (reads_ending (Unit {0}) g.S.Shelf c.args.shelf.now c.args.shelf.now [] (reads_none (Unit {0}) g.S.Shelf c.args.shelf.now)
    c.read_made.result c.read_made.ensures.no_fault)
