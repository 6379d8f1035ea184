use Rattle.std.proofs.Common.{rules}
use Rattle.edge_io.proofs.memory.Places.{found_at}
use Rattle.edge_io.proofs.memory.folder.place_of.Goals as goal

pub returns-then-eq-clause-found : goal.returns-then-eq-clause-found
returns-then-eq-clause-found c =
    found_at c.args.files.now c.args.name.now c.files.place c.index-files-place.result c.files-test.true
    c.index-files-place.is (search rules) c.files.invariant
