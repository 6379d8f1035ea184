use Rattle.std.proofs.Common.{refl, ap}
use Rattle.edge_io.specs.Shelf.{Told}
use Rattle.switch_input.proofs.Untouched.{never_failed}
use Rattle.switch_input.proofs.inputs.read_made.Goals as goal

pub read_sources-requires-clause-ports : goal.read_sources-requires-clause-ports
read_sources-requires-clause-ports c = rw c.requires.made tt

pub returns-clause-ok : goal.returns-clause-ok
returns-clause-ok c = rw (ap (λ (t : Told). t.holds) c.in_ok-shelf.ensures.told) at c.read_sources.ensures.ok refl

pub returns-clause-err : goal.returns-clause-err
returns-clause-err c = rw (ap (λ (t : Told). t.holds) c.in_ok-shelf.ensures.told) at c.read_sources.ensures.err refl

pub returns-clause-no_fault : goal.returns-clause-no_fault
returns-clause-no_fault c = never_failed c.read_sources.result c.read_sources.ensures.reads.counts
