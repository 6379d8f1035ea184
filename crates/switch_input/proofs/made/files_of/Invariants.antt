use Rattle.std.proofs.Common.{◌≡◌, ◌∷◌, map}
use Rattle.spec_run.specs.Verdict.{made_sources}
use Rattle.edge_io.specs.Stored.{pairs}
use Rattle.switch_input.specs.MadeViews.{file_by_port}
use Rattle.switch_input.proofs.made.files_of.Given as goal

abbrev pub invariant-traces : goal.invariant-traces
invariant-traces l = pairs l.files.items ≡ (made_sources.edits, l.fn.made.edits.items) ∷ map file_by_port l.yielded
