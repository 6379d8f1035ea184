use Rattle.std.proofs.Common.{◌≡◌, drop}
use Rattle.spec_base.specs.Files.{lookup}
use Rattle.edge_io.specs.Stored.{pairs}
use Rattle.edge_io.proofs.memory.folder.place_of.Given as goal

abbrev pub invariant-files : goal.invariant-files
invariant-files l = lookup (pairs (drop l.place l.files)) l.name ≡ lookup (pairs l.files) l.name
