use Rattle.std.proofs.Common.{◌≡◌, ◌++◌, take, IsTrue}
use Rattle.edge_io.specs.declared.outside.InUse.TheVariants.{Nothing}
use Rattle.spec_run.specs.Mirrored.{mirror_files}
use Rattle.switch_output.proofs.writing.write_mirror_files.Given as goal

abbrev pub invariant-files : goal.invariant-files
invariant-files g l = record {
  in_use : g.S.Shelf.in_use l.shelf ≡ Nothing;
  done : IsTrue g.S.Shelf.tells → (g.S.Shelf.told l.shelf).done ≡ (g.S.Shelf.told l.fn.shelf).done ++ take l.before (mirror_files l.out g.C.Case.run l.source.finished.now l.mirrors);
  opened : IsTrue g.S.Shelf.tells → (g.S.Shelf.told l.shelf).opened ≡ (g.S.Shelf.told l.fn.shelf).opened;
  counts : g.S.Shelf.counts l.shelf ≡ g.S.Shelf.counts l.fn.shelf;
}
