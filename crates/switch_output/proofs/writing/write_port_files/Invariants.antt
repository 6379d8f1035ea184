use Rattle.std.proofs.Common.{◌≡◌, ◌++◌, take, map, IsTrue}
use Rattle.edge_io.specs.declared.outside.InUse.TheVariants.{Nothing}
use Rattle.spec_run.specs.Outputs.{port_file}
use Rattle.switch_output.proofs.writing.write_port_files.Given as goal

abbrev pub invariant-files : goal.invariant-files
invariant-files g l = record {
  in_use : g.S.Shelf.in_use l.shelf ≡ Nothing;
  done : IsTrue g.S.Shelf.tells → (g.S.Shelf.told l.shelf).done ≡ (g.S.Shelf.told l.fn.shelf).done ++ take l.port-index (map (port_file l.out g.C.Case.run l.source.finished.now) g.C.Case.run.ports);
  opened : IsTrue g.S.Shelf.tells → (g.S.Shelf.told l.shelf).opened ≡ (g.S.Shelf.told l.fn.shelf).opened;
  counts : g.S.Shelf.counts l.shelf ≡ g.S.Shelf.counts l.fn.shelf;
}
