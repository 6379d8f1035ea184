use Rattle.run_tables.proofs.OfRun.{of_run-first}
use Rattle.run_tables.proofs.tables.ClassifierTablesRunTables.new.Goals as goal

pub invariant_of-result : goal.invariant_of-result
invariant_of-result g c =
    of_run-first g.C.Case.run c.store.result.now c.new.result c.store.ensures.made c.new.ensures c.store.ensures.whole c.requires.sound
