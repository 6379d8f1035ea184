use Rattle.std.proofs.Common.{◌<◌, sym, subst}
use Rattle.spec_case.specs.Run.{last_version}
use Rattle.run_tables.proofs.OfRun.{next_made, of_run-advanced}
use Rattle.run_tables.proofs.tables.ClassifierTablesRunTables.advance.Goals as goal

pub advance-requires : goal.advance-requires
advance-requires g c =
    next_made g.C.Case.run c.self.inside.rules c.self.invariant (subst (λ v. v < last_version g.C.Case.run) (sym c.self.view_is) c.requires)

pub invariant_of-self : goal.invariant_of-self
invariant_of-self g c =
    of_run-advanced g.C.Case.run c.self.inside.rules c.self.invariant (subst (λ v. v < last_version g.C.Case.run) (sym c.self.view_is) c.requires)
    c.advance.result c.advance.new.self c.advance.ensures.next c.advance.ensures.err
