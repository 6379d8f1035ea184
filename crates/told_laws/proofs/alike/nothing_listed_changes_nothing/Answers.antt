use Rattle.std.proofs.Common.{ℕ, [], refl}
use Rattle.spec_case.specs.Run.{Run}
use Rattle.told_laws.specs.Runs.{HasNone}
use Rattle.told_laws.proofs.Outputs.{port_files_are, mirror_files_are, flows_are}
use Rattle.told_laws.proofs.alike.nothing_listed_changes_nothing.Goals as goal

nothing : (run : Run) → HasNone run []
nothing run port place first last = refl

pub returns-clause-port_files : goal.returns-clause-port_files
returns-clause-port_files c = λ o n a b compared by_o by_n. port_files_are o n [] a b compared by_o by_n (nothing o)

pub returns-clause-mirrors : goal.returns-clause-mirrors
returns-clause-mirrors c = λ o n a b compared by_o by_n. mirror_files_are o n [] a b compared by_o by_n (nothing o)

pub returns-clause-flows : goal.returns-clause-flows
returns-clause-flows c = λ o n a b compared by_o by_n. flows_are o n [] a b compared by_o by_n (nothing o)
