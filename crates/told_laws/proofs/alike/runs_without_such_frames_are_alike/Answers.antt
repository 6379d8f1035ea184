use Rattle.told_laws.proofs.Outputs.{actions_are, frames_are, port_files_are, mirror_files_are, flows_are}
use Rattle.told_laws.proofs.alike.runs_without_such_frames_are_alike.Goals as goal

pub returns-clause-actions : goal.returns-clause-actions
returns-clause-actions c = λ lines o n a b compared by_o by_n none. actions_are o n lines a b compared by_o by_n none

pub returns-clause-frames : goal.returns-clause-frames
returns-clause-frames c = λ lines o n a b compared by_o by_n none. frames_are o n lines a b compared by_o by_n none

pub returns-clause-port_files : goal.returns-clause-port_files
returns-clause-port_files c = λ lines o n a b compared by_o by_n none. port_files_are o n lines a b compared by_o by_n none

pub returns-clause-mirrors : goal.returns-clause-mirrors
returns-clause-mirrors c = λ lines o n a b compared by_o by_n none. mirror_files_are o n lines a b compared by_o by_n none

pub returns-clause-flows : goal.returns-clause-flows
returns-clause-flows c = λ lines o n a b compared by_o by_n none. flows_are o n lines a b compared by_o by_n none
