use Rattle.std.specs.Prelude.{map}
use Rattle.trace_gen.specs.Made.{trace_view}
use Rattle.trace_gen.proofs.Lengths.{edits-short, traces-short, ports-are}
use Rattle.trace_gen.proofs.made.generate.Goals as goal

pub returns-clause-edit_limit : goal.returns-clause-edit_limit
returns-clause-edit_limit c = edits-short c.args.number c.in_ok-edits.edits.items c.in_ok-edits.ensures

pub returns-clause-trace_limit : goal.returns-clause-trace_limit
returns-clause-trace_limit c = traces-short c.args.number (map trace_view c.in_ok-traces.traces.items) c.in_ok-traces.ensures

pub returns-clause-ports : goal.returns-clause-ports
returns-clause-ports c = ports-are c.args.number c.in_ok-traces.traces.items c.in_ok-traces.ensures
