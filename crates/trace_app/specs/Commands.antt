-- The words, as the definitions see them.
use Rattle.std.specs.Prelude.{ℕ, Bool, true, false, List, Option, Some, None}
use Rattle.spec_tools.specs.TraceWords as words
use Rattle.trace_app.specs.declared.words.Command.{Command}

-- ports, where all are in form
abbrev pub ports_if : Bool → List ℕ → Option (List ℕ)
ports_if true ports = Some ports
ports_if false ports = None

abbrev pub command_view : Command → words.Command
command_view c = record { edits = c.edits.now; flow = c.flow.now; ports = c.ports.items }
