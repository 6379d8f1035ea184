-- Traces as their ports and bytes, and how much a switch reads.
use Rattle.std.specs.Prelude.{ℕ, List, length}
use Rattle.std.specs.List.{sum_by}
use Rattle.trace_gen.specs.declared.made.MadeTrace.{MadeTrace}

abbrev pub trace_view : MadeTrace → ℕ × List ℕ
trace_view trace = (trace.port, trace.bytes.items)

-- the most bytes that a switch reads of edits, and of all traces together
abbrev pub most_edit_bytes : ℕ
most_edit_bytes = 33554432

abbrev pub most_trace_bytes : ℕ
most_trace_bytes = 268435456

abbrev pub bytes_of_all : List (ℕ × List ℕ) → ℕ
bytes_of_all traces = sum_by (λ trace. length trace.1) traces
