use Rattle.std.proofs.Common.{◌≡◌, ◌++◌, string_bytes}
use Rattle.spec_input.specs.Made.{register_lines}
use Rattle.trace_gen.proofs.edits.push_registers.Given as goal

abbrev pub invariant-values : goal.invariant-values
invariant-values l = string_bytes l.text ≡ string_bytes l.fn.text ++ register_lines l.value
