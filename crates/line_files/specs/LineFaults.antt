-- What was read of a line, with the line's number at what is wrong with it. That memory ran out is about no line.
use Rattle.std.specs.Prelude.{ℕ, Result, Ok, Err}
use Rattle.spec_flow_text.specs.declared.fault.TextFault.{TextFault}
use Rattle.spec_flow_text.specs.declared.fault.TextFault.TheVariants as text
use Rattle.spec_input.specs.declared.fault.FileFault.{FileFault}
use Rattle.spec_input.specs.declared.fault.FileFault.TheVariants.{Line, OutOfMemory}

abbrev pub fault_in_line : ℕ → TextFault → FileFault
fault_in_line number text.OutOfMemory = OutOfMemory
fault_in_line number why = Line number why

abbrev pub told : {A : Type 0} → ℕ → Result A TextFault → Result A FileFault
told number (Ok a) = Ok a
told number (Err why) = Err (fault_in_line number why)
