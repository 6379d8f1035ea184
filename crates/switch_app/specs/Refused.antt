-- The statuses and the texts of refusals.
use Rattle.std.specs.Prelude.{◌≡◌, ℕ, List, [], string_bytes}
use Rattle.spec_run.specs.Statuses.{write_fault_status, out_of_memory_status, write_fault_text, out_of_memory_text}
use Rattle.edge_io.specs.declared.outside.Failed.TheVariants as failed
use Rattle.switch_input.specs.Texts.{input_status, input_text}
use Rattle.switch_output.specs.declared.refusal.WriteRefusal.{WriteRefusal}
use Rattle.switch_output.specs.declared.refusal.WriteRefusal.TheVariants.{WriteFault, OutOfMemory}
use Rattle.switch_output.specs.declared.refusal.OutputRefusal.{OutputRefusal}
use Rattle.switch_output.specs.declared.refusal.OutputRefusal.TheVariants.{Files, Summary}
use Rattle.switch_app.specs.declared.refusal.Refusal.{Refusal}
use Rattle.switch_app.specs.declared.refusal.Refusal.TheVariants.{Reading, Output}

abbrev pub write_status : WriteRefusal → ℕ
write_status (WriteFault name) = write_fault_status
write_status OutOfMemory = out_of_memory_status

abbrev pub write_text : WriteRefusal → List ℕ
write_text (WriteFault name) = write_fault_text (string_bytes name)
write_text OutOfMemory = out_of_memory_text

abbrev pub output_status : OutputRefusal → ℕ
output_status (Files r) = write_status r
output_status (Summary failed.Fault) = write_fault_status
output_status (Summary failed.OutOfMemory) = out_of_memory_status

-- nothing is printed after a fault in printing
abbrev pub output_text : OutputRefusal → List ℕ
output_text (Files r) = write_text r
output_text (Summary failed.Fault) = []
output_text (Summary failed.OutOfMemory) = out_of_memory_text

-- the exit status of a refusal, and the text that is printed with it
abbrev pub status_of : Refusal → ℕ
status_of (Reading r) = input_status r
status_of (Output r) = output_status r

abbrev pub text_of : Refusal → List ℕ
text_of (Reading r) = input_text r
text_of (Output r) = output_text r

-- Printing failed.
abbrev pub IsSilent : Refusal → Type 0
IsSilent r = r ≡ Output (Summary failed.Fault)
