-- The statuses and the texts of refusals in reading.
use Rattle.std.specs.Prelude.{ℕ, List}
use Rattle.spec_run.specs.Statuses as statuses
use Rattle.spec_run.specs.Statuses.{read_fault_status, out_of_memory_status, read_fault_text, out_of_memory_text}
use Rattle.switch_input.specs.declared.refusals.refusal.InputRefusal.{InputRefusal}
use Rattle.switch_input.specs.declared.refusals.refusal.InputRefusal.TheVariants as input
use Rattle.switch_input.specs.Refused.{fault_view}

abbrev pub input_status : InputRefusal → ℕ
input_status (input.Input fault) = statuses.status_of (fault_view fault)
input_status (input.ReadFault name) = read_fault_status
input_status input.OutOfMemory = out_of_memory_status

abbrev pub input_text : InputRefusal → List ℕ
input_text (input.Input fault) = statuses.text_of (fault_view fault)
input_text (input.ReadFault name) = read_fault_text name.now
input_text input.OutOfMemory = out_of_memory_text
