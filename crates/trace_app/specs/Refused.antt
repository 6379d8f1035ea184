-- The statuses and the texts of refusals, and when each may come.
use Rattle.std.specs.Prelude.{◌≡◌, ℕ, List, [], Result, Ok, Err}
use Rattle.spec_run.specs.Statuses.{usage_status, write_fault_status, out_of_memory_status, out_of_memory_text}
use Rattle.edge_io.specs.declared.outside.Failed.TheVariants as failed
use Rattle.switch_input.specs.declared.refusals.refusal.InputRefusal.{InputRefusal}
use Rattle.switch_input.specs.Reading.{Ending, Read}
use Rattle.switch_input.specs.Refused as reading
use Rattle.switch_input.specs.Refused.{fault_view}
use Rattle.switch_input.specs.Texts.{input_status, input_text}
use Rattle.spec_tools.specs.TraceVerdict as verdicts
use Rattle.spec_tools.specs.TraceStatuses.{usage_text, no_port_status, no_port_text}
use Rattle.trace_app.specs.declared.refusal.Refusal.{Refusal}
use Rattle.trace_app.specs.declared.refusal.Refusal.TheVariants.{Usage, Reading, NoPort, Printing}

-- the exit status of a refusal, and the text that is printed with it; nothing is printed after a fault in printing
abbrev pub status_of : Refusal → ℕ
status_of Usage = usage_status
status_of (Reading r) = input_status r
status_of (NoPort port) = no_port_status
status_of (Printing failed.Fault) = write_fault_status
status_of (Printing failed.OutOfMemory) = out_of_memory_status

abbrev pub text_of : Refusal → List ℕ
text_of Usage = usage_text
text_of (Reading r) = input_text r
text_of (NoPort port) = no_port_text port
text_of (Printing failed.Fault) = []
text_of (Printing failed.OutOfMemory) = out_of_memory_text

-- Printing failed.
abbrev pub IsSilent : Refusal → Type 0
IsSilent r = r ≡ Printing failed.Fault

-- It tells that the words are refused: each refusal that ends with their status.
abbrev pub TellsUsage : Refusal → Type 0
TellsUsage Usage = Unit {0}
TellsUsage (Reading r) = reading.TellsUsage r
TellsUsage (NoPort port) = ⊥
TellsUsage (Printing f) = ⊥

-- They are not.
abbrev pub TakesWords : Refusal → Type 0
TakesWords Usage = ⊥
TakesWords (Reading r) = reading.TakesWords r
TakesWords (NoPort port) = Unit {0}
TakesWords (Printing f) = Unit {0}

-- It came before anything was printed.
abbrev pub IsUntold : Refusal → Type 0
IsUntold Usage = Unit {0}
IsUntold (Reading r) = Unit {0}
IsUntold (NoPort port) = Unit {0}
IsUntold (Printing f) = ⊥

-- An input is refused only as this stage of the verdict refuses it.
abbrev pub ExplainsReading : {A : Type 0} → Result A verdicts.Refusal → InputRefusal → Type 0
ExplainsReading stage r = reading.IfInput r (λ fault. stage ≡ Err (verdicts.Input (fault_view fault)))

abbrev pub Explains : {A : Type 0} → Result A verdicts.Refusal → Refusal → Type 0
Explains stage Usage = stage ≡ Err verdicts.Usage
Explains stage (Reading r) = ExplainsReading stage r
Explains stage (NoPort port) = stage ≡ Err (verdicts.NoPort port)
Explains stage (Printing f) = Unit {0}

-- It tells of no file that reading failed in it.
abbrev pub TellsNoFault : Refusal → Type 0
TellsNoFault Usage = Unit {0}
TellsNoFault (Reading r) = reading.TellsNoFault r
TellsNoFault (NoPort port) = Unit {0}
TellsNoFault (Printing f) = Unit {0}

-- how reading ended at a refusal, and with an answer
abbrev pub stop_of : Refusal → Ending
stop_of Usage = Read
stop_of (Reading r) = reading.stop_of r
stop_of (NoPort port) = Read
stop_of (Printing f) = Read

abbrev pub ending_of : {T : Type 0} → Result T Refusal → Ending
ending_of (Ok a) = Read
ending_of (Err r) = stop_of r
