-- The statuses and the texts of refusals, and when each may come.
use Rattle.std.specs.Prelude.{◌≡◌, ℕ, List, [], Result, Ok, Err}
use Rattle.spec_run.specs.Statuses.{usage_status, limit_status, write_fault_status, out_of_memory_status, out_of_memory_text}
use Rattle.edge_io.specs.declared.outside.Failed.TheVariants as failed
use Rattle.switch_input.specs.declared.refusals.refusal.InputRefusal.{InputRefusal}
use Rattle.switch_input.specs.Reading.{Ending, Read}
use Rattle.switch_input.specs.Refused as reading
use Rattle.switch_input.specs.Refused.{fault_view}
use Rattle.switch_input.specs.Texts.{input_status, input_text}
use Rattle.spec_tools.specs.DiffVerdict as verdicts
use Rattle.spec_tools.specs.DiffStatuses.{usage_text, cubes_text}
use Rattle.switch_input.specs.declared.refusals.refusal.InputRefusal.TheVariants as input
use Rattle.table_diff.specs.declared.error.CompareError.{CompareError}
use Rattle.table_diff.specs.declared.error.CompareError.TheVariants as compared
use Rattle.diff_app.specs.declared.refusal.Refusal.{Refusal}
use Rattle.diff_app.specs.declared.refusal.Refusal.TheVariants.{Usage, Reading, TooManyCubes, Printing}

-- the exit status of a refusal, and the text that is printed with it; nothing is printed after a fault in printing
abbrev pub status_of : Refusal → ℕ
status_of Usage = usage_status
status_of (Reading r) = input_status r
status_of TooManyCubes = limit_status
status_of (Printing failed.Fault) = write_fault_status
status_of (Printing failed.OutOfMemory) = out_of_memory_status

abbrev pub text_of : Refusal → List ℕ
text_of Usage = usage_text
text_of (Reading r) = input_text r
text_of TooManyCubes = cubes_text
text_of (Printing failed.Fault) = []
text_of (Printing failed.OutOfMemory) = out_of_memory_text

-- Printing failed.
abbrev pub IsSilent : Refusal → Type 0
IsSilent r = r ≡ Printing failed.Fault

-- It came in reading.
abbrev pub IsUntold : Refusal → Type 0
IsUntold Usage = Unit {0}
IsUntold (Reading r) = Unit {0}
IsUntold TooManyCubes = ⊥
IsUntold (Printing f) = ⊥

-- An input is refused only as this stage of the verdict refuses it.
abbrev pub ExplainsReading : {A : Type 0} → Result A verdicts.Refusal → InputRefusal → Type 0
ExplainsReading stage r = reading.IfInput r (λ fault. stage ≡ Err (verdicts.Input (fault_view fault)))

abbrev pub Explains : {A : Type 0} → Result A verdicts.Refusal → Refusal → Type 0
Explains stage Usage = stage ≡ Err verdicts.Usage
Explains stage (Reading r) = ExplainsReading stage r
Explains stage TooManyCubes = Unit {0}
Explains stage (Printing f) = Unit {0}

-- how reading ended at a refusal, and with an answer
abbrev pub stop_of : Refusal → Ending
stop_of Usage = Read
stop_of (Reading r) = reading.stop_of r
stop_of TooManyCubes = Read
stop_of (Printing f) = Read

abbrev pub ending_of : {T : Type 0} → Result T Refusal → Ending
ending_of (Ok a) = Read
ending_of (Err r) = stop_of r

-- the refusal of a comparison that is given up
abbrev pub refusal_of : CompareError → Refusal
refusal_of compared.TooMany = TooManyCubes
refusal_of compared.OutOfMemory = Reading input.OutOfMemory
