-- What a refusal in reading says, and when it may come.
use Rattle.std.specs.Prelude.{◌≡◌, ℕ, List, Result, Ok, Err}
use Rattle.spec_run.specs.Verdict as verdicts
use Rattle.switch_input.specs.declared.refusals.refusal.InputFault.{InputFault}
use Rattle.switch_input.specs.declared.refusals.refusal.InputFault.TheVariants.{Usage, Text, Trace, Limit}
use Rattle.switch_input.specs.declared.refusals.refusal.InputRefusal.{InputRefusal}
use Rattle.switch_input.specs.declared.refusals.refusal.InputRefusal.TheVariants.{Input, ReadFault, OutOfMemory}
use Rattle.switch_input.specs.Reading.{Ending, Read, FailedIn, RanOut}

-- what the verdict says of such an input
abbrev pub fault_view : InputFault → verdicts.Refusal
fault_view Usage = verdicts.Usage
fault_view (Text name fault) = verdicts.Text name.now fault
fault_view (Trace name fault) = verdicts.Trace name.now fault
fault_view (Limit q) = verdicts.Limit q

-- This holds of the fault of an input, where that is what it tells.
abbrev pub IfInput : InputRefusal → (InputFault → Type 0) → Type 0
IfInput (Input fault) P = P fault
IfInput (ReadFault name) P = Unit {0}
IfInput OutOfMemory P = Unit {0}

-- A file or a quantity is at fault, and not the words.
abbrev pub IsOfFiles : InputFault → Type 0
IsOfFiles Usage = ⊥
IsOfFiles (Text name fault) = Unit {0}
IsOfFiles (Trace name fault) = Unit {0}
IsOfFiles (Limit q) = Unit {0}

-- The words are not refused.
abbrev pub TakesWords : InputRefusal → Type 0
TakesWords r = IfInput r IsOfFiles

-- They are.
abbrev pub TellsUsage : InputRefusal → Type 0
TellsUsage r = r ≡ Input Usage

-- This holds of the file's name, where it tells that reading failed.
abbrev pub IfReadFault : InputRefusal → (List ℕ → Type 0) → Type 0
IfReadFault (Input fault) P = Unit {0}
IfReadFault (ReadFault name) P = P name.now
IfReadFault OutOfMemory P = Unit {0}

-- An input is refused only as this stage of the verdict refuses it.
abbrev pub Explains : {A : Type 0} → Result A verdicts.Refusal → InputRefusal → Type 0
Explains stage r = IfInput r (λ fault. stage ≡ Err (fault_view fault))

-- It tells of no file that reading failed in it.
abbrev pub TellsNoFault : InputRefusal → Type 0
TellsNoFault r = IfReadFault r (λ _. ⊥)

-- how reading ended at a refusal
abbrev pub stop_of : InputRefusal → Ending
stop_of (Input fault) = Read
stop_of (ReadFault name) = FailedIn name.now
stop_of OutOfMemory = RanOut

-- and with an answer
abbrev pub ending_of : {T : Type 0} → Result T InputRefusal → Ending
ending_of (Ok a) = Read
ending_of (Err r) = stop_of r
