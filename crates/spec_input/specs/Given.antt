-- What a function that reads a file of lines answers, beside what the definition says of the file.
use Rattle.std.specs.Prelude.{◌≡◌, Result, Ok, Err}
use Rattle.spec_input.specs.declared.fault.FileFault.{FileFault}
use Rattle.spec_input.specs.declared.fault.FileFault.TheVariants.{OutOfMemory}

-- a fault is the one that is defined, unless memory runs out
abbrev pub IsFault : {Y : Type 0} → FileFault → Result Y FileFault → Type 0
IsFault OutOfMemory defined = Unit {0}
IsFault e defined = defined ≡ Err e

-- what is answered, seen by a view, is what is defined, unless memory runs out
abbrev pub Gives : {X Y : Type 0} → (X → Y) → Result X FileFault → Result Y FileFault → Type 0
Gives view (Ok x) defined = defined ≡ Ok (view x)
Gives view (Err e) defined = IsFault e defined
