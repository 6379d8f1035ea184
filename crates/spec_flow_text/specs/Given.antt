-- What a function that reads text answers, beside what a definition says of that text.
use Rattle.std.specs.Prelude.{◌≡◌, Result, Ok, Err}
use Rattle.spec_flow_text.specs.declared.fault.TextFault.{TextFault}
use Rattle.spec_flow_text.specs.declared.fault.TextFault.TheVariants.{OutOfMemory}

-- a fault is the one that is defined, unless memory runs out
abbrev pub IsFault : {Y : Type 0} → TextFault → Result Y TextFault → Type 0
IsFault OutOfMemory defined = Unit {0}
IsFault e defined = defined ≡ Err e

-- what is answered, seen by a view, is what is defined, unless memory runs out
abbrev pub Gives : {X Y : Type 0} → (X → Y) → Result X TextFault → Result Y TextFault → Type 0
Gives view (Ok x) defined = defined ≡ Ok (view x)
Gives view (Err e) defined = IsFault e defined
