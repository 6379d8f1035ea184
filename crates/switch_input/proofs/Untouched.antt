-- Of a shelf that isn't touched no read fault is told.
use Rattle.std.proofs.Common.{arith}
use Rattle.std.specs.Prelude.{Result, Ok, Err, IfErr}
use Rattle.edge_io.specs.Counts.{no_faults}
use Rattle.switch_input.specs.declared.refusals.refusal.InputRefusal.{InputRefusal}
use Rattle.switch_input.specs.declared.refusals.refusal.InputRefusal.TheVariants.{Input, ReadFault, OutOfMemory}
use Rattle.switch_input.specs.Reading.{HasCounted}
use Rattle.switch_input.specs.Refused.{TellsNoFault, ending_of}

-- a shelf whose calls never fail has no read fault
pub never_failed : {T : Type 0} (result : Result T InputRefusal) → HasCounted no_faults no_faults (ending_of result) → IfErr result TellsNoFault
never_failed (Ok a) counted = tt
never_failed (Err (Input fault)) counted = tt
never_failed (Err (ReadFault name)) counted = omega (arith, counted.reading)
never_failed (Err OutOfMemory) counted = tt
