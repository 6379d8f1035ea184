-- The calls of a shelf or a sink in memory.
use Rattle.std.specs.Prelude.{ℕ, ◌+◌, ◌-◌, ◌^◌, min, List, Contains, Result, IsOk, IsErrOf}
use Rattle.edge_io.specs.declared.outside.Failed.{Failed}
use Rattle.edge_io.specs.declared.outside.Failed.TheVariants.{Fault}

-- How many were made, up to the greatest number of 64 bits, and the numbers of those that are to fail, from 1.
pub record Calls : Type 0 where
  pub made : ℕ
  pub to_fail : List ℕ

abbrev pub with_call : Calls → Calls
with_call c = record c { made = min (c.made + 1) (2 ^ 64 - 1) }

-- The last call is one that is to fail.
abbrev pub IsDue : Calls → Type 0
IsDue c = Contains c.to_fail c.made

-- A call fails exactly there, out of memory apart.
pub record FailsWhere {T : Type 0} (due : Type 0) (result : Result T Failed) : Type 0 where
  pub there : due → ¬ IsOk result
  pub only : IsErrOf result Fault → due
