-- What a call of a sink does to the bytes that were written.
use Rattle.std.specs.Prelude.{◌≡◌, ℕ, List, ◌++◌, take, Result, OnErr, IfOk, IsErrOf}
use Rattle.edge_io.specs.declared.outside.Failed.{Failed}
use Rattle.edge_io.specs.declared.outside.Failed.TheVariants.{OutOfMemory}

-- Writing takes as many bytes as it says from the front of those given. A fault may take some too.
pub record Says (before after bytes : List ℕ) (result : Result ℕ Failed) : Type 0 where
  pub ok : IfOk result (λ n. after ≡ before ++ take n bytes)
  pub err : OnErr result ((n : ℕ) × (after ≡ before ++ take n bytes))
  pub no_memory : IsErrOf result OutOfMemory → after ≡ before
