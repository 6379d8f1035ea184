-- How often the calls of a shelf or a sink have failed. A count is a number of 64 bits that stands still at its end.
use Rattle.std.specs.Prelude.{◌≡◌, ℕ, ◌+◌, ◌-◌, ◌^◌, min, Result, OnOk, IsErrOf}
use Rattle.spec_base.specs.Counts.{Rose}
use Rattle.edge_io.specs.declared.outside.Failed.{Failed}
use Rattle.edge_io.specs.declared.outside.Failed.TheVariants.{Fault, OutOfMemory}

-- The counts of a shelf. That of reading is for `open_file`, `read` and the close of an opened file, that of writing
-- for `create_file`, `write` and the close of a created file.
pub record Counts : Type 0 where
  pub reading : ℕ
  pub writing : ℕ

abbrev pub no_faults : Counts
no_faults = record { reading = 0; writing = 0 }

-- a count after one more fault
abbrev pub with_fault : ℕ → ℕ
with_fault count = min (count + 1) (2 ^ 64 - 1)

-- the counts after one more fault of reading, and of writing
abbrev pub with_read_fault : Counts → Counts
with_read_fault c = record c { reading = with_fault c.reading }

abbrev pub with_write_fault : Counts → Counts
with_write_fault c = record c { writing = with_fault c.writing }

-- A fault is counted, as `with_one` says. Any other answer leaves every count.
pub record HasCause {T C : Type 0} (with_one : C → C) (before now : C) (result : Result T Failed) : Type 0 where
  pub fault : IsErrOf result Fault → now ≡ with_one before
  pub no_memory : IsErrOf result OutOfMemory → now ≡ before
  pub ok : OnOk result (now ≡ before)

-- As a name is asked for, the counts before the call are noted. Out of memory, it was not asked for.
pub record Notes {T : Type 0} (counts before now : Counts) (result : Result T Failed) : Type 0 where
  pub fault : IsErrOf result Fault → now ≡ counts
  pub no_memory : IsErrOf result OutOfMemory → now ≡ before
  pub ok : OnOk result (now ≡ counts)

-- Of several calls: the count of reading rose, and that of writing stands.
pub record ReadFailed (before now : Counts) : Type 0 where
  pub reading : Rose before.reading now.reading
  pub writing : now.writing ≡ before.writing
