-- What reading a whole file does.
use Rattle.std.specs.Prelude.{◌≡◌, ℕ, List, [], ◌∷◌, ◌++◌, ◌⊎◌, Result, OnOk, IsErrOf}
use Rattle.edge_io.specs.declared.outside.Failed.{Failed}
use Rattle.edge_io.specs.declared.outside.Failed.TheVariants as failed
use Rattle.edge_io.specs.declared.reading.ReadFault.{ReadFault}
use Rattle.edge_io.specs.declared.reading.ReadFault.TheVariants.{Fault, Over, OutOfMemory}
use Rattle.edge_io.specs.Counts.{Counts, ReadFailed}
use Rattle.edge_io.specs.Shelf.{Told, asked}

abbrev pub read_fault_of : Failed → ReadFault
read_fault_of failed.Fault = Fault
read_fault_of failed.OutOfMemory = OutOfMemory

-- A fault comes only where calls of reading failed: one did, and perhaps the close after it. Any other answer leaves
-- both counts.
pub record ReadCause {T : Type 0} (before now : Counts) (result : Result T ReadFault) : Type 0 where
  pub fault : IsErrOf result Fault → ReadFailed before now
  pub over : IsErrOf result Over → now ≡ before
  pub no_memory : IsErrOf result OutOfMemory → now ≡ before
  pub ok : OnOk result (now ≡ before)

-- Only what is left changed, the last name, and which files were opened.
abbrev pub OnlyRead : Told → Told → Type 0
OnlyRead before after = after ≡ record before { left = after.left; last = after.last; opened = after.opened }

-- a file of this name was opened, read and closed
abbrev pub was_read : Told → List ℕ → Told
was_read t name = record (asked t name) { left = [] }

-- This name is the last one, and the last of those that were opened.
pub record IsAsked (before after : Told) (name : List ℕ) : Type 0 where
  pub last : after.last ≡ name
  pub opened : after.opened ≡ before.opened ++ name ∷ []

-- Nothing was asked for.
pub record IsUnasked (before after : Told) : Type 0 where
  pub last : after.last ≡ before.last
  pub opened : after.opened ≡ before.opened

-- The file of the name was asked for. Out of memory, it may not have been.
pub record Names {T : Type 0} (before after : Told) (name : List ℕ) (result : Result T ReadFault) : Type 0 where
  pub ok : OnOk result (IsAsked before after name)
  pub fault : IsErrOf result Fault → IsAsked before after name
  pub over : IsErrOf result Over → IsAsked before after name
  pub no_memory : IsErrOf result OutOfMemory → IsAsked before after name ⊎ IsUnasked before after
