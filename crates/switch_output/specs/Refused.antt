-- What a refusal in writing says, and when it may come.
use Rattle.std.specs.Prelude.{◌≡◌, ℕ, List, ◌++◌, Result, IsTrue, OnOk, OnErr, IfErr, String, string_bytes}
use Rattle.std.specs.declared.alloc.Global.{Global}
use Rattle.spec_base.specs.Files.{File, IsPrefixOf}
use Rattle.spec_run.specs.CutShort.{IsCutShort}
use Rattle.edge_io.specs.declared.outside.Failed.{Failed}
use Rattle.edge_io.specs.declared.outside.Failed.TheVariants as failed
use Rattle.edge_io.specs.declared.outside.InUse.TheVariants.{Nothing}
use Rattle.edge_io.specs.declared.outside.Shelf as shelf
use Rattle.edge_io.specs.Counts.{Counts, with_write_fault}
use Rattle.edge_io.specs.Shelf.{kept}
use Rattle.edge_io.specs.Written.{written}
use Rattle.switch_output.specs.declared.refusal.WriteRefusal.{WriteRefusal}
use Rattle.switch_output.specs.declared.refusal.WriteRefusal.TheVariants.{WriteFault, OutOfMemory}

-- what a refusal in writing the file of a name is
abbrev pub write_refusal : String Global → Failed → WriteRefusal
write_refusal name failed.Fault = WriteFault name
write_refusal name failed.OutOfMemory = OutOfMemory

-- This holds of the file's name, where it tells that writing failed.
abbrev pub IfWriteFault : WriteRefusal → (List ℕ → Type 0) → Type 0
IfWriteFault (WriteFault name) P = P (string_bytes name)
IfWriteFault OutOfMemory P = Unit {0}

-- Only a fault in writing changes the counts of the shelf, and it is one failed call of writing.
abbrev pub HasWriteCause : Counts → Counts → WriteRefusal → Type 0
HasWriteCause before now (WriteFault name) = now ≡ with_write_fault before
HasWriteCause before now OutOfMemory = now ≡ before

-- The run was cut short at one of these files, which is the one that a fault names.
pub record IsCutIn (files before now : List File) (r : WriteRefusal) : Type 0 where
  pub file : File
  pub cut : IsCutShort files file before now
  pub named : IfWriteFault r (λ name. name ≡ file.0)

module _ {S : Type 0} (g : shelf.Ghosts S) (old new : S) {T : Type 0} where
  -- This file is written and closed. After a refusal it has a prefix of its bytes, or was not created, and a fault names
  -- it; no call failed before it was asked for. No file is opened.
  pub record WritesOne (file : File) (result : Result T WriteRefusal) : Type 0 where
    pub in_use : OnOk result (g.in_use new ≡ Nothing)
    pub ok : IsTrue g.tells → OnOk result (g.told new ≡ kept (g.told old) file)
    pub err : IsTrue g.tells → OnErr result (IsPrefixOf (g.told old).done file (written (g.in_use new) (g.told new)))
    pub fault : IfErr result (λ r. IfWriteFault r (λ name. name ≡ file.0))
    pub named : IsTrue g.tells → IfErr result (λ r. IfWriteFault r (λ name. (g.told new).last ≡ name))
    pub since : IsTrue g.tells → IfErr result (λ r. IfWriteFault r (λ _. g.counts_at_last new ≡ g.counts old))
    pub opened : IsTrue g.tells → (g.told new).opened ≡ (g.told old).opened
    pub counts : OnOk result (g.counts new ≡ g.counts old)
    pub cause : IfErr result (HasWriteCause (g.counts old) (g.counts new))

  -- These files are written, one after the other, and none is opened. After a refusal they are cut short at one of them.
  pub record WritesInTurn (files : List File) (result : Result T WriteRefusal) : Type 0 where
    pub in_use : OnOk result (g.in_use new ≡ Nothing)
    pub ok : IsTrue g.tells → OnOk result ((g.told new).done ≡ (g.told old).done ++ files)
    pub err : IsTrue g.tells → IfErr result (IsCutIn files (g.told old).done (written (g.in_use new) (g.told new)))
    pub named : IsTrue g.tells → IfErr result (λ r. IfWriteFault r (λ name. (g.told new).last ≡ name))
    pub since : IsTrue g.tells → IfErr result (λ r. IfWriteFault r (λ _. g.counts_at_last new ≡ g.counts old))
    pub opened : IsTrue g.tells → (g.told new).opened ≡ (g.told old).opened
    pub counts : OnOk result (g.counts new ≡ g.counts old)
    pub cause : IfErr result (HasWriteCause (g.counts old) (g.counts new))
