-- What was written to a shelf.
use Rattle.std.specs.Prelude.{◌≡◌, ℕ, List, [], ◌∷◌, ◌++◌, take, Result, Ok, IsTrue, OnOk, OnErr, IsErrOf}
use Rattle.spec_base.specs.Files.{File, IsPrefixOf}
use Rattle.edge_io.specs.declared.outside.Failed.{Failed}
use Rattle.edge_io.specs.declared.outside.Failed.TheVariants.{Fault}
use Rattle.edge_io.specs.declared.outside.InUse.{InUse}
use Rattle.edge_io.specs.declared.outside.InUse.TheVariants.{Nothing, Opened, Created}
use Rattle.edge_io.specs.declared.outside.Shelf as shelf
use Rattle.edge_io.specs.Counts.{HasCause, with_write_fault}
use Rattle.edge_io.specs.Shelf.{Told, wrote, kept}

-- the files that were written and closed, by name and bytes, and the created one in use, as far as it was written
abbrev pub written : InUse → Told → List File
written Created t = t.done ++ (t.last, t.current) ∷ []
written Opened t = t.done
written Nothing t = t.done

-- A prefix of these bytes was written to the created file.
abbrev pub WrotePrefix : Told → Told → List ℕ → Type 0
WrotePrefix before after bytes = (n : ℕ) × (after ≡ wrote before (take n bytes))

module _ {S : Type 0} (g : shelf.Ghosts S) (old new : S) where
  -- All these bytes are written to the created file, or a prefix of them before a refusal. The file stays in use.
  pub record WritesAll {T : Type 0} (bytes : List ℕ) (result : Result T Failed) : Type 0 where
    pub in_use : g.in_use new ≡ Created
    pub ok : IsTrue g.tells → OnOk result (g.told new ≡ wrote (g.told old) bytes)
    pub err : IsTrue g.tells → OnErr result (WrotePrefix (g.told old) (g.told new) bytes)
    pub since : IsTrue g.tells → g.counts_at_last new ≡ g.counts_at_last old
    pub cause : HasCause with_write_fault (g.counts old) (g.counts new) result

  -- All these bytes were written to it.
  abbrev pub HasWritten : List ℕ → Type 0
  HasWritten bytes = WritesAll {T = Unit {0}} bytes (Ok tt)

  -- A file of this name and these bytes is created, written and closed. After a refusal it has a prefix of the bytes, or
  -- was not created, and it may still be in use; a fault leaves its name as the last one, and none came before that was asked
  -- for. No file is opened.
  pub record WritesFile {T : Type 0} (file : File) (result : Result T Failed) : Type 0 where
    pub in_use : OnOk result (g.in_use new ≡ Nothing)
    pub ok : IsTrue g.tells → OnOk result (g.told new ≡ kept (g.told old) file)
    pub err : IsTrue g.tells → OnErr result (IsPrefixOf (g.told old).done file (written (g.in_use new) (g.told new)))
    pub named : IsTrue g.tells → IsErrOf result Fault → (g.told new).last ≡ file.0
    pub since : IsTrue g.tells → IsErrOf result Fault → g.counts_at_last new ≡ g.counts old
    pub opened : IsTrue g.tells → (g.told new).opened ≡ (g.told old).opened
    pub cause : HasCause with_write_fault (g.counts old) (g.counts new) result
