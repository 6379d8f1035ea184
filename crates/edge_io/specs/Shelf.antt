-- What the calls of a shelf do to what it tells.
use Rattle.std.specs.Prelude.{◌≡◌, ℕ, ◌<◌, List, [], ◌∷◌, ◌++◌, length, take, drop, Option, Some, None, Result, OnOk, OnErr, IfOk, IsErrOf}
use Rattle.spec_base.specs.Files.{File}
use Rattle.edge_io.specs.declared.outside.Failed.{Failed}
use Rattle.edge_io.specs.declared.outside.Failed.TheVariants.{Fault, OutOfMemory}

-- What a shelf tells of its bytes: the contents by name that it holds, what is left of the opened file,
-- the files that were written and closed, what was written to the created file, the name that `open_file`
-- or `create_file` was last called with, and those that `open_file` was called with, in their order.
pub record Told : Type 0 where
  pub holds : List ℕ → Option (List ℕ)
  pub left : List ℕ
  pub done : List File
  pub current : List ℕ
  pub last : List ℕ
  pub opened : List (List ℕ)

-- a shelf of these contents, with which nothing was done
abbrev pub untouched : (List ℕ → Option (List ℕ)) → Told
untouched holds = record { holds = holds; left = []; done = []; current = []; last = []; opened = [] }

-- what stands for a shelf that tells nothing
abbrev pub untold : Told
untold = untouched (λ _. None)

-- a file of this name was asked for, to be read
abbrev pub asked : Told → List ℕ → Told
asked t name = record t { last = name; opened = t.opened ++ name ∷ [] }

-- Opening finds the contents of the name. A fault keeps the name alone, and out of memory nothing changes.
pub record Opens {T : Type 0} (before after : Told) (name : List ℕ) (result : Result T Failed) : Type 0 where
  pub found : OnOk result (before.holds name ≡ Some after.left)
  pub ok : OnOk result (after ≡ record (asked before name) { left = after.left })
  pub fault : IsErrOf result Fault → after ≡ asked before name
  pub no_memory : IsErrOf result OutOfMemory → after ≡ before

-- Reading takes bytes from the front of what is left, and none only at the end. A fault may lose some of them.
pub record Reads (before after : Told) (into : List ℕ) (result : Result ℕ Failed) : Type 0 where
  pub taken : IfOk result (λ n. take n into ++ after.left ≡ before.left)
  pub end : IfOk result (λ n. n ≡ 0 → 0 < length into → before.left ≡ [])
  pub fault : IsErrOf result Fault → (n : ℕ) × (after.left ≡ drop n before.left)
  pub no_memory : IsErrOf result OutOfMemory → after ≡ before
  pub rest : after ≡ record before { left = after.left }

-- Creating begins an empty file under the name. A fault keeps the name alone, and out of memory nothing changes.
pub record Creates {T : Type 0} (before after : Told) (name : List ℕ) (result : Result T Failed) : Type 0 where
  pub ok : OnOk result (after ≡ record before { current = []; last = name })
  pub fault : IsErrOf result Fault → after ≡ record before { current = []; last = name }
  pub no_memory : IsErrOf result OutOfMemory → after ≡ before

-- these bytes are written to the created file
abbrev pub wrote : Told → List ℕ → Told
wrote t bytes = record t { current = t.current ++ bytes }

-- Writing takes as many bytes as it says from the front of those given. A fault may take some too.
pub record Writes (before after : Told) (bytes : List ℕ) (result : Result ℕ Failed) : Type 0 where
  pub ok : IfOk result (λ n. after ≡ wrote before (take n bytes))
  pub err : OnErr result ((n : ℕ) × (after ≡ wrote before (take n bytes)))
  pub no_memory : IsErrOf result OutOfMemory → after ≡ before

-- the opened file is closed
abbrev pub released : Told → Told
released t = record t { left = [] }

-- the created file is closed
abbrev pub closed : Told → Told
closed t = record t { done = t.done ++ (t.last, t.current) ∷ []; current = [] }

-- a file of this name was created, written and closed
abbrev pub kept : Told → File → Told
kept t file = record t { done = t.done ++ file ∷ []; current = []; last = file.0 }
