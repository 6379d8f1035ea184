-- Runs of which only a part was written or printed: after a fault, or out of memory.
use Rattle.std.specs.Prelude.{◌≡◌, ℕ, Bool, IsTrue, List, ◌++◌, take, slice_get, Some}
use Rattle.spec_base.specs.Files.{File, IsPrefixOf}
use Rattle.spec_run.specs.Verdict.{Files}
use Rattle.spec_run.specs.Outputs.{Decided, files_by, summary_by}

-- After the files before, the first of these files were written whole, then this one in part or not at all, and none
-- after it.
pub record IsCutShort (files : List File) (file : File) (before now : List File) : Type 0 where
  pub whole : ℕ
  pub next : slice_get files whole ≡ Some file
  pub prefix : IsPrefixOf (before ++ take whole files) file now

-- The words and the files are accepted, and the files of the run, by its journals, were written as far as a prefix of the
-- one of this name.
pub record IsCutRun (words : List (List ℕ)) (files : Files) (before now : List File) (name : List ℕ) : Type 0 where
  pub decided : Decided words files
  pub file : File
  pub cut : IsCutShort (files_by decided) file before now
  pub named : name ≡ file.0

-- The same, as far as a prefix of some file.
abbrev pub IsPartOfRun : List (List ℕ) → Files → List File → List File → Type 0
IsPartOfRun words files before now = (name : List ℕ) × IsCutRun words files before now name

-- All files of the run were written. Of its summary a prefix was printed, where that is told.
pub record IsCutSummary (words : List (List ℕ)) (files : Files) (before now : List File) (tells : Bool) (said said_now : List ℕ) : Type 0 where
  pub decided : Decided words files
  pub written : now ≡ before ++ files_by decided
  pub printed : IsTrue tells → (n : ℕ) × (said_now ≡ said ++ take n (summary_by decided))
