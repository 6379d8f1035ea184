-- What stands where no difference is told, before the refusal is.
use Rattle.std.specs.Prelude.{◌≡◌, ℕ, List, Err, IsTrue}
use Rattle.edge_io.specs.declared.outside.Failed.{Failed}
use Rattle.edge_io.specs.declared.outside.InUse.TheVariants.{Nothing}
use Rattle.edge_io.specs.declared.outside.Shelf as shelf
use Rattle.edge_io.specs.declared.outside.Sink as sink
use Rattle.edge_io.specs.Counts.{HasCause, with_fault}
use Rattle.switch_input.specs.Reading.{Ending, Read, ReadsFiles}
use Rattle.spec_tools.specs.DiffVerdict.{verdict, files_opened}
use Rattle.spec_tools.specs.DiffOutputs.{IsCut, IsGivenUp}
use Rattle.diff_app.specs.declared.refusal.Refusal.{Refusal}
use Rattle.diff_app.specs.declared.refusal.Refusal.TheVariants.{Usage, Reading, TooManyCubes, Printing}
use Rattle.diff_app.specs.Refused.{Explains, stop_of}

module _ {S K : Type 0} (g : shelf.Ghosts S) (h : sink.Ghosts K) (words : List (List ℕ)) (old new : S) (said saying : K) where
  -- The files of the words were read.
  abbrev pub HasRead : Ending → Type 0
  HasRead ending = ReadsFiles g old new (files_opened words (g.told old).holds) ending

  -- It was refused in reading, or memory ran out before anything was printed.
  pub record LeavesUnread (r : Refusal) : Type 0 where
    pub verdict : IsTrue g.tells → Explains (verdict words (g.told old).holds) r
    pub reads : HasRead (stop_of r)
    pub no_file : g.in_use new ≡ Nothing
    pub unsaid : saying ≡ said

  -- There are more cubes than are looked into, and nothing was printed.
  pub record LeavesUnfound : Type 0 where
    pub run : IsTrue g.tells → IsGivenUp words (g.told old).holds
    pub reads : HasRead Read
    pub no_file : g.in_use new ≡ Nothing
    pub unsaid : saying ≡ said

  -- The text of a difference was not printed whole.
  pub record LeavesUnsaid (f : Failed) : Type 0 where
    pub run : IsTrue g.tells → IsCut words (g.told old).holds h.tells (h.written said) (h.written saying)
    pub reads : HasRead Read
    pub no_file : g.in_use new ≡ Nothing
    pub cause : HasCause {T = Unit {0}} with_fault (h.faults said) (h.faults saying) (Err f)

  abbrev pub Leaves : Refusal → Type 0
  Leaves Usage = LeavesUnread Usage
  Leaves (Reading r) = LeavesUnread (Reading r)
  Leaves TooManyCubes = LeavesUnfound
  Leaves (Printing f) = LeavesUnsaid f
