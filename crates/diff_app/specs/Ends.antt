-- How a comparison ends: with which status, what is printed then, and which calls of the outside failed. Nothing is
-- written to the shelf.
use Rattle.std.specs.Prelude.{◌≡◌, ◌⊎◌, ℕ, List, IsTrue}
use Rattle.spec_run.specs.Verdict.{Files}
use Rattle.spec_run.specs.Statuses.{done_status, limit_status, read_fault_status, write_fault_status, out_of_memory_status, read_fault_text, out_of_memory_text, Prints}
use Rattle.edge_io.specs.declared.outside.InUse.TheVariants.{Nothing}
use Rattle.edge_io.specs.declared.outside.Shelf as shelf
use Rattle.edge_io.specs.declared.outside.Sink as sink
use Rattle.edge_io.specs.Counts.{ReadFailed, with_fault}
use Rattle.edge_io.specs.Opened.{HasOpened, HasOpenedPrefix, HasOpenedUpTo}
use Rattle.edge_io.specs.ReadAll.{OnlyRead}
use Rattle.spec_tools.specs.DiffVerdict.{files_opened}
use Rattle.spec_tools.specs.DiffOutputs.{IsPrinted, IsCut, IsGivenUp}
use Rattle.spec_tools.specs.DiffStatuses.{differ_status, cubes_text, is_refusal, IsRefused, PrintsRefusal}

-- The call is made with these words, and with a shelf and a sink that are as here before it, and as here after it.
module _ {S K : Type 0} (g : shelf.Ghosts S) (h : sink.Ghosts K) (words : List (List ℕ)) (old new : S) (said saying : K) where
  -- the files that the shelf holds
  abbrev pub held : Files
  held = (g.told old).holds

  -- All files that are opened in reading were opened, and no other was.
  abbrev pub OpensAll : Type 0
  OpensAll = IsTrue g.tells → HasOpened (g.told old) (g.told new) (files_opened words held)

  -- Nothing was written to the shelf.
  abbrev pub WritesNothing : Type 0
  WritesNothing = IsTrue g.tells → OnlyRead (g.told old) (g.told new)

  -- This text was printed, or a prefix of it.
  abbrev pub Says : List ℕ → Type 0
  Says text = IsTrue h.tells → Prints h.needs_memory (h.faults said) (h.faults saying) (h.written said) (h.written saying) text

  -- All is done: exactly the text of a difference is printed, and the status is that of one. Nothing failed, and no
  -- file is left in use.
  pub record IsCompared (status : ℕ) : Type 0 where
    pub run : IsTrue g.tells → IsPrinted words held h.tells (h.written said) (h.written saying) status
    pub opened : OpensAll
    pub unwritten : WritesNothing
    pub no_file : g.in_use new ≡ Nothing
    pub counts : g.counts new ≡ g.counts old
    pub faults : h.faults saying ≡ h.faults said

  -- The words or a file of edits are refused: the verdict is a refusal of this status, which is the first in the
  -- order of reading. Nothing failed, and no file is left in use.
  pub record IsTurnedDown (status : ℕ) : Type 0 where
    pub verdict : IsTrue g.tells → IsRefused words held status
    pub opened : OpensAll
    pub unwritten : WritesNothing
    pub no_file : g.in_use new ≡ Nothing
    pub counts : g.counts new ≡ g.counts old
    pub printed : IsTrue g.tells → IsTrue h.tells
        → PrintsRefusal words held h.needs_memory (h.faults said) (h.faults saying) (h.written said) (h.written saying)

  -- Reading failed, in the last file that was opened, before which no call failed. No file is left in use.
  pub record HasReadFailed : Type 0 where
    pub counts : ReadFailed (g.counts old) (g.counts new)
    pub since : IsTrue g.tells → g.counts_at_last new ≡ g.counts old
    pub opened : IsTrue g.tells → HasOpenedUpTo (g.told old) (g.told new) (files_opened words held) (g.told new).last
    pub unwritten : WritesNothing
    pub no_file : g.in_use new ≡ Nothing
    pub printed : IsTrue g.tells → Says (read_fault_text (g.told new).last)

  -- One call of printing failed: a prefix of the text of a difference is printed, and nothing after it.
  pub record HasPrintingFailed : Type 0 where
    pub counts : g.counts new ≡ g.counts old
    pub faults : h.faults saying ≡ with_fault (h.faults said)
    pub opened : OpensAll
    pub unwritten : WritesNothing
    pub no_file : g.in_use new ≡ Nothing
    pub run : IsTrue g.tells → IsCut words held h.tells (h.written said) (h.written saying)

  -- There are more cubes than are looked into. Nothing failed.
  pub record HasGivenUp : Type 0 where
    pub run : IsTrue g.tells → IsGivenUp words held
    pub counts : g.counts new ≡ g.counts old
    pub opened : OpensAll
    pub unwritten : WritesNothing
    pub no_file : g.in_use new ≡ Nothing
    pub printed : Says cubes_text

  -- Memory ran out before anything was printed. Nothing failed, and no file is left in use.
  pub record HasRunOut : Type 0 where
    pub counts : g.counts new ≡ g.counts old
    pub opened : IsTrue g.tells → HasOpenedPrefix (g.told old) (g.told new) (files_opened words held)
    pub unwritten : WritesNothing
    pub no_file : g.in_use new ≡ Nothing
    pub printed : Says out_of_memory_text

  -- Of the text a prefix is printed, and then that memory ran out.
  pub record BreaksOff : Type 0 where
    pub broken : List ℕ
    pub run : IsCut words held h.tells (h.written said) broken
    pub printed : IsTrue h.tells → Prints h.needs_memory (h.faults said) (h.faults saying) broken (h.written saying) out_of_memory_text

  -- Memory ran out in printing. Nothing failed.
  pub record HasRunOutLate : Type 0 where
    pub counts : g.counts new ≡ g.counts old
    pub opened : OpensAll
    pub unwritten : WritesNothing
    pub no_file : g.in_use new ≡ Nothing
    pub run : IsTrue g.tells → BreaksOff

  -- The ways to end, by the status.
  pub data Ends (status : ℕ) : Type 0 where
    AllDone : (status ≡ done_status) ⊎ (status ≡ differ_status) → IsCompared status → Ends status
    TurnedDown : IsTrue (is_refusal status) → IsTurnedDown status → Ends status
    ReadingFailed : status ≡ read_fault_status → HasReadFailed → Ends status
    PrintingFailed : status ≡ write_fault_status → HasPrintingFailed → Ends status
    GivenUp : status ≡ limit_status → HasGivenUp → Ends status
    RunOut : status ≡ out_of_memory_status → HasRunOut → Ends status
    RunOutLate : status ≡ out_of_memory_status → HasRunOutLate → Ends status
