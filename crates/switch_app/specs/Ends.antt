-- How a call of the switch ends: with which status, what is written and printed then, and which calls of the outside failed.
use Rattle.std.specs.Prelude.{◌≡◌, ℕ, ◌⊎◌, List, IsTrue, Err}
use Rattle.spec_run.specs.Verdict.{Files, Usage, command_in, files_opened}
use Rattle.spec_run.specs.Outputs.{IsDone}
use Rattle.spec_run.specs.CutShort.{IsCutRun, IsPartOfRun, IsCutSummary}
use Rattle.spec_run.specs.Statuses.{done_status, usage_status, read_fault_status, write_fault_status, out_of_memory_status, read_fault_text, write_fault_text, out_of_memory_text, is_refusal, IsRefused, Prints, PrintsRefusal}
use Rattle.edge_io.specs.declared.outside.InUse.TheVariants.{Nothing}
use Rattle.edge_io.specs.declared.outside.Shelf as shelf
use Rattle.edge_io.specs.declared.outside.Sink as sink
use Rattle.edge_io.specs.Counts.{ReadFailed, with_fault, with_write_fault}
use Rattle.edge_io.specs.Opened.{HasOpened, HasOpenedPrefix, HasOpenedUpTo}
use Rattle.edge_io.specs.ReadAll.{OnlyRead}
use Rattle.edge_io.specs.Written.{written}
use Rattle.switch_input.specs.Pieces.{FailsAtMostOnce}
use Rattle.switch_input.specs.Known.{IsKnown}

-- The call is made with these words, and with a shelf and a sink that are as here before it, and as here after it.
module _ {S K : Type 0} (g : shelf.Ghosts S) (h : sink.Ghosts K) (words : List (List ℕ)) (old new : S) (said saying : K) where
  -- the files that the shelf holds
  abbrev pub held : Files
  held = (g.told old).holds

  -- What the verdict is made of is known: the shelf tells its bytes, or no file is read, since the words are refused or have a
  -- number that makes what is read.
  abbrev pub Knows : Type 0
  Knows = IsKnown g.tells words

  -- All files that are opened in reading, before any that is refused, were opened, and no other was.
  abbrev pub OpensAll : Type 0
  OpensAll = Knows → HasOpened (g.told old) (g.told new) (files_opened words held)

  -- Nothing was written.
  abbrev pub WritesNothing : Type 0
  WritesNothing = Knows → OnlyRead (g.told old) (g.told new)

  -- This text was printed, or a prefix of it.
  abbrev pub Says : List ℕ → Type 0
  Says text = IsTrue h.tells → Prints h.needs_memory (h.faults said) (h.faults saying) (h.written said) (h.written saying) text

  -- All is done: exactly the files of the run are written, by its journals, and exactly its summary is printed. Nothing
  -- failed, and no file is left in use.
  pub record IsAllDone : Type 0 where
    pub run : Knows → IsDone words held (g.told old).done (g.told new).done h.tells (h.written said) (h.written saying)
    pub opened : OpensAll
    pub no_file : g.in_use new ≡ Nothing
    pub counts : g.counts new ≡ g.counts old
    pub faults : h.faults saying ≡ h.faults said

  -- The words or a file are refused: the verdict is a refusal of this status, which is the first in the order of reading. With
  -- the status of words that the program doesn't take it is these that are refused, whatever the shelf is. Nothing failed, and
  -- nothing is written. No file is left in use.
  pub record IsTurnedDown (status : ℕ) : Type 0 where
    pub verdict : Knows → IsRefused words held status
    pub usage : status ≡ usage_status → command_in words ≡ Err Usage
    pub opened : OpensAll
    pub unwritten : WritesNothing
    pub no_file : g.in_use new ≡ Nothing
    pub counts : g.counts new ≡ g.counts old
    pub faults : FailsAtMostOnce (h.faults said) (h.faults saying)
    pub printed : Knows → IsTrue h.tells
        → PrintsRefusal words held h.needs_memory (h.faults said) (h.faults saying) (h.written said) (h.written saying)

  -- Reading failed, in the last file that was opened, before which none is refused and no call failed. Nothing is written, and
  -- no file is left in use.
  pub record HasReadFailed : Type 0 where
    pub counts : ReadFailed (g.counts old) (g.counts new)
    pub since : Knows → g.counts_at_last new ≡ g.counts old
    pub opened : Knows → HasOpenedUpTo (g.told old) (g.told new) (files_opened words held) (g.told new).last
    pub unwritten : WritesNothing
    pub no_file : g.in_use new ≡ Nothing
    pub faults : FailsAtMostOnce (h.faults said) (h.faults saying)
    pub printed : Knows → Says (read_fault_text (g.told new).last)

  -- One call of writing failed, after the last name was asked for: the run was accepted, the files before that name are whole,
  -- and it has a prefix of its bytes, or was not created.
  pub record HasFileFailed : Type 0 where
    pub counts : g.counts new ≡ with_write_fault (g.counts old)
    pub since : Knows → g.counts_at_last new ≡ g.counts old
    pub opened : OpensAll
    pub run : Knows → IsCutRun words held (g.told old).done (written (g.in_use new) (g.told new)) (g.told new).last
    pub faults : FailsAtMostOnce (h.faults said) (h.faults saying)
    pub printed : Knows → Says (write_fault_text (g.told new).last)

  -- One call of printing failed: all files of the run are written, a prefix of its summary is printed, and nothing after it.
  pub record HasSummaryFailed : Type 0 where
    pub counts : g.counts new ≡ g.counts old
    pub faults : h.faults saying ≡ with_fault (h.faults said)
    pub opened : OpensAll
    pub no_file : g.in_use new ≡ Nothing
    pub run : Knows → IsCutSummary words held (g.told old).done (g.told new).done h.tells (h.written said) (h.written saying)

  -- Memory ran out before all files were written: none is, or the run was accepted, and they are as far as a prefix of one.
  -- Nothing failed.
  pub record HasRunOut : Type 0 where
    pub counts : g.counts new ≡ g.counts old
    pub opened : Knows → HasOpenedPrefix (g.told old) (g.told new) (files_opened words held)
    pub run : Knows → OnlyRead (g.told old) (g.told new)
        ⊎ IsPartOfRun words held (g.told old).done (written (g.in_use new) (g.told new))
    pub faults : FailsAtMostOnce (h.faults said) (h.faults saying)
    pub printed : Says out_of_memory_text

  -- Of the summary a prefix is printed, and then that memory ran out.
  pub record BreaksOff : Type 0 where
    pub broken : List ℕ
    pub run : IsCutSummary words held (g.told old).done (g.told new).done h.tells (h.written said) broken
    pub printed : IsTrue h.tells → Prints h.needs_memory (h.faults said) (h.faults saying) broken (h.written saying) out_of_memory_text

  -- Memory ran out after all files were written. Nothing failed.
  pub record HasRunOutLate : Type 0 where
    pub counts : g.counts new ≡ g.counts old
    pub opened : OpensAll
    pub no_file : g.in_use new ≡ Nothing
    pub faults : FailsAtMostOnce (h.faults said) (h.faults saying)
    pub run : Knows → BreaksOff

  -- The ways to end, by the status.
  pub data Ends (status : ℕ) : Type 0 where
    AllDone : status ≡ done_status → IsAllDone → Ends status
    TurnedDown : IsTrue (is_refusal status) → IsTurnedDown status → Ends status
    ReadingFailed : status ≡ read_fault_status → HasReadFailed → Ends status
    FileFailed : status ≡ write_fault_status → HasFileFailed → Ends status
    SummaryFailed : status ≡ write_fault_status → HasSummaryFailed → Ends status
    RunOut : status ≡ out_of_memory_status → HasRunOut → Ends status
    RunOutLate : status ≡ out_of_memory_status → HasRunOutLate → Ends status
