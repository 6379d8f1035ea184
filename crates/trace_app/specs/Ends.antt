-- How a call of the tracer ends: with which status, what is printed then, and which calls of the outside failed. Nothing is
-- written to the shelf.
use Rattle.std.specs.Prelude.{◌≡◌, ℕ, List, IsTrue, Err}
use Rattle.spec_run.specs.Verdict.{Files}
use Rattle.spec_run.specs.Statuses.{done_status, usage_status, read_fault_status, write_fault_status, out_of_memory_status, read_fault_text, out_of_memory_text, Prints}
use Rattle.edge_io.specs.declared.outside.InUse.TheVariants.{Nothing}
use Rattle.edge_io.specs.declared.outside.Shelf as shelf
use Rattle.edge_io.specs.declared.outside.Sink as sink
use Rattle.edge_io.specs.Counts.{ReadFailed, with_fault}
use Rattle.edge_io.specs.Opened.{HasOpened, HasOpenedPrefix, HasOpenedUpTo}
use Rattle.edge_io.specs.ReadAll.{OnlyRead}
use Rattle.spec_tools.specs.TraceVerdict.{Usage, command_in, files_opened}
use Rattle.spec_tools.specs.TraceOutputs.{IsPrinted, IsCut}
use Rattle.spec_tools.specs.TraceStatuses.{is_refusal, IsRefused, PrintsRefusal}
use Rattle.trace_app.specs.Known.{IsKnown}

-- The call is made with these words, and with a shelf and a sink that are as here before it, and as here after it.
module _ {S K : Type 0} (g : shelf.Ghosts S) (h : sink.Ghosts K) (words : List (List ℕ)) (old new : S) (said saying : K) where
  -- the files that the shelf holds
  abbrev pub held : Files
  held = (g.told old).holds

  -- What the verdict is made of is known: the shelf tells its bytes, or no file is read, since the words are refused.
  abbrev pub Knows : Type 0
  Knows = IsKnown g.tells words

  -- All files that are opened in reading were opened, and no other was.
  abbrev pub OpensAll : Type 0
  OpensAll = Knows → HasOpened (g.told old) (g.told new) (files_opened words)

  -- Nothing was written to the shelf.
  abbrev pub WritesNothing : Type 0
  WritesNothing = Knows → OnlyRead (g.told old) (g.told new)

  -- This text was printed, or a prefix of it.
  abbrev pub Says : List ℕ → Type 0
  Says text = IsTrue h.tells → Prints h.needs_memory (h.faults said) (h.faults saying) (h.written said) (h.written saying) text

  -- All is done: exactly the text of the trace is printed. Nothing failed, and no file is left in use.
  pub record IsTraced : Type 0 where
    pub run : Knows → IsPrinted words held h.tells (h.written said) (h.written saying)
    pub opened : OpensAll
    pub unwritten : WritesNothing
    pub no_file : g.in_use new ≡ Nothing
    pub counts : g.counts new ≡ g.counts old
    pub faults : h.faults saying ≡ h.faults said

  -- The words, the file of edits or the flow are refused: the verdict is a refusal of this status, which is the first in the
  -- order of reading. With the status of words that the program doesn't take it is these that are refused, whatever the shelf
  -- is. Nothing failed, and no file is left in use.
  pub record IsTurnedDown (status : ℕ) : Type 0 where
    pub verdict : Knows → IsRefused words held status
    pub usage : status ≡ usage_status → command_in words ≡ Err Usage
    pub opened : OpensAll
    pub unwritten : WritesNothing
    pub no_file : g.in_use new ≡ Nothing
    pub counts : g.counts new ≡ g.counts old
    pub printed : Knows → IsTrue h.tells
        → PrintsRefusal words held h.needs_memory (h.faults said) (h.faults saying) (h.written said) (h.written saying)

  -- Reading failed, in the last file that was opened, before which no call failed. No file is left in use.
  pub record HasReadFailed : Type 0 where
    pub counts : ReadFailed (g.counts old) (g.counts new)
    pub since : Knows → g.counts_at_last new ≡ g.counts old
    pub opened : Knows → HasOpenedUpTo (g.told old) (g.told new) (files_opened words) (g.told new).last
    pub unwritten : WritesNothing
    pub no_file : g.in_use new ≡ Nothing
    pub printed : Knows → Says (read_fault_text (g.told new).last)

  -- One call of printing failed: a prefix of the text of the trace is printed, and nothing after it.
  pub record HasPrintingFailed : Type 0 where
    pub counts : g.counts new ≡ g.counts old
    pub faults : h.faults saying ≡ with_fault (h.faults said)
    pub opened : OpensAll
    pub unwritten : WritesNothing
    pub no_file : g.in_use new ≡ Nothing
    pub run : Knows → IsCut words held h.tells (h.written said) (h.written saying)

  -- Memory ran out before anything was printed. Nothing failed, and no file is left in use.
  pub record HasRunOut : Type 0 where
    pub counts : g.counts new ≡ g.counts old
    pub opened : Knows → HasOpenedPrefix (g.told old) (g.told new) (files_opened words)
    pub unwritten : WritesNothing
    pub no_file : g.in_use new ≡ Nothing
    pub printed : Says out_of_memory_text

  -- Of the text a prefix is printed, and then that memory ran out.
  pub record BreaksOff : Type 0 where
    pub broken : List ℕ
    pub run : IsCut words held h.tells (h.written said) broken
    pub printed : IsTrue h.tells → Prints h.needs_memory (h.faults said) (h.faults saying) broken (h.written saying) out_of_memory_text

  -- Memory ran out in tracing or in printing. Nothing failed.
  pub record HasRunOutLate : Type 0 where
    pub counts : g.counts new ≡ g.counts old
    pub opened : OpensAll
    pub unwritten : WritesNothing
    pub no_file : g.in_use new ≡ Nothing
    pub run : Knows → BreaksOff

  -- The ways to end, by the status.
  pub data Ends (status : ℕ) : Type 0 where
    AllDone : status ≡ done_status → IsTraced → Ends status
    TurnedDown : IsTrue (is_refusal status) → IsTurnedDown status → Ends status
    ReadingFailed : status ≡ read_fault_status → HasReadFailed → Ends status
    PrintingFailed : status ≡ write_fault_status → HasPrintingFailed → Ends status
    RunOut : status ≡ out_of_memory_status → HasRunOut → Ends status
    RunOutLate : status ≡ out_of_memory_status → HasRunOutLate → Ends status
