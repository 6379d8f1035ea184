-- What stands where a run was refused, before the refusal is told.
use Rattle.std.specs.Prelude.{◌≡◌, ℕ, ◌⊎◌, Bool, true, false, List, Option, Some, None, Err, IsTrue, string_bytes}
use Rattle.spec_base.specs.Files.{File}
use Rattle.spec_case.specs.Run.{Run}
use Rattle.spec_board.specs.Texts.{Journal}
use Rattle.spec_run.specs.declared.ran.Ran.{Ran}
use Rattle.spec_run.specs.Summary.{summary}
use Rattle.spec_run.specs.Verdict.{Usage, command_in, files_opened, verdict}
use Rattle.spec_run.specs.Journals.{AreJournals}
use Rattle.spec_run.specs.Outputs.{outlets_of, output_of, has_steps, ran_of}
use Rattle.spec_run.specs.CutShort.{IsCutRun, IsPartOfRun, IsCutSummary}
use Rattle.edge_io.specs.declared.outside.Failed.{Failed}
use Rattle.edge_io.specs.declared.outside.InUse.TheVariants.{Nothing}
use Rattle.edge_io.specs.declared.outside.Shelf as shelf
use Rattle.edge_io.specs.declared.outside.Sink as sink
use Rattle.edge_io.specs.Counts.{HasCause, with_fault}
use Rattle.edge_io.specs.Opened.{HasOpened}
use Rattle.edge_io.specs.ReadAll.{OnlyRead}
use Rattle.edge_io.specs.Written.{written}
use Rattle.command_words.specs.CommandViews.{input_view}
use Rattle.switch_input.specs.declared.inputs.Inputs.{Inputs}
use Rattle.switch_input.specs.Known.{IsKnown}
use Rattle.switch_input.specs.declared.refusals.refusal.InputRefusal.{InputRefusal}
use Rattle.switch_input.specs.Reading.{Ending, ReadsWhere}
use Rattle.switch_input.specs.Refused.{TellsUsage, Explains, stop_of}
use Rattle.switch_output.specs.declared.refusal.WriteRefusal.{WriteRefusal}
use Rattle.switch_output.specs.declared.refusal.WriteRefusal.TheVariants.{WriteFault, OutOfMemory}
use Rattle.switch_output.specs.declared.refusal.OutputRefusal.TheVariants.{Files, Summary}
use Rattle.switch_output.specs.Put.{PutsWhole}
use Rattle.switch_output.specs.Refused.{IfWriteFault, HasWriteCause}
use Rattle.switch_app.specs.declared.refusal.Refusal.{Refusal}
use Rattle.switch_app.specs.declared.refusal.Refusal.TheVariants.{Reading, Output}

-- what is told of a run of given steps, where there are some
abbrev pub told_if : Bool → Ran → Option Ran
told_if true ran = Some ran
told_if false ran = None

-- This holds of journals of the run.
pub record ByJournals (workers : ℕ) (run : Run) (P : List Journal → Type 0) : Type 0 where
  pub journals : List Journal
  pub are_journals : AreJournals workers run journals
  pub holds : P journals

module _ {S K : Type 0} (g : shelf.Ghosts S) (h : sink.Ghosts K) (old new : S) (said saying : K) where
  -- Nothing was done.
  pub record IsUntouched : Type 0 where
    pub told : IsTrue g.tells → g.told new ≡ g.told old
    pub counts : g.counts new ≡ g.counts old
    pub unsaid : saying ≡ said

-- the files that are written of a run that was read, by its journals
abbrev pub output_of_read : Inputs → Run → List Journal → List File
output_of_read i run journals = output_of (outlets_of (input_view i.command.input) i.mirrors.items) run journals

-- the summary that is printed of it
abbrev pub summary_of_read : Inputs → Run → List Journal → List ℕ
summary_of_read i run journals = summary run journals (ran_of (has_steps (input_view i.command.input)) run)

module _ {S K : Type 0} (g : shelf.Ghosts S) (h : sink.Ghosts K) (i : Inputs) (run : Run) (old new : S) (said saying : K) where
  -- The run is decided, its files are written and its summary is printed.
  abbrev pub PutsRun : Type 0
  PutsRun = ByJournals i.command.workers run (λ journals. PutsWhole g h old new said saying (output_of_read i run journals) (summary_of_read i run journals))

module _ {S K : Type 0} (g : shelf.Ghosts S) (h : sink.Ghosts K) (words : List (List ℕ)) (old new : S) (said saying : K) where
  -- The files of the words were read.
  abbrev pub HasRead : Ending → Type 0
  HasRead ending = ReadsWhere (IsKnown g.tells words) g old new (files_opened words (g.told old).holds) ending

  -- The words and the files were not read, and nothing was written or printed.
  pub record LeavesUnread (r : InputRefusal) : Type 0 where
    pub verdict : IsKnown g.tells words → Explains (verdict words (g.told old).holds) r
    pub usage : TellsUsage r → command_in words ≡ Err Usage
    pub reads : HasRead (stop_of r)
    pub no_file : g.in_use new ≡ Nothing
    pub unsaid : saying ≡ said

  -- The files that are opened in reading were opened.
  abbrev pub OpensAll : Type 0
  OpensAll = IsKnown g.tells words → HasOpened (g.told old) (g.told new) (files_opened words (g.told old).holds)

  -- how far the files of the run were written
  abbrev pub IsWritten : WriteRefusal → Type 0
  IsWritten (WriteFault name) =
      IsCutRun words (g.told old).holds (g.told old).done (written (g.in_use new) (g.told new)) (g.told new).last
      × ((g.told new).last ≡ string_bytes name)
  IsWritten OutOfMemory =
      OnlyRead (g.told old) (g.told new)
      ⊎ IsPartOfRun words (g.told old).holds (g.told old).done (written (g.in_use new) (g.told new))

  -- The files were not written whole, and nothing was printed.
  pub record LeavesUnwritten (r : WriteRefusal) : Type 0 where
    pub run : IsKnown g.tells words → IsWritten r
    pub since : IsKnown g.tells words → IfWriteFault r (λ _. g.counts_at_last new ≡ g.counts old)
    pub opened : OpensAll
    pub cause : HasWriteCause (g.counts old) (g.counts new) r
    pub unsaid : saying ≡ said

  -- They were, and the summary was not printed whole.
  pub record LeavesUnsaid (f : Failed) : Type 0 where
    pub run : IsKnown g.tells words
        → IsCutSummary words (g.told old).holds (g.told old).done (g.told new).done h.tells (h.written said) (h.written saying)
    pub opened : OpensAll
    pub no_file : g.in_use new ≡ Nothing
    pub counts : g.counts new ≡ g.counts old
    pub cause : HasCause {T = Unit {0}} with_fault (h.faults said) (h.faults saying) (Err f)

  abbrev pub Leaves : Refusal → Type 0
  Leaves (Reading r) = LeavesUnread r
  Leaves (Output (Files r)) = LeavesUnwritten r
  Leaves (Output (Summary f)) = LeavesUnsaid f
