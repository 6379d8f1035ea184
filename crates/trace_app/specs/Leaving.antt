-- What stands where there is no trace, before the refusal is told.
use Rattle.std.specs.Prelude.{◌≡◌, ℕ, List, Err}
use Rattle.edge_io.specs.declared.outside.Failed.{Failed}
use Rattle.edge_io.specs.declared.outside.InUse.TheVariants.{Nothing}
use Rattle.edge_io.specs.declared.outside.Shelf as shelf
use Rattle.edge_io.specs.declared.outside.Sink as sink
use Rattle.edge_io.specs.Counts.{HasCause, with_fault}
use Rattle.switch_input.specs.Reading.{Ending, Read, ReadsWhere}
use Rattle.spec_tools.specs.TraceVerdict.{Usage as UsageOf, command_in, verdict, files_opened}
use Rattle.spec_tools.specs.TraceOutputs.{IsCut}
use Rattle.trace_app.specs.Known.{IsKnown}
use Rattle.trace_app.specs.declared.refusal.Refusal.{Refusal}
use Rattle.trace_app.specs.declared.refusal.Refusal.TheVariants.{Usage, Reading, NoPort, Printing}
use Rattle.trace_app.specs.Refused.{Explains, TellsUsage, stop_of}

module _ {S K : Type 0} (g : shelf.Ghosts S) (h : sink.Ghosts K) (words : List (List ℕ)) (old new : S) (said saying : K) where
  -- The files of the words were read.
  abbrev pub HasRead : Ending → Type 0
  HasRead ending = ReadsWhere (IsKnown g.tells words) g old new (files_opened words) ending

  -- It was refused in reading, and nothing was printed.
  pub record LeavesUnread (r : Refusal) : Type 0 where
    pub verdict : IsKnown g.tells words → Explains (verdict words (g.told old).holds) r
    pub usage : TellsUsage r → command_in words ≡ Err UsageOf
    pub reads : HasRead (stop_of r)
    pub no_file : g.in_use new ≡ Nothing
    pub unsaid : saying ≡ said

  -- The trace was not printed whole.
  pub record LeavesUnsaid (f : Failed) : Type 0 where
    pub run : IsKnown g.tells words → IsCut words (g.told old).holds h.tells (h.written said) (h.written saying)
    pub reads : HasRead Read
    pub no_file : g.in_use new ≡ Nothing
    pub cause : HasCause {T = Unit {0}} with_fault (h.faults said) (h.faults saying) (Err f)

  abbrev pub Leaves : Refusal → Type 0
  Leaves Usage = LeavesUnread Usage
  Leaves (Reading r) = LeavesUnread (Reading r)
  Leaves (NoPort port) = LeavesUnread (NoPort port)
  Leaves (Printing f) = LeavesUnsaid f
