-- What is told of a run: files that are written, and then a text that is printed.
use Rattle.std.specs.Prelude.{◌≡◌, ℕ, List, ◌++◌, take, Result, IsTrue, OnOk, IfErr, Err}
use Rattle.spec_base.specs.Files.{File}
use Rattle.edge_io.specs.declared.outside.Failed.{Failed}
use Rattle.edge_io.specs.declared.outside.InUse.TheVariants.{Nothing}
use Rattle.edge_io.specs.declared.outside.Shelf as shelf
use Rattle.edge_io.specs.declared.outside.Sink as sink
use Rattle.edge_io.specs.Counts.{HasCause, with_fault}
use Rattle.edge_io.specs.Written.{written}
use Rattle.switch_output.specs.declared.refusal.WriteRefusal.{WriteRefusal}
use Rattle.switch_output.specs.declared.refusal.WriteRefusal.TheVariants.{WriteFault, OutOfMemory}
use Rattle.switch_output.specs.declared.refusal.OutputRefusal.{OutputRefusal}
use Rattle.switch_output.specs.declared.refusal.OutputRefusal.TheVariants.{Files, Summary}
use Rattle.switch_output.specs.Refused.{IfWriteFault, HasWriteCause, IsCutIn}

-- No file is told in which writing failed.
abbrev pub NamesNoFile : OutputRefusal → Type 0
NamesNoFile (Files (WriteFault name)) = ⊥
NamesNoFile (Files OutOfMemory) = Unit {0}
NamesNoFile (Summary f) = Unit {0}

module _ {S K : Type 0} (g : shelf.Ghosts S) (h : sink.Ghosts K) (old new : S) (said saying : K) (files : List File) where
  -- The files are cut short at one of them, and nothing is printed.
  pub record CutsFiles (r : WriteRefusal) : Type 0 where
    pub cut : IsTrue g.tells → IsCutIn files (g.told old).done (written (g.in_use new) (g.told new)) r
    pub named : IsTrue g.tells → IfWriteFault r (λ name. (g.told new).last ≡ name)
    pub since : IsTrue g.tells → IfWriteFault r (λ _. g.counts_at_last new ≡ g.counts old)
    pub unsaid : saying ≡ said
    pub cause : HasWriteCause (g.counts old) (g.counts new) r

  -- They are whole.
  pub record WritesWhole : Type 0 where
    pub in_use : g.in_use new ≡ Nothing
    pub done : IsTrue g.tells → (g.told new).done ≡ (g.told old).done ++ files
    pub counts : g.counts new ≡ g.counts old

  -- They are whole, and a prefix of the text is printed.
  pub record CutsText (text : List ℕ) (f : Failed) : Type 0 where
    pub whole : WritesWhole
    pub printed : IsTrue h.tells → (n : ℕ) × (h.written saying ≡ h.written said ++ take n text)
    pub cause : HasCause {T = Unit {0}} with_fault (h.faults said) (h.faults saying) (Err f)

  -- They are whole, and so is the text.
  pub record PutsWhole (text : List ℕ) : Type 0 where
    pub whole : WritesWhole
    pub printed : IsTrue h.tells → h.written saying ≡ h.written said ++ text
    pub faults : h.faults saying ≡ h.faults said

  abbrev pub CutsOut : List ℕ → OutputRefusal → Type 0
  CutsOut text (Files r) = CutsFiles r
  CutsOut text (Summary f) = CutsText text f

  -- These files are written, one after the other, and then this text is printed. No file is opened.
  pub record PutsOut {T : Type 0} (text : List ℕ) (result : Result T OutputRefusal) : Type 0 where
    pub ok : OnOk result (PutsWhole text)
    pub err : IfErr result (CutsOut text)
    pub opened : IsTrue g.tells → (g.told new).opened ≡ (g.told old).opened
