-- What stands after a run, from what its parts say.
use Rattle.std.proofs.Common.{◌≡◌, ℕ, List, [], ◌++◌, Bool, true, false, Option, None, refl, sym, ap, ◌∙◌, subst, inl, inr}
use Rattle.std.specs.Prelude.{◌⊎◌, IsTrue, Result, Ok, Err}
use Rattle.std.proofs.lemmas.List.{append-nil}
use Rattle.spec_base.specs.Files.{File}
use Rattle.spec_board.specs.Texts.{Journal}
use Rattle.spec_run.specs.Summary.{summary}
use Rattle.spec_run.specs.Verdict.{Refusal as Refused, Accepted, command_in, verdict, files_opened}
use Rattle.spec_run.specs.Journals.{AreJournals}
use Rattle.spec_run.specs.Outputs.{Decided, outlets_of, output_of, has_steps, ran_of}
use Rattle.spec_run.specs.CutShort.{IsCutRun}
use Rattle.edge_io.specs.declared.outside.Shelf as shelf
use Rattle.edge_io.specs.declared.outside.Sink as sink
use Rattle.edge_io.specs.Counts.{Counts}
use Rattle.edge_io.specs.Opened.{HasOpened}
use Rattle.edge_io.specs.Shelf.{Told}
use Rattle.edge_io.specs.ReadAll.{OnlyRead}
use Rattle.edge_io.specs.Written.{written}
use Rattle.switch_output.specs.declared.refusal.WriteRefusal.{WriteRefusal}
use Rattle.switch_output.specs.declared.refusal.WriteRefusal.TheVariants.{WriteFault, OutOfMemory}
use Rattle.switch_output.specs.declared.refusal.OutputRefusal.{OutputRefusal}
use Rattle.switch_output.specs.declared.refusal.OutputRefusal.TheVariants.{Files, Summary}
use Rattle.switch_output.specs.Refused.{IfWriteFault, HasWriteCause, IsCutIn}
use Rattle.switch_output.specs.Put.{NamesNoFile, CutsFiles, PutsWhole, CutsOut}
use Rattle.spec_input.specs.Words.{Input, Files as Named, Made, Command}
use Rattle.spec_input.specs.Mirrors.{Mirror}
use Rattle.switch_input.specs.Known.{IsKnownInput, IsKnownCommand, IsKnown, NeedNoFile}
use Rattle.switch_app.specs.declared.refusal.Refusal.TheVariants.{Output}
use Rattle.switch_app.specs.Ends.{IsAllDone}
use Rattle.switch_app.specs.RunViews.{ByJournals, IsUntouched, HasRead, IsWritten, Leaves}
use Rattle.switch_input.specs.Reading.{Read}

-- where the verdict is known, the shelf tells what is written, or nothing is
input_tells : (tells : Bool) (input : Input) (mirrors : List Mirror) → IsKnownInput tells input → IsTrue tells ⊎ (outlets_of input mirrors ≡ None)
input_tells tells (Named f) mirrors known = inl known
input_tells tells (Made number) mirrors known = inr refl

tells_or_none : (tells : Bool) (words : List (List ℕ)) (c : Command) (mirrors : List Mirror) → command_in words ≡ Ok c → IsKnown tells words
    → IsTrue tells ⊎ (outlets_of c.input mirrors ≡ None)
tells_or_none tells words c mirrors e known = input_tells tells c.input mirrors (subst (λ (r : Result Command Refused). IsKnownCommand tells r) e known)

-- where the words need no file, nothing is written
pub writes_none : (words : List (List ℕ)) (accepted : Accepted) → command_in words ≡ Ok accepted.command → NeedNoFile words
    → outlets_of accepted.command.input accepted.mirrors ≡ None
writes_none words accepted e need = by (tells_or_none false words accepted.command accepted.mirrors e need)
  where
    by : IsTrue false ⊎ (outlets_of accepted.command.input accepted.mirrors ≡ None) → outlets_of accepted.command.input accepted.mirrors ≡ None
    by (inl told) = cc told
    by (inr none) = none

-- A run was read and accepted, and then it was told what became of it.
module _ {S K : Type 0} (g : shelf.Ghosts S) (h : sink.Ghosts K) (words : List (List ℕ)) (old mid new : S) (said saying : K) (accepted : Accepted)
    (is_verdict : IsKnown g.tells words → verdict words (g.told old).holds ≡ Ok accepted)
    (is_command : command_in words ≡ Ok accepted.command)
    (read : HasRead g h words old mid said said Read)
    (more : IsTrue g.tells → (g.told new).opened ≡ (g.told mid).opened)
    (untouched_then : outlets_of accepted.command.input accepted.mirrors ≡ None → new ≡ mid) where
  abbrev files : List Journal → List File
  files journals = output_of (outlets_of accepted.command.input accepted.mirrors) accepted.run journals

  abbrev text : List Journal → List ℕ
  text journals = summary accepted.run journals (ran_of (has_steps accepted.command.input) accepted.run)

  -- the shelf tells what is written, or nothing is
  by_telling : IsKnown g.tells words → IsTrue g.tells ⊎ (outlets_of accepted.command.input accepted.mirrors ≡ None)
  by_telling t = tells_or_none g.tells words accepted.command accepted.mirrors is_command t

  abbrev decided : IsKnown g.tells words → (journals : List Journal) → AreJournals accepted.command.workers accepted.run journals → Decided words (g.told old).holds
  decided t journals are = record { accepted = accepted; is_verdict = is_verdict t; journals = journals; are_journals = are }

  same_done : IsKnown g.tells words → (g.told mid).done ≡ (g.told old).done
  same_done t = ap (λ (w : Told). w.done) (read.only_read t)

  opens : IsKnown g.tells words → HasOpened (g.told old) (g.told new) (files_opened words (g.told old).holds)
  opens t = by (by_telling t)
    where
      by : IsTrue g.tells ⊎ (outlets_of accepted.command.input accepted.mirrors ≡ None) → HasOpened (g.told old) (g.told new) (files_opened words (g.told old).holds)
      by (inl tells) = more tells ∙ read.opened t
      by (inr none) = ap (λ (s : S). (g.told s).opened) (untouched_then none) ∙ read.opened t

  -- what is written of files stands whole
  done_by : (journals : List Journal) → (IsTrue g.tells → (g.told new).done ≡ (g.told mid).done ++ files journals) → IsKnown g.tells words
      → (g.told new).done ≡ (g.told old).done ++ files journals
  done_by journals done t = by (by_telling t)
    where
      by : IsTrue g.tells ⊎ (outlets_of accepted.command.input accepted.mirrors ≡ None) → (g.told new).done ≡ (g.told old).done ++ files journals
      by (inl tells) = done tells ∙ ap (λ done. done ++ files journals) (same_done t)
      by (inr none) =
          let empty : files journals ≡ [] = ap (λ o. output_of o accepted.run journals) none in
          ap (λ (s : S). (g.told s).done) (untouched_then none) ∙ same_done t ∙ sym (append-nil (g.told old).done) ∙ ap (λ fs. (g.told old).done ++ fs) (sym empty)

  pub all_done : ByJournals accepted.command.workers accepted.run (λ journals. PutsWhole g h mid new said saying (output_of (outlets_of accepted.command.input accepted.mirrors) accepted.run journals) (summary accepted.run journals (ran_of (has_steps accepted.command.input) accepted.run)))
      → IsAllDone g h words old new said saying
  all_done by = record {
    run = λ t. record {
      decided = decided t by.journals by.are_journals;
      written = done_by by.journals by.holds.whole.done t;
      printed = by.holds.printed;
    };
    opened = opens;
    no_file = by.holds.whole.in_use;
    counts = by.holds.whole.counts ∙ read.counts;
    faults = by.holds.faults;
  }

  cut_run : (t : IsKnown g.tells words) (journals : List Journal) → AreJournals accepted.command.workers accepted.run journals → (now : List File) (r : WriteRefusal) (name : List ℕ)
      (cut : IsCutIn (files journals) (g.told mid).done now r) → name ≡ cut.file.0 → IsCutRun words (g.told old).holds (g.told old).done now name
  cut_run t journals are now r name cut named = record {
    decided = decided t journals are;
    file = cut.file;
    cut = rw (same_done t) at cut.cut;
    named = named;
  }

  is_written : (t : IsKnown g.tells words) (journals : List Journal) → AreJournals accepted.command.workers accepted.run journals → (r : WriteRefusal)
      → IsCutIn (files journals) (g.told mid).done (written (g.in_use new) (g.told new)) r → IfWriteFault r (λ name. (g.told new).last ≡ name) → IsWritten g h words old new said saying r
  is_written t journals are (WriteFault name) cut named = (cut_run t journals are _ (WriteFault name) (g.told new).last cut (named ∙ cut.named), named)
  is_written t journals are OutOfMemory cut named = inr (cut.file.0, cut_run t journals are _ OutOfMemory cut.file.0 cut refl)

  write_cause : (r : WriteRefusal) → HasWriteCause (g.counts mid) (g.counts new) r → HasWriteCause (g.counts old) (g.counts new) r
  write_cause r cause = subst (λ (counts : Counts). HasWriteCause counts (g.counts new) r) read.counts cause

  noted : (r : WriteRefusal) → IfWriteFault r (λ _. g.counts_at_last new ≡ g.counts mid) → IfWriteFault r (λ _. g.counts_at_last new ≡ g.counts old)
  noted r since = subst (λ (counts : Counts). IfWriteFault r (λ _. g.counts_at_last new ≡ counts)) read.counts since

  only_read : IsKnown g.tells words → g.told new ≡ g.told mid → OnlyRead (g.told old) (g.told new)
  only_read t same = subst (λ (w : Told). OnlyRead (g.told old) w) (sym same) (read.only_read t)

  -- where nothing is written, no file is cut short
  none_written : (t : IsKnown g.tells words) → outlets_of accepted.command.input accepted.mirrors ≡ None → (r : WriteRefusal)
      → (outlets_of accepted.command.input accepted.mirrors ≡ None → NamesNoFile (Files r)) → IsWritten g h words old new said saying r
  none_written t none (WriteFault name) unfailed = absurd (unfailed none)
  none_written t none OutOfMemory unfailed = inl (only_read t (ap (λ (s : S). g.told s) (untouched_then none)))

  written_by : (t : IsKnown g.tells words) (journals : List Journal) → AreJournals accepted.command.workers accepted.run journals → (r : WriteRefusal)
      → CutsFiles g h mid new said saying (files journals) r → (outlets_of accepted.command.input accepted.mirrors ≡ None → NamesNoFile (Files r)) → IsWritten g h words old new said saying r
  written_by t journals are r cuts unfailed = by (by_telling t)
    where
      by : IsTrue g.tells ⊎ (outlets_of accepted.command.input accepted.mirrors ≡ None) → IsWritten g h words old new said saying r
      by (inl tells) = is_written t journals are r (cuts.cut tells) (cuts.named tells)
      by (inr none) = none_written t none r unfailed

  none_noted : outlets_of accepted.command.input accepted.mirrors ≡ None → (r : WriteRefusal) → (outlets_of accepted.command.input accepted.mirrors ≡ None → NamesNoFile (Files r))
      → IfWriteFault r (λ _. g.counts_at_last new ≡ g.counts old)
  none_noted none (WriteFault name) unfailed = absurd (unfailed none)
  none_noted none OutOfMemory unfailed = tt

  noted_by : (t : IsKnown g.tells words) (r : WriteRefusal) → (IsTrue g.tells → IfWriteFault r (λ _. g.counts_at_last new ≡ g.counts mid))
      → (outlets_of accepted.command.input accepted.mirrors ≡ None → NamesNoFile (Files r)) → IfWriteFault r (λ _. g.counts_at_last new ≡ g.counts old)
  noted_by t r since unfailed = by (by_telling t)
    where
      by : IsTrue g.tells ⊎ (outlets_of accepted.command.input accepted.mirrors ≡ None) → IfWriteFault r (λ _. g.counts_at_last new ≡ g.counts old)
      by (inl tells) = noted r (since tells)
      by (inr none) = none_noted none r unfailed

  by_journals : (r : OutputRefusal) → (outlets_of accepted.command.input accepted.mirrors ≡ None → NamesNoFile r)
      → ByJournals accepted.command.workers accepted.run (λ journals. CutsOut g h mid new said saying (files journals) (text journals) r)
      → Leaves g h words old new said saying (Output r)
  by_journals (Files r) unfailed by = record {
    run = λ t. written_by t by.journals by.are_journals r by.holds unfailed;
    since = λ t. noted_by t r by.holds.since unfailed;
    opened = opens;
    cause = write_cause r by.holds.cause;
    unsaid = by.holds.unsaid;
  }
  by_journals (Summary f) unfailed by = record {
    run = λ t. record {
      decided = decided t by.journals by.are_journals;
      written = done_by by.journals by.holds.whole.done t;
      printed = by.holds.printed;
    };
    opened = opens;
    no_file = by.holds.whole.in_use;
    counts = by.holds.whole.counts ∙ read.counts;
    cause = by.holds.cause;
  }

  untouched : IsUntouched g h mid new said saying → Leaves g h words old new said saying (Output (Files OutOfMemory))
  untouched u = record {
    run = λ t. inl (only_read t (told_by t));
    since = λ t. tt;
    opened = opens;
    cause = u.counts ∙ read.counts;
    unsaid = u.unsaid;
  }
    where
      told_by : IsKnown g.tells words → g.told new ≡ g.told mid
      told_by t = by (by_telling t)
        where
          by : IsTrue g.tells ⊎ (outlets_of accepted.command.input accepted.mirrors ≡ None) → g.told new ≡ g.told mid
          by (inl tells) = u.told tells
          by (inr none) = ap (λ (s : S). g.told s) (untouched_then none)

  pub left : (r : OutputRefusal) → (outlets_of accepted.command.input accepted.mirrors ≡ None → NamesNoFile r)
      → (r ≡ Files OutOfMemory) × IsUntouched g h mid new said saying
      ⊎ ByJournals accepted.command.workers accepted.run (λ journals. CutsOut g h mid new said saying (output_of (outlets_of accepted.command.input accepted.mirrors) accepted.run journals) (summary accepted.run journals (ran_of (has_steps accepted.command.input) accepted.run)) r)
      → Leaves g h words old new said saying (Output r)
  left r unfailed (inl none) = subst (λ e. Leaves g h words old new said saying (Output e)) (sym (none.0)) (untouched (none.1))
  left r unfailed (inr by) = by_journals r unfailed by
