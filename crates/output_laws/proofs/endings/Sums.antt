-- What is printed where all is done.
use Rattle.std.proofs.Common.{◌≡◌, ℕ, false, nat_eq, List, ◌++◌, None, refl, sym, ap, ◌∙◌, subst}
use Rattle.std.specs.Prelude.{IsTrue, Result, Ok}
use Rattle.edge_io.specs.declared.outside.Shelf as shelf
use Rattle.edge_io.specs.declared.outside.Sink as sink
use Rattle.spec_input.specs.Words.{Input, Made, Command}
use Rattle.spec_base.specs.Files.{lookup_or_empty}
use Rattle.spec_case.specs.Run.{Run}
use Rattle.spec_run.specs.Verdict.{Files, Refusal, Accepted, command_in, run_in, made_list, made_sources, files_for, sources_of, verdict}
use Rattle.spec_run.specs.Journals.{HasEditsApart}
use Rattle.spec_run.specs.Outputs.{Decided, summary_by, has_steps, ran_of}
use Rattle.spec_run.specs.Statuses.{done_status, read_fault_status, write_fault_status, out_of_memory_status, is_refusal}
use Rattle.output_laws.proofs.summaries.Counted.{add_up}
use Rattle.output_laws.proofs.summaries.MadeRuns.{followed, accepted_apart}
use Rattle.output_laws.proofs.summaries.SentPlainly.{send_plainly}
use Rattle.switch_input.specs.Known.{IsKnownInput, IsKnownCommand, IsKnown}
use Rattle.switch_app.specs.Ends.{IsAllDone, Ends, AllDone, TurnedDown, ReadingFailed, FileFailed, SummaryFailed, RunOut, RunOutLate}
use Rattle.output_laws.specs.Printed.{PrintsSums, PrintsPlainly, PrintsMade}

-- ---- by the journals

module _ (words : List (List ℕ)) (files : Files) (said saying : List ℕ) (d : Decided words files) (is : saying ≡ said ++ summary_by d) where
  sums_by : PrintsSums d.accepted.run (ran_of (has_steps d.accepted.command.input) d.accepted.run) said saying
  sums_by = record {
    journals = d.journals;
    are_whole = d.are_journals.are_whole;
    printed = is;
    add_up = add_up d.accepted.run d.journals d.are_journals.are_whole;
  }

  plainly_by : HasEditsApart d.accepted.run → PrintsPlainly d.accepted.run (ran_of (has_steps d.accepted.command.input) d.accepted.run) said saying
  unfolding sums_by
  plainly_by apart =
      let plain = send_plainly d.accepted.run d.journals d.are_journals.are_whole (d.are_journals.apart apart) in
      record {
        sums = sums_by;
        printed = is ∙ ap (λ text. said ++ text) (plain.summaries (ran_of (has_steps d.accepted.command.input) d.accepted.run));
      }

  same_accepted : (a : Accepted) → verdict words files ≡ Ok a → d.accepted ≡ a
  same_accepted a e = cc (e, d.is_verdict)

-- ---- by how the call ends

-- the status of a run that is done tells no refusal
none_refused : (status : ℕ) → status ≡ done_status → IsTrue (is_refusal status) → ⊥
none_refused status zero is = cc (rw zero at is)

no_other : (status other : ℕ) → status ≡ done_status → status ≡ other → nat_eq other done_status ≡ false → ⊥
no_other status other zero is differ = cc (rw (sym is ∙ zero) at differ)

module _ {S K : Type 0} (g : shelf.Ghosts S) (h : sink.Ghosts K) (words : List (List ℕ)) (old new : S) (said saying : K) where
  -- what follows where all is done follows from the way to end
  by_done : (P : Type 0) (status : ℕ) → status ≡ done_status → (IsAllDone g h words old new said saying → P) → Ends g h words old new said saying status → P
  by_done P status zero then (AllDone is done) = then done
  by_done P status zero then (TurnedDown is down) = absurd (none_refused status zero is)
  by_done P status zero then (ReadingFailed is failed) = absurd (no_other status read_fault_status zero is refl)
  by_done P status zero then (FileFailed is failed) = absurd (no_other status write_fault_status zero is refl)
  by_done P status zero then (SummaryFailed is failed) = absurd (no_other status write_fault_status zero is refl)
  by_done P status zero then (RunOut is out) = absurd (no_other status out_of_memory_status zero is refl)
  by_done P status zero then (RunOutLate is out) = absurd (no_other status out_of_memory_status zero is refl)

  all_done : Ends g h words old new said saying done_status → IsAllDone g h words old new said saying
  all_done ends = by_done (IsAllDone g h words old new said saying) done_status refl (λ done. done) ends

  module _ (ends : Ends g h words old new said saying done_status) (k : IsTrue h.tells) where
    pub sums : (a : Accepted) → IsKnown g.tells words → verdict words (g.told old).holds ≡ Ok a
        → PrintsSums a.run (ran_of (has_steps a.command.input) a.run) (h.written said) (h.written saying)
    sums a t e =
        let done = (all_done ends).run t in
        let d = done.decided in
        subst (λ (x : Accepted). PrintsSums x.run (ran_of (has_steps x.command.input) x.run) (h.written said) (h.written saying))
        (same_accepted words (g.told old).holds (h.written said) (h.written saying) d (done.printed k) a e)
        (sums_by words (g.told old).holds (h.written said) (h.written saying) d (done.printed k))

    pub plainly : (a : Accepted) → IsKnown g.tells words → verdict words (g.told old).holds ≡ Ok a → HasEditsApart a.run
        → PrintsPlainly a.run (ran_of (has_steps a.command.input) a.run) (h.written said) (h.written saying)
    plainly a t e apart =
        let done = (all_done ends).run t in
        let d = done.decided in
        let same = same_accepted words (g.told old).holds (h.written said) (h.written saying) d (done.printed k) a e in
        subst (λ (x : Accepted). PrintsPlainly x.run (ran_of (has_steps x.command.input) x.run) (h.written said) (h.written saying)) same
        (plainly_by words (g.told old).holds (h.written said) (h.written saying) d (done.printed k)
        (subst (λ (x : Accepted). HasEditsApart x.run) (sym same) apart))

    -- ---- a number makes what is read

    known : (c : Command) (number : ℕ) → command_in words ≡ Ok c → c.input ≡ Made number → IsKnown g.tells words
    known c number e is =
        subst (λ (r : Result Command Refusal). IsKnownCommand g.tells r) (sym e) (subst (λ (i : Input). IsKnownInput g.tells i) (sym is) tt)

    pub made : (c : Command) (number : ℕ) → command_in words ≡ Ok c → c.input ≡ Made number
        → PrintsMade number c.flow_limit (h.written said) (h.written saying)
    unfolding verdict
    made c number e is =
        let done = (all_done ends).run (known c number e is) in
        let d = done.decided in
        let a = d.accepted in
        let command = followed (command_in words) _ a d.is_verdict in
        let given = followed (run_in (files_for (g.told old).holds command.0.input) command.0.flow_limit (sources_of command.0.input)) _ a command.2 in
        let of_both : Accepted = record { command = command.0; run = given.0.run; mirrors = given.0.mirrors } in
        let same : of_both ≡ a = cc given.2 in
        let taken : command.0 ≡ c = cc (command.1, e) in
        let input : command.0.input ≡ Made number = ap (λ (x : Command). x.input) taken ∙ is in
        let its_input : a.command.input ≡ Made number = ap (λ (x : Accepted). x.command.input) (sym same) ∙ input in
        let apart = accepted_apart words (g.told old).holds a number d.is_verdict its_input in
        let printed = plainly_by words (g.told old).holds (h.written said) (h.written saying) d (done.printed k) apart in
        let of_number : PrintsPlainly a.run None (h.written said) (h.written saying) =
        subst (λ (i : Input). PrintsPlainly a.run (ran_of (has_steps i) a.run) (h.written said) (h.written saying)) its_input printed in
        record {
          given = given.0;
          is_made = subst (λ (n : ℕ). run_in (lookup_or_empty (made_list number)) n made_sources ≡ Ok given.0) (ap (λ (x : Command). x.flow_limit) taken)
              (subst (λ (i : Input). run_in (files_for (g.told old).holds i) command.0.flow_limit (sources_of i) ≡ Ok given.0) input given.1);
          printed = subst (λ (r : Run). PrintsPlainly r None (h.written said) (h.written saying)) (ap (λ (x : Accepted). x.run) (sym same)) of_number;
        }
