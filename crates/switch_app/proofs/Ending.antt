-- How a call ends, from what a refused run leaves and what is printed of it; and what follows from how it ends.
use Rattle.std.proofs.Common.{◌≡◌, ◌≢◌, ℕ, List, [], ◌∷◌, ◌++◌, Option, Some, None, refl, sym, ap, subst, ◌∙◌, inl, inr, arith}
use Rattle.std.specs.Prelude.{◌⊎◌, IsTrue, IsOk, IfErr, Result, Ok, Err, string_bytes}
use Rattle.std.specs.Option.{ok_or}
use Rattle.std.proofs.lemmas.List.{append-nil}
use Rattle.spec_base.specs.Counts.{Rose}
use Rattle.spec_input.specs.Words.{Command, command_of}
use Rattle.spec_run.specs.Verdict.{Files as Shelved, Accepted, Refusal as Refused, Usage, command_in, verdict, files_opened}
use Rattle.spec_run.specs.CutShort.{IsCutSummary}
use Rattle.spec_run.specs.Statuses.{done_status, usage_status, read_fault_status, out_of_memory_status, read_fault_text, write_fault_text, is_refusal, status_of as refusal_status, Prints}
use Rattle.edge_io.specs.declared.outside.Failed.TheVariants as failed
use Rattle.edge_io.specs.declared.outside.Shelf as shelf
use Rattle.edge_io.specs.declared.outside.Sink as sink
use Rattle.edge_io.specs.Counts.{Counts, with_fault, with_write_fault}
use Rattle.edge_io.specs.Opened.{HasOpened, HasOpenedPrefix, HasOpenedUpTo}
use Rattle.edge_io.specs.Shelf.{Told}
use Rattle.switch_input.specs.Known.{IsKnownCommand, IsKnown}
use Rattle.switch_input.specs.declared.refusals.refusal.InputFault.{InputFault}
use Rattle.switch_input.specs.declared.refusals.refusal.InputFault.TheVariants as fault
use Rattle.switch_input.specs.declared.refusals.refusal.InputRefusal.TheVariants as input
use Rattle.switch_input.specs.Pieces.{FailsAtMostOnce}
use Rattle.switch_input.specs.Refused.{fault_view}
use Rattle.switch_output.specs.declared.refusal.WriteRefusal.TheVariants.{WriteFault, OutOfMemory}
use Rattle.switch_output.specs.declared.refusal.OutputRefusal.TheVariants.{Files, Summary}
use Rattle.switch_app.specs.declared.refusal.Refusal.{Refusal}
use Rattle.switch_app.specs.declared.refusal.Refusal.TheVariants.{Reading, Output}
use Rattle.switch_app.specs.Refused.{status_of, text_of, IsSilent}
use Rattle.switch_app.specs.Ends.{Ends, AllDone, TurnedDown, ReadingFailed, FileFailed, SummaryFailed, RunOut, RunOutLate}
use Rattle.switch_app.specs.RunViews.{Leaves}

is_turned_down : (f : InputFault) → IsTrue (is_refusal (refusal_status (fault_view f)))
is_turned_down fault.Usage = refl
is_turned_down (fault.Text name why) = refl
is_turned_down (fault.Trace name why) = refl
is_turned_down (fault.Limit q) = refl

-- no file is refused with the status of words
only_words : (f : InputFault) → refusal_status (fault_view f) ≡ usage_status → input.Input f ≡ input.Input fault.Usage
only_words fault.Usage is = refl
only_words (fault.Text name why) is = cc is
only_words (fault.Trace name why) is = cc is
only_words (fault.Limit q) is = cc is

all_is_prefix : (before now : Told) (names : List (List ℕ)) → HasOpened before now names → HasOpenedPrefix before now names
all_is_prefix before now names opened = record { opened = names; left = []; are_names = sym (append-nil names); has_opened = opened }

-- The sink is as `mid` before the refusal is printed.
module _ {S K : Type 0} (g : shelf.Ghosts S) (h : sink.Ghosts K) (words : List (List ℕ)) (old new : S) (said mid saying : K) where
  abbrev Printed : K → List ℕ → Type 0
  Printed before text = Prints h.needs_memory (h.faults before) (h.faults saying) (h.written before) (h.written saying) text

  printed : (text : List ℕ) → mid ≡ said → (IsTrue h.tells → Printed mid text) → IsTrue h.tells → Printed said text
  printed text same is k = subst (λ (s : K). Printed s text) same (is k)

  failed_once : mid ≡ said → FailsAtMostOnce (h.faults mid) (h.faults saying) → FailsAtMostOnce (h.faults said) (h.faults saying)
  failed_once same once = subst (λ (s : K). FailsAtMostOnce (h.faults s) (h.faults saying)) same once

  pub ended : (r : Refusal) → Leaves g h words old new said mid r → (IsTrue h.tells → Prints h.needs_memory (h.faults mid) (h.faults saying) (h.written mid) (h.written saying) (text_of r))
      → FailsAtMostOnce (h.faults mid) (h.faults saying) → (IsSilent r → saying ≡ mid) → Ends g h words old new said saying (status_of r)
  ended (Reading (input.Input f)) left is once silent = TurnedDown (is_turned_down f) (record {
    verdict = λ t. record { refusal = fault_view f; is_verdict = left.verdict t; is_status = refl };
    usage = λ is. left.usage (only_words f is);
    opened = left.reads.opened;
    unwritten = left.reads.only_read;
    no_file = left.no_file;
    counts = left.reads.counts;
    faults = failed_once left.unsaid once;
    printed = λ t k. record { refusal = fault_view f; is_verdict = left.verdict t; printed = printed (text_of (Reading (input.Input f))) left.unsaid is k };
  })
  ended (Reading (input.ReadFault name)) left is once silent = ReadingFailed refl (record {
    counts = left.reads.counts;
    since = left.reads.since;
    opened = λ t. subst (λ n. HasOpenedUpTo (g.told old) (g.told new) (files_opened words (g.told old).holds) n) (sym (left.reads.named t)) (left.reads.opened t);
    unwritten = left.reads.only_read;
    no_file = left.no_file;
    faults = failed_once left.unsaid once;
    printed = λ t k. subst (λ n. Printed said (read_fault_text n)) (sym (left.reads.named t)) (printed (read_fault_text name.now) left.unsaid is k);
  })
  ended (Reading input.OutOfMemory) left is once silent = RunOut refl (record {
    counts = left.reads.counts;
    opened = left.reads.opened;
    run = λ t. inl (left.reads.only_read t);
    faults = failed_once left.unsaid once;
    printed = printed (text_of (Reading input.OutOfMemory)) left.unsaid is;
  })
  ended (Output (Files (WriteFault name))) left is once silent = FileFailed refl (record {
    counts = left.cause;
    since = left.since;
    opened = left.opened;
    run = λ t. (left.run t).0;
    faults = failed_once left.unsaid once;
    printed = λ t k. subst (λ n. Printed said (write_fault_text n)) (sym ((left.run t).1)) (printed (write_fault_text (string_bytes name)) left.unsaid is k);
  })
  ended (Output (Files OutOfMemory)) left is once silent = RunOut refl (record {
    counts = left.cause;
    opened = λ t. all_is_prefix _ _ _ (left.opened t);
    run = left.run;
    faults = failed_once left.unsaid once;
    printed = printed (text_of (Output (Files OutOfMemory))) left.unsaid is;
  })
  ended (Output (Summary failed.Fault)) left is once silent = SummaryFailed refl (record {
    counts = left.counts;
    faults = subst (λ (s : K). h.faults s ≡ with_fault (h.faults said)) (sym (silent refl)) (left.cause.fault refl);
    opened = left.opened;
    no_file = left.no_file;
    run = λ t. subst (λ (s : K). IsCutSummary words (g.told old).holds (g.told old).done (g.told new).done h.tells (h.written said) (h.written s)) (sym (silent refl)) (left.run t);
  })
  ended (Output (Summary failed.OutOfMemory)) left is once silent = RunOutLate refl (record {
    counts = left.counts;
    opened = left.opened;
    no_file = left.no_file;
    faults = subst (λ n. FailsAtMostOnce n (h.faults saying)) (left.cause.no_memory refl) once;
    run = λ t. record {
      broken = h.written mid;
      run = left.run t;
      printed = λ k. subst (λ n. Prints h.needs_memory n (h.faults saying) (h.written mid) (h.written saying) (text_of (Output (Summary failed.OutOfMemory)))) (left.cause.no_memory refl) (is k);
    };
  })

-- ---- what follows

rose_by : (old new : Counts) → new ≡ with_write_fault old → Rose old.writing new.writing
rose_by old new e = let is : new.writing ≡ with_fault old.writing = ap (λ (c : Counts). c.writing) e in omega (arith, is)

-- words are refused as words, and then no file is opened
module _ (words : List (List ℕ)) where
  refused_by_words : (r : Refused) → command_in words ≡ Err r → command_in words ≡ Err Usage
  unfolding command_in
  refused_by_words r e = at (command_of words) refl e
    where
      at : (o : Option Command) → command_of words ≡ o → ok_or o Usage ≡ Err r → ok_or (command_of words) Usage ≡ Err Usage
      at None is e = rw is refl
      at (Some c) is e = cc e

  words_refuse : (files : Shelved) → command_in words ≡ Err Usage → verdict words files ≡ Err Usage
  unfolding verdict
  words_refuse files e = rw e refl

  none_named : (files : Shelved) → command_in words ≡ Err Usage → files_opened words files ≡ []
  unfolding files_opened
  none_named files e = rw e refl

  none_up_to : {before now : Told} {name : List ℕ} (files : Shelved) → command_in words ≡ Err Usage → HasOpenedUpTo before now (files_opened words files) name → ⊥
  none_up_to {name = name} files e up = at up.earlier (sym (none_named files e) ∙ up.are_names)
    where
      at : (earlier : List (List ℕ)) → [] ≡ earlier ++ name ∷ up.later → ⊥
      at [] is = cc is
      at (x ∷ earlier) is = cc is

module _ {S K : Type 0} (g : shelf.Ghosts S) (h : sink.Ghosts K) (words : List (List ℕ)) (old new : S) (said saying : K) (status : ℕ) where
  refused_is : (r : Refused) → verdict words (g.told old).holds ≡ Err r → IsKnown g.tells words → Ends g h words old new said saying status
      → (status ≡ refusal_status r) ⊎ ((status ≡ read_fault_status) ⊎ (status ≡ out_of_memory_status))
  refused_is r e t (AllDone is done) = cc (e, (done.run t).decided.is_verdict)
  refused_is r e t (TurnedDown is down) = inl (cc (e, (down.verdict t).is_verdict, (down.verdict t).is_status))
  refused_is r e t (ReadingFailed is failed) = inr (inl is)
  refused_is r e t (FileFailed is failed) = cc (e, (failed.run t).decided.is_verdict)
  refused_is r e t (SummaryFailed is failed) = cc (e, (failed.run t).decided.is_verdict)
  refused_is r e t (RunOut is out) = inr (inr is)
  refused_is r e t (RunOutLate is out) = inr (inr is)

  pub refused_ends : IsKnown g.tells words → Ends g h words old new said saying status
      → IfErr (verdict words (g.told old).holds) (λ r. (status ≡ refusal_status r) ⊎ ((status ≡ read_fault_status) ⊎ (status ≡ out_of_memory_status)))
  refused_ends t ends = at (verdict words (g.told old).holds) refl
    where
      at : (v : Result Accepted Refused) → verdict words (g.told old).holds ≡ v → IfErr v (λ r. (status ≡ refusal_status r) ⊎ ((status ≡ read_fault_status) ⊎ (status ≡ out_of_memory_status)))
      at (Ok accepted) e = tt
      at (Err r) e = refused_is r e t ends

  accepted_is : (accepted : Accepted) → verdict words (g.told old).holds ≡ Ok accepted → IsKnown g.tells words → Ends g h words old new said saying status
      → ¬ Rose (g.counts old).reading (g.counts new).reading → ¬ Rose (g.counts old).writing (g.counts new).writing → ¬ Rose (h.faults said) (h.faults saying)
      → (status ≡ done_status) ⊎ (status ≡ out_of_memory_status)
  accepted_is accepted e t (AllDone is done) reading writing printing = inl is
  accepted_is accepted e t (TurnedDown is down) reading writing printing = cc (e, (down.verdict t).is_verdict)
  accepted_is accepted e t (ReadingFailed is failed) reading writing printing = absurd (reading failed.counts.reading)
  accepted_is accepted e t (FileFailed is failed) reading writing printing = absurd (writing (rose_by _ _ failed.counts))
  accepted_is accepted e t (SummaryFailed is failed) reading writing printing = absurd (printing (omega (arith, failed.faults)))
  accepted_is accepted e t (RunOut is out) reading writing printing = inr is
  accepted_is accepted e t (RunOutLate is out) reading writing printing = inr is

  pub accepted_ends : IsKnown g.tells words → Ends g h words old new said saying status → IsOk (verdict words (g.told old).holds)
      → ¬ Rose (g.counts old).reading (g.counts new).reading → ¬ Rose (g.counts old).writing (g.counts new).writing → ¬ Rose (h.faults said) (h.faults saying)
      → (status ≡ done_status) ⊎ (status ≡ out_of_memory_status)
  accepted_ends t ends = at (verdict words (g.told old).holds) refl
    where
      at : (v : Result Accepted Refused) → verdict words (g.told old).holds ≡ v → IsOk v
          → ¬ Rose (g.counts old).reading (g.counts new).reading → ¬ Rose (g.counts old).writing (g.counts new).writing → ¬ Rose (h.faults said) (h.faults saying)
          → (status ≡ done_status) ⊎ (status ≡ out_of_memory_status)
      at (Ok accepted) e ok = accepted_is accepted e t ends
      at (Err r) e ok = cc ok

  -- ---- the words alone

  usage_is : command_in words ≡ Err Usage → Ends g h words old new said saying status → (status ≡ usage_status) ⊎ (status ≡ out_of_memory_status)
  usage_is e ends =
      let known : IsKnown g.tells words = subst (λ (r : Result Command Refused). IsKnownCommand g.tells r) (sym e) tt in
      by known (words_refuse words (g.told old).holds e) ends
    where
      by : IsKnown g.tells words → verdict words (g.told old).holds ≡ Err Usage → Ends g h words old new said saying status → (status ≡ usage_status) ⊎ (status ≡ out_of_memory_status)
      by t v (AllDone is done) = cc (v, (done.run t).decided.is_verdict)
      by t v (TurnedDown is down) = inl (cc (v, (down.verdict t).is_verdict, (down.verdict t).is_status))
      by t v (ReadingFailed is failed) = absurd (none_up_to words (g.told old).holds e (failed.opened t))
      by t v (FileFailed is failed) = cc (v, (failed.run t).decided.is_verdict)
      by t v (SummaryFailed is failed) = cc (v, (failed.run t).decided.is_verdict)
      by t v (RunOut is out) = inr is
      by t v (RunOutLate is out) = inr is

  pub usage_ends : Ends g h words old new said saying status → IfErr (command_in words) (λ _. (status ≡ usage_status) ⊎ (status ≡ out_of_memory_status))
  usage_ends ends = at (command_in words) refl
    where
      at : (r : Result Command Refused) → command_in words ≡ r → IfErr r (λ _. (status ≡ usage_status) ⊎ (status ≡ out_of_memory_status))
      at (Ok c) e = tt
      at (Err r) e = usage_is (refused_by_words words r e) ends

  pub taken_ends : Ends g h words old new said saying status → IsOk (command_in words) → status ≢ usage_status
  taken_ends (AllDone is done) ok two = cc (is, two)
  taken_ends (TurnedDown is down) ok two = cc (rw (down.usage two) at ok)
  taken_ends (ReadingFailed is failed) ok two = cc (is, two)
  taken_ends (FileFailed is failed) ok two = cc (is, two)
  taken_ends (SummaryFailed is failed) ok two = cc (is, two)
  taken_ends (RunOut is out) ok two = cc (is, two)
  taken_ends (RunOutLate is out) ok two = cc (is, two)
