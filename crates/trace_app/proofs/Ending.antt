-- How a call ends, from what a refused trace leaves and what is printed of it; and what follows from how it ends.
use Rattle.std.proofs.Common.{◌≡◌, ◌≢◌, ℕ, List, [], ◌∷◌, ◌++◌, Option, Some, None, refl, sym, subst, ◌∙◌, inl, inr, arith}
use Rattle.std.specs.Prelude.{◌⊎◌, IsTrue, IsOk, IfErr, Result, Ok, Err}
use Rattle.std.specs.Option.{ok_or}
use Rattle.spec_base.specs.Counts.{Rose}
use Rattle.spec_run.specs.Statuses.{done_status, usage_status, read_fault_status, out_of_memory_status, read_fault_text, status_of as run_status, Prints}
use Rattle.edge_io.specs.declared.outside.Failed.TheVariants as failed
use Rattle.edge_io.specs.declared.outside.Shelf as shelf
use Rattle.edge_io.specs.declared.outside.Sink as sink
use Rattle.edge_io.specs.Counts.{with_fault}
use Rattle.edge_io.specs.Opened.{HasOpenedUpTo}
use Rattle.edge_io.specs.Shelf.{Told}
use Rattle.switch_input.specs.declared.refusals.refusal.InputFault.{InputFault}
use Rattle.switch_input.specs.declared.refusals.refusal.InputFault.TheVariants as fault
use Rattle.switch_input.specs.declared.refusals.refusal.InputRefusal.TheVariants as input
use Rattle.switch_input.specs.Refused.{fault_view}
use Rattle.spec_tools.specs.TraceVerdict.{Accepted, Refusal as Refused, Usage as UsageOf, Input as InputOf, NoPort as NoPortOf, command_in, verdict, files_opened}
use Rattle.spec_run.specs.Verdict.{Files}
use Rattle.spec_tools.specs.TraceWords.{Command, command_of}
use Rattle.spec_tools.specs.TraceOutputs.{IsCut}
use Rattle.spec_tools.specs.TraceStatuses.{is_refusal, status_of as refusal_status}
use Rattle.trace_app.specs.Known.{IsKnownCommand, IsKnown}
use Rattle.trace_app.specs.declared.refusal.Refusal.{Refusal}
use Rattle.trace_app.specs.declared.refusal.Refusal.TheVariants.{Usage, Reading, NoPort, Printing}
use Rattle.trace_app.specs.Refused.{status_of, text_of, IsSilent}
use Rattle.trace_app.specs.Ends.{Ends, AllDone, TurnedDown, ReadingFailed, PrintingFailed, RunOut, RunOutLate}
use Rattle.trace_app.specs.Leaving.{Leaves}

is_turned_down : (f : InputFault) → IsTrue (is_refusal (run_status (fault_view f)))
is_turned_down fault.Usage = refl
is_turned_down (fault.Text name why) = refl
is_turned_down (fault.Trace name why) = refl
is_turned_down (fault.Limit q) = refl

-- no file is refused with the status of words
only_words : (f : InputFault) → run_status (fault_view f) ≡ usage_status → input.Input f ≡ input.Input fault.Usage
only_words fault.Usage is = refl
only_words (fault.Text name why) is = cc is
only_words (fault.Trace name why) is = cc is
only_words (fault.Limit q) is = cc is

-- no file is in use where it is no limit that is told
-- The sink is as `mid` before the refusal is printed.
module _ {S K : Type 0} (g : shelf.Ghosts S) (h : sink.Ghosts K) (words : List (List ℕ)) (old new : S) (said mid saying : K) where
  abbrev Printed : K → List ℕ → Type 0
  Printed before text = Prints h.needs_memory (h.faults before) (h.faults saying) (h.written before) (h.written saying) text

  printed : (text : List ℕ) → mid ≡ said → (IsTrue h.tells → Printed mid text) → IsTrue h.tells → Printed said text
  printed text same is k = subst (λ (s : K). Printed s text) same (is k)

  pub ended : (r : Refusal) → Leaves g h words old new said mid r → (IsTrue h.tells → Prints h.needs_memory (h.faults mid) (h.faults saying) (h.written mid) (h.written saying) (text_of r))
      → (IsSilent r → saying ≡ mid) → Ends g h words old new said saying (status_of r)
  ended Usage left is silent = TurnedDown refl (record {
    verdict = λ t. record { refusal = UsageOf; is_verdict = left.verdict t; is_status = refl };
    usage = λ is. left.usage tt;
    opened = left.reads.opened;
    unwritten = left.reads.only_read;
    no_file = left.no_file;
    counts = left.reads.counts;
    printed = λ t k. record { refusal = UsageOf; is_verdict = left.verdict t; printed = printed (text_of Usage) left.unsaid is k };
  })
  ended (Reading (input.Input f)) left is silent = TurnedDown (is_turned_down f) (record {
    verdict = λ t. record { refusal = InputOf (fault_view f); is_verdict = left.verdict t; is_status = refl };
    usage = λ is. left.usage (only_words f is);
    opened = left.reads.opened;
    unwritten = left.reads.only_read;
    no_file = left.no_file;
    counts = left.reads.counts;
    printed = λ t k. record { refusal = InputOf (fault_view f); is_verdict = left.verdict t; printed = printed (text_of (Reading (input.Input f))) left.unsaid is k };
  })
  ended (Reading (input.ReadFault name)) left is silent = ReadingFailed refl (record {
    counts = left.reads.counts;
    since = left.reads.since;
    opened = λ t. subst (λ n. HasOpenedUpTo (g.told old) (g.told new) (files_opened words) n) (sym (left.reads.named t)) (left.reads.opened t);
    unwritten = left.reads.only_read;
    no_file = left.no_file;
    printed = λ t k. subst (λ n. Printed said (read_fault_text n)) (sym (left.reads.named t)) (printed (read_fault_text name.now) left.unsaid is k);
  })
  ended (Reading input.OutOfMemory) left is silent = RunOut refl (record {
    counts = left.reads.counts;
    opened = left.reads.opened;
    unwritten = left.reads.only_read;
    no_file = left.no_file;
    printed = printed (text_of (Reading input.OutOfMemory)) left.unsaid is;
  })
  ended (NoPort port) left is silent = TurnedDown refl (record {
    verdict = λ t. record { refusal = NoPortOf port; is_verdict = left.verdict t; is_status = refl };
    usage = λ is. cc is;
    opened = left.reads.opened;
    unwritten = left.reads.only_read;
    no_file = left.no_file;
    counts = left.reads.counts;
    printed = λ t k. record { refusal = NoPortOf port; is_verdict = left.verdict t; printed = printed (text_of (NoPort port)) left.unsaid is k };
  })
  ended (Printing failed.Fault) left is silent = PrintingFailed refl (record {
    counts = left.reads.counts;
    faults = subst (λ (s : K). h.faults s ≡ with_fault (h.faults said)) (sym (silent refl)) (left.cause.fault refl);
    opened = left.reads.opened;
    unwritten = left.reads.only_read;
    no_file = left.no_file;
    run = λ t. subst (λ (s : K). IsCut words (g.told old).holds h.tells (h.written said) (h.written s)) (sym (silent refl)) (left.run t);
  })
  ended (Printing failed.OutOfMemory) left is silent = RunOutLate refl (record {
    counts = left.reads.counts;
    opened = left.reads.opened;
    unwritten = left.reads.only_read;
    no_file = left.no_file;
    run = λ t. record {
      broken = h.written mid;
      run = left.run t;
      printed = λ k. subst (λ n. Prints h.needs_memory n (h.faults saying) (h.written mid) (h.written saying) (text_of (Printing failed.OutOfMemory))) (left.cause.no_memory refl) (is k);
    };
  })

-- ---- what follows

-- words are refused as words, and then no file is opened
module _ (words : List (List ℕ)) where
  refused_by_words : (r : Refused) → command_in words ≡ Err r → command_in words ≡ Err UsageOf
  unfolding command_in
  refused_by_words r e = at (command_of words) refl e
    where
      at : (o : Option Command) → command_of words ≡ o → ok_or o UsageOf ≡ Err r → ok_or (command_of words) UsageOf ≡ Err UsageOf
      at None is e = rw is refl
      at (Some c) is e = cc e

  words_refuse : (files : Files) → command_in words ≡ Err UsageOf → verdict words files ≡ Err UsageOf
  unfolding verdict
  words_refuse files e = rw e refl

  none_named : command_in words ≡ Err UsageOf → files_opened words ≡ []
  none_named e = rw e refl

  none_up_to : {before now : Told} {name : List ℕ} → command_in words ≡ Err UsageOf → HasOpenedUpTo before now (files_opened words) name → ⊥
  none_up_to {name = name} e up = at up.earlier (sym (none_named e) ∙ up.are_names)
    where
      at : (earlier : List (List ℕ)) → [] ≡ earlier ++ name ∷ up.later → ⊥
      at [] is = cc is
      at (x ∷ earlier) is = cc is

module _ {S K : Type 0} (g : shelf.Ghosts S) (h : sink.Ghosts K) (words : List (List ℕ)) (old new : S) (said saying : K) (status : ℕ) where
  refused_is : (r : Refused) → verdict words (g.told old).holds ≡ Err r → IsKnown g.tells words → Ends g h words old new said saying status
      → (status ≡ refusal_status r) ⊎ ((status ≡ read_fault_status) ⊎ (status ≡ out_of_memory_status))
  refused_is r e t (AllDone is done) = cc (e, (done.run t).is_verdict)
  refused_is r e t (TurnedDown is down) = inl (cc (e, (down.verdict t).is_verdict, (down.verdict t).is_status))
  refused_is r e t (ReadingFailed is failed) = inr (inl is)
  refused_is r e t (PrintingFailed is failed) = cc (e, (failed.run t).is_verdict)
  refused_is r e t (RunOut is out) = inr (inr is)
  refused_is r e t (RunOutLate is out) = inr (inr is)

  pub refused_ends : IsKnown g.tells words → Ends g h words old new said saying status
      → IfErr (verdict words (g.told old).holds) (λ r. (status ≡ refusal_status r) ⊎ ((status ≡ read_fault_status) ⊎ (status ≡ out_of_memory_status)))
  refused_ends t ends = at (verdict words (g.told old).holds) refl
    where
      at : (v : Result Accepted Refused) → verdict words (g.told old).holds ≡ v → IfErr v (λ r. (status ≡ refusal_status r) ⊎ ((status ≡ read_fault_status) ⊎ (status ≡ out_of_memory_status)))
      at (Ok accepted) e = tt
      at (Err r) e = refused_is r e t ends

  accepted_is : (accepted : Accepted) → verdict words (g.told old).holds ≡ Ok accepted → IsKnown g.tells words → Ends g h words old new said saying status
      → ¬ Rose (g.counts old).reading (g.counts new).reading → ¬ Rose (h.faults said) (h.faults saying)
      → (status ≡ done_status) ⊎ (status ≡ out_of_memory_status)
  accepted_is accepted e t (AllDone is done) reading printing = inl is
  accepted_is accepted e t (TurnedDown is down) reading printing = cc (e, (down.verdict t).is_verdict)
  accepted_is accepted e t (ReadingFailed is failed) reading printing = absurd (reading failed.counts.reading)
  accepted_is accepted e t (PrintingFailed is failed) reading printing = absurd (printing (omega (arith, failed.faults)))
  accepted_is accepted e t (RunOut is out) reading printing = inr is
  accepted_is accepted e t (RunOutLate is out) reading printing = inr is

  pub accepted_ends : IsKnown g.tells words → Ends g h words old new said saying status → IsOk (verdict words (g.told old).holds)
      → ¬ Rose (g.counts old).reading (g.counts new).reading → ¬ Rose (h.faults said) (h.faults saying)
      → (status ≡ done_status) ⊎ (status ≡ out_of_memory_status)
  accepted_ends t ends = at (verdict words (g.told old).holds) refl
    where
      at : (v : Result Accepted Refused) → verdict words (g.told old).holds ≡ v → IsOk v
          → ¬ Rose (g.counts old).reading (g.counts new).reading → ¬ Rose (h.faults said) (h.faults saying)
          → (status ≡ done_status) ⊎ (status ≡ out_of_memory_status)
      at (Ok accepted) e ok = accepted_is accepted e t ends
      at (Err r) e ok = cc ok

  -- ---- the words alone

  usage_is : command_in words ≡ Err UsageOf → Ends g h words old new said saying status → (status ≡ usage_status) ⊎ (status ≡ out_of_memory_status)
  usage_is e ends =
      let known : IsKnown g.tells words = subst (λ (r : Result Command Refused). IsKnownCommand g.tells r) (sym e) tt in
      by known (words_refuse words (g.told old).holds e) ends
    where
      by : IsKnown g.tells words → verdict words (g.told old).holds ≡ Err UsageOf → Ends g h words old new said saying status → (status ≡ usage_status) ⊎ (status ≡ out_of_memory_status)
      by t v (AllDone is done) = cc (v, (done.run t).is_verdict)
      by t v (TurnedDown is down) = inl (cc (v, (down.verdict t).is_verdict, (down.verdict t).is_status))
      by t v (ReadingFailed is failed) = absurd (none_up_to words e (failed.opened t))
      by t v (PrintingFailed is failed) = cc (v, (failed.run t).is_verdict)
      by t v (RunOut is out) = inr is
      by t v (RunOutLate is out) = inr is

  pub usage_ends : Ends g h words old new said saying status → IfErr (command_in words) (λ _. (status ≡ usage_status) ⊎ (status ≡ out_of_memory_status))
  usage_ends ends = at (command_in words) refl
    where
      at : (r : Result Command Refused) → command_in words ≡ r → IfErr r (λ _. (status ≡ usage_status) ⊎ (status ≡ out_of_memory_status))
      at (Ok c) e = tt
      at (Err r) e = usage_is (refused_by_words words r e) ends

  pub taken_ends : Ends g h words old new said saying status → IsOk (command_in words) → status ≢ usage_status
  taken_ends (AllDone is done) ok two = cc (is, two)
  taken_ends (TurnedDown is down) ok two = cc (rw (down.usage two) at ok)
  taken_ends (ReadingFailed is failed) ok two = cc (is, two)
  taken_ends (PrintingFailed is failed) ok two = cc (is, two)
  taken_ends (RunOut is out) ok two = cc (is, two)
  taken_ends (RunOutLate is out) ok two = cc (is, two)
