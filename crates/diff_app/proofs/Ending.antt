-- How a call ends, from what a refusal leaves and what is printed of it; and what follows from how it ends.
use Rattle.std.proofs.Common.{◌≡◌, ℕ, List, refl, sym, subst, inl, inr, arith}
use Rattle.std.specs.Prelude.{◌⊎◌, IsTrue, IsOk, IfErr, Result, Ok, Err}
use Rattle.spec_base.specs.Counts.{Rose}
use Rattle.spec_run.specs.Statuses.{done_status, limit_status, read_fault_status, out_of_memory_status, read_fault_text, status_of as run_status, Prints}
use Rattle.edge_io.specs.declared.outside.Failed.TheVariants as failed
use Rattle.edge_io.specs.declared.outside.Shelf as shelf
use Rattle.edge_io.specs.declared.outside.Sink as sink
use Rattle.edge_io.specs.Counts.{with_fault}
use Rattle.edge_io.specs.Opened.{HasOpenedUpTo}
use Rattle.switch_input.specs.declared.refusals.refusal.InputFault.{InputFault}
use Rattle.switch_input.specs.declared.refusals.refusal.InputFault.TheVariants as fault
use Rattle.switch_input.specs.declared.refusals.refusal.InputRefusal.TheVariants as input
use Rattle.switch_input.specs.Refused.{fault_view}
use Rattle.spec_tools.specs.DiffVerdict.{Accepted, Refusal as Refused, Usage as UsageOf, Input as InputOf, verdict, files_opened}
use Rattle.spec_tools.specs.DiffOutputs.{IsCut}
use Rattle.spec_tools.specs.DiffStatuses.{differ_status, is_refusal, status_of as refusal_status}
use Rattle.diff_app.specs.declared.refusal.Refusal.{Refusal}
use Rattle.diff_app.specs.declared.refusal.Refusal.TheVariants.{Usage, Reading, TooManyCubes, Printing}
use Rattle.diff_app.specs.Refused.{status_of, text_of, IsSilent}
use Rattle.diff_app.specs.Ends.{Ends, AllDone, TurnedDown, ReadingFailed, PrintingFailed, GivenUp, RunOut, RunOutLate}
use Rattle.diff_app.specs.Leaving.{Leaves}

is_turned_down : (f : InputFault) → IsTrue (is_refusal (run_status (fault_view f)))
is_turned_down fault.Usage = refl
is_turned_down (fault.Text name why) = refl
is_turned_down (fault.Trace name why) = refl
is_turned_down (fault.Limit q) = refl

-- no file is in use where it is no limit that is told
-- The sink is as `mid` before the refusal is printed.
module _ {S K : Type 0} (g : shelf.Ghosts S) (h : sink.Ghosts K) (words : List (List ℕ)) (old new : S) (said mid saying : K) where
  abbrev Printed : K → List ℕ → Type 0
  Printed before text = Prints h.needs_memory (h.faults before) (h.faults saying) (h.written before) (h.written saying) text

  printed : (text : List ℕ) → mid ≡ said → (IsTrue h.tells → Printed mid text) → IsTrue h.tells → Printed said text
  printed text same is k = subst (λ (s : K). Printed s text) same (is k)

  pub ended : (r : Refusal) → Leaves g h words old new said mid r → (IsTrue h.tells → Prints h.needs_memory (h.faults mid) (h.faults saying) (h.written mid) (h.written saying) (text_of r))
      → (IsSilent r → saying ≡ mid) → Ends g h words old new said saying (status_of r)
  ended Usage left is silent = TurnedDown refl (record {
    verdict = λ t. record { refusal = UsageOf; is_verdict = left.verdict t; is_status = refl };
    opened = left.reads.opened;
    unwritten = left.reads.only_read;
    no_file = left.no_file;
    counts = left.reads.counts;
    printed = λ t k. record { refusal = UsageOf; is_verdict = left.verdict t; printed = printed (text_of Usage) left.unsaid is k };
  })
  ended (Reading (input.Input f)) left is silent = TurnedDown (is_turned_down f) (record {
    verdict = λ t. record { refusal = InputOf (fault_view f); is_verdict = left.verdict t; is_status = refl };
    opened = left.reads.opened;
    unwritten = left.reads.only_read;
    no_file = left.no_file;
    counts = left.reads.counts;
    printed = λ t k. record { refusal = InputOf (fault_view f); is_verdict = left.verdict t; printed = printed (text_of (Reading (input.Input f))) left.unsaid is k };
  })
  ended (Reading (input.ReadFault name)) left is silent = ReadingFailed refl (record {
    counts = left.reads.counts;
    since = left.reads.since;
    opened = λ t. subst (λ n. HasOpenedUpTo (g.told old) (g.told new) (files_opened words (g.told old).holds) n) (sym (left.reads.named t)) (left.reads.opened t);
    unwritten = left.reads.only_read;
    no_file = left.no_file;
    printed = λ t k. subst (λ n. Printed said (read_fault_text n)) (sym (left.reads.named t)) (printed (read_fault_text name.now) left.unsaid is k);
  })
  ended (Reading input.OutOfMemory) left is silent = RunOut refl (record {
    counts = left.reads.counts;
    opened = left.reads.opened;
    unwritten = left.reads.only_read;
    no_file = left.no_file;
    printed = printed (text_of (Reading input.OutOfMemory)) left.unsaid is;
  })
  ended TooManyCubes left is silent = GivenUp refl (record {
    run = left.run;
    counts = left.reads.counts;
    opened = left.reads.opened;
    unwritten = left.reads.only_read;
    no_file = left.no_file;
    printed = printed (text_of TooManyCubes) left.unsaid is;
  })
  ended (Printing failed.Fault) left is silent = PrintingFailed refl (record {
    counts = left.reads.counts;
    faults = subst (λ (s : K). h.faults s ≡ with_fault (h.faults said)) (sym (silent refl)) (left.cause.fault refl);
    opened = left.reads.opened;
    unwritten = left.reads.only_read;
    no_file = left.no_file;
    run = λ t. subst (λ (s : K). IsCut words (g.told old).holds h.tells (h.written said) (h.written s)) (sym (silent refl)) (left.run t);
  })
  ended (Printing failed.OutOfMemory) left is silent = RunOutLate refl (record {
    counts = left.reads.counts;
    opened = left.reads.opened;
    unwritten = left.reads.only_read;
    no_file = left.no_file;
    run = λ t. record {
      broken = h.written mid;
      run = left.run t;
      printed = λ k. subst (λ n. Prints h.needs_memory n (h.faults saying) (h.written mid) (h.written saying) (text_of (Printing failed.OutOfMemory))) (left.cause.no_memory refl) (is k);
    };
  })

-- ---- what follows

module _ {S K : Type 0} (g : shelf.Ghosts S) (h : sink.Ghosts K) (words : List (List ℕ)) (old new : S) (said saying : K) (status : ℕ) where
  refused_is : (r : Refused) → verdict words (g.told old).holds ≡ Err r → IsTrue g.tells → Ends g h words old new said saying status
      → (status ≡ refusal_status r) ⊎ ((status ≡ read_fault_status) ⊎ (status ≡ out_of_memory_status))
  refused_is r e t (AllDone is done) = cc (e, (done.run t).is_verdict)
  refused_is r e t (TurnedDown is down) = inl (cc (e, (down.verdict t).is_verdict, (down.verdict t).is_status))
  refused_is r e t (ReadingFailed is failed) = inr (inl is)
  refused_is r e t (PrintingFailed is failed) = cc (e, (failed.run t).is_verdict)
  refused_is r e t (GivenUp is up) = cc (e, (up.run t).is_verdict)
  refused_is r e t (RunOut is out) = inr (inr is)
  refused_is r e t (RunOutLate is out) = inr (inr is)

  pub refused_ends : IsTrue g.tells → Ends g h words old new said saying status
      → IfErr (verdict words (g.told old).holds) (λ r. (status ≡ refusal_status r) ⊎ ((status ≡ read_fault_status) ⊎ (status ≡ out_of_memory_status)))
  refused_ends t ends = at (verdict words (g.told old).holds) refl
    where
      at : (v : Result Accepted Refused) → verdict words (g.told old).holds ≡ v → IfErr v (λ r. (status ≡ refusal_status r) ⊎ ((status ≡ read_fault_status) ⊎ (status ≡ out_of_memory_status)))
      at (Ok accepted) e = tt
      at (Err r) e = refused_is r e t ends

  accepted_is : (accepted : Accepted) → verdict words (g.told old).holds ≡ Ok accepted → IsTrue g.tells → Ends g h words old new said saying status
      → ¬ Rose (g.counts old).reading (g.counts new).reading → ¬ Rose (h.faults said) (h.faults saying)
      → ((status ≡ done_status) ⊎ (status ≡ differ_status)) ⊎ ((status ≡ limit_status) ⊎ (status ≡ out_of_memory_status))
  accepted_is accepted e t (AllDone is done) reading printing = inl is
  accepted_is accepted e t (TurnedDown is down) reading printing = cc (e, (down.verdict t).is_verdict)
  accepted_is accepted e t (ReadingFailed is failed) reading printing = absurd (reading failed.counts.reading)
  accepted_is accepted e t (PrintingFailed is failed) reading printing = absurd (printing (omega (arith, failed.faults)))
  accepted_is accepted e t (GivenUp is up) reading printing = inr (inl is)
  accepted_is accepted e t (RunOut is out) reading printing = inr (inr is)
  accepted_is accepted e t (RunOutLate is out) reading printing = inr (inr is)

  pub accepted_ends : IsTrue g.tells → Ends g h words old new said saying status → IsOk (verdict words (g.told old).holds)
      → ¬ Rose (g.counts old).reading (g.counts new).reading → ¬ Rose (h.faults said) (h.faults saying)
      → ((status ≡ done_status) ⊎ (status ≡ differ_status)) ⊎ ((status ≡ limit_status) ⊎ (status ≡ out_of_memory_status))
  accepted_ends t ends = at (verdict words (g.told old).holds) refl
    where
      at : (v : Result Accepted Refused) → verdict words (g.told old).holds ≡ v → IsOk v
          → ¬ Rose (g.counts old).reading (g.counts new).reading → ¬ Rose (h.faults said) (h.faults saying)
          → ((status ≡ done_status) ⊎ (status ≡ differ_status)) ⊎ ((status ≡ limit_status) ⊎ (status ≡ out_of_memory_status))
      at (Ok accepted) e ok = accepted_is accepted e t ends
      at (Err r) e ok = cc ok
