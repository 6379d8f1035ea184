-- The stages of the verdict, from what was read.
use Rattle.std.proofs.Common.{◌≡◌, ℕ, Bool, true, false, ◌==◌, List, [], length, refl, sym, ap, ◌∙◌, subst, arith}
use Rattle.std.specs.Prelude.{IfErr, Some, None, IsTrue, Result, Ok, Err}
use Rattle.std.specs.List.{list_any, list_all}
use Rattle.spec_tables.specs.Rules.{Rule, Match}
use Rattle.spec_tables.specs.Edits.{Edit, has_sound_actions}
use Rattle.spec_tables.specs.Bundles.{edits_through, version, AreBundles}
use Rattle.spec_xlate.specs.Translation.{in_port_of}
use Rattle.spec_input.specs.Script.{Script}
use Rattle.spec_run.specs.Verdict as run
use Rattle.spec_run.specs.Verdict.{Files, script_in}
use Rattle.rule_tables.specs.History.{History, history_of}
use Rattle.rule_tables.proofs.Histories.{rules_of-history}
use Rattle.pipe_model.specs.Runnable.{AreRunnable}
use Rattle.pipe_model.proofs.Versions.{runnable-version}
use Rattle.dump_lines.specs.Live.{IsOfEdits, live_in}
use Rattle.edge_io.specs.declared.outside.Shelf as shelf
use Rattle.switch_input.specs.declared.refusals.refusal.InputRefusal.{InputRefusal}
use Rattle.switch_input.specs.declared.refusals.refusal.InputRefusal.TheVariants as input
use Rattle.switch_input.specs.Refused as reading
use Rattle.switch_input.specs.Refused.{fault_view}
use Rattle.switch_input.specs.Reading.{Read, ReadsWhere}
use Rattle.switch_input.proofs.refusals.Reading.{reads_still as input_still}
use Rattle.spec_tools.specs.TraceWords.{Command, command_of}
use Rattle.spec_tools.specs.TraceVerdict.{Input, NoPort as NoPortOf, match_in, key_of, accepted, case_of, verdict_of, verdict, command_in, opened_for, files_opened, Usage as UsageOf}
use Rattle.trace_app.specs.declared.refusal.Refusal.{Refusal}
use Rattle.trace_app.specs.declared.refusal.Refusal.TheVariants.{Usage, Reading, NoPort, Printing}
use Rattle.trace_app.specs.Known.{IsKnown}
use Rattle.trace_app.specs.Refused.{Explains, TellsUsage, TakesWords, TellsNoFault, stop_of, ending_of}

-- ---- after the edits

module _ (flow ports : List ℕ) (s : Script) where
  case-unread : (r : run.Refusal) → match_in flow ≡ Err r → case_of flow ports s ≡ Err (Input r)
  unfolding case_of
  case-unread r e = rw e refl

  pub case_explains : (r : InputRefusal) → reading.Explains (match_in flow) r → Explains (case_of flow ports s) (Reading r)
  case_explains (input.Input f) e = case-unread (fault_view f) e
  case_explains (input.ReadFault name) e = tt
  case_explains input.OutOfMemory e = tt

  pub case-no_port : (m : Match) → match_in flow ≡ Ok m → list_any (λ p. p == in_port_of (key_of m)) ports ≡ false
      → case_of flow ports s ≡ Err (NoPortOf (in_port_of (key_of m)))
  unfolding case_of
  case-no_port m e none = rw (e, none) refl

  pub case-accepted : (m : Match) → match_in flow ≡ Ok m → list_any (λ p. p == in_port_of (key_of m)) ports ≡ true
      → case_of flow ports s ≡ Ok (accepted ports s (key_of m))
  unfolding case_of
  case-accepted m e there = rw (e, there) refl

-- ---- the whole

module _ (files : Files) (c : Command) where
  of-unread : (r : run.Refusal) → script_in files c.edits ≡ Err r → verdict_of files c ≡ Err (Input r)
  unfolding verdict_of
  of-unread r e = rw e refl

  pub of_explains : (r : InputRefusal) → reading.Explains (script_in files c.edits) r → Explains (verdict_of files c) (Reading r)
  of_explains (input.Input f) e = of-unread (fault_view f) e
  of_explains (input.ReadFault name) e = tt
  of_explains input.OutOfMemory e = tt

  pub of-script : (s : Script) → script_in files c.edits ≡ Ok s → verdict_of files c ≡ case_of c.flow c.ports s
  unfolding verdict_of
  of-script s e = rw e refl

-- ---- what is refused after the edits were read

module _ (knows : Type 0) {S : Type 0} (g : shelf.Ghosts S) (old new : S) (names : List (List ℕ)) (read : ReadsWhere knows g old new names Read) where
  pub reads_still : (r : Refusal) → TellsNoFault r → ReadsWhere knows g old new names (stop_of r)
  reads_still Usage never = read
  reads_still (Reading r) never = input_still knows g old new names read r never
  reads_still (NoPort port) never = read
  reads_still (Printing f) never = read

  pub reads_ending : {A : Type 0} (result : Result A Refusal) → IfErr result TellsNoFault → ReadsWhere knows g old new names (ending_of result)
  reads_ending (Ok a) never = read
  reads_ending (Err r) never = reads_still r never

-- ---- the tables

module _ (edits : List Edit) (bundles : List ℕ) (whole : AreBundles bundles (length edits)) (sound : IsTrue (list_all has_sound_actions edits)) (h : History) (is : h ≡ history_of edits bundles) where
  pub of_edits : IsOfEdits h
  of_edits = record { edits = edits; bundles = bundles; history = is; whole = whole; sound = sound }

  pub live-version : version edits bundles (length bundles) ≡ live_in h
  live-version =
      let all : edits_through bundles (length bundles) ≡ length edits = whole.whole in
      sym (ap (λ (g : History). live_in g) is ∙ rules_of-history edits bundles (length bundles) (omega arith))

  pub runnable_by : (rules : List Rule) → rules ≡ version edits bundles (length bundles) → AreRunnable rules
  runnable_by rules same = subst AreRunnable (sym same) (runnable-version edits bundles (length bundles) sound)

-- ---- the words

module _ (words : List (List ℕ)) (files : Files) where
  pub words-none : command_of words ≡ None → verdict words files ≡ Err UsageOf
  unfolding verdict command_in
  words-none e = rw e refl

  pub words-some : (c : Command) → command_of words ≡ Some c → verdict words files ≡ verdict_of files c
  unfolding verdict command_in
  words-some c e = rw e refl

-- the verdict is known where the shelf tells, once the words are taken
pub known-some : (words : List (List ℕ)) (tells : Bool) (c : Command) → command_of words ≡ Some c → IsKnown tells words → IsTrue tells
unfolding command_in
known-some words tells c e known = rw e at known

pub command-none : (words : List (List ℕ)) → command_of words ≡ None → command_in words ≡ Err UsageOf
unfolding command_in
command-none words e = rw e refl

-- a refusal that isn't one of the words tells nothing of them
pub usage-never : {A : Type 0} (r : Result A Refusal) (P : Type 0) → IfErr r TakesWords → IfErr r (λ e. TellsUsage e → P)
usage-never (Ok a) P taken = tt
usage-never (Err Usage) P taken = absurd taken
usage-never (Err (Reading r)) P taken = λ is. absurd (rw is at taken)
usage-never (Err (NoPort port)) P taken = λ is. absurd is
usage-never (Err (Printing f)) P taken = λ is. absurd is

pub opened-none : (words : List (List ℕ)) → command_of words ≡ None → files_opened words ≡ []
unfolding command_in
opened-none words e = rw e refl

pub opened-some : (words : List (List ℕ)) (c : Command) → command_of words ≡ Some c → files_opened words ≡ opened_for c
unfolding command_in
opened-some words c e = rw e refl
