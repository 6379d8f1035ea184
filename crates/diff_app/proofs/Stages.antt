-- The stages of the verdict, from what was read.
use Rattle.std.proofs.Common.{◌≡◌, ℕ, List, [], ◌∷◌, ◌++◌, length, refl, sym, ap, ◌∙◌, subst, arith}
use Rattle.std.specs.Prelude.{Some, None, Ok, Err}
use Rattle.spec_tables.specs.Bundles.{edits_through}
use Rattle.spec_input.specs.Script.{Script}
use Rattle.spec_run.specs.Verdict as run
use Rattle.spec_run.specs.Verdict.{Files, script_in}
use Rattle.rule_tables.specs.History.{History}
use Rattle.rule_tables.proofs.Histories.{rules_of-history}
use Rattle.pipe_model.specs.Runnable.{AreRunnable}
use Rattle.pipe_model.proofs.Versions.{runnable-version}
use Rattle.dump_lines.specs.Live.{IsOfEdits, live_in}
use Rattle.edit_script.specs.ScriptViews.{script_view}
use Rattle.switch_input.specs.declared.edits.EditsFile.{EditsFile}
use Rattle.edge_io.specs.Shelf.{Told}
use Rattle.edge_io.specs.Opened.{HasOpened}
use Rattle.switch_input.proofs.Opened.{all_left, opened_until}
use Rattle.switch_input.specs.declared.refusals.refusal.InputRefusal.{InputRefusal}
use Rattle.switch_input.specs.declared.refusals.refusal.InputRefusal.TheVariants as input
use Rattle.switch_input.specs.Reading.{Ending, HasOpenedUntil}
use Rattle.switch_input.specs.Refused as reading
use Rattle.switch_input.specs.Refused.{fault_view}
use Rattle.switch_input.proofs.refusals.Reading.{opened_then}
use Rattle.spec_tools.specs.DiffWords.{Command, command_of}
use Rattle.spec_tools.specs.DiffVerdict.{Input, rules_of, accepted, case_of, verdict_of, verdict, command_in, opened_for, opened_after, files_opened, Usage as UsageOf}
use Rattle.diff_app.specs.InputViews.{IsEditsFile}
use Rattle.diff_app.specs.declared.refusal.Refusal.TheVariants.{Reading}
use Rattle.diff_app.specs.Refused.{Explains}

-- ---- after the file OLD

module _ (files : Files) (c : Command) (s : Script) where
  case-unread : (r : run.Refusal) → script_in files c.new ≡ Err r → case_of files c s ≡ Err (Input r)
  unfolding case_of
  case-unread r e = rw e refl

  pub case_explains : (r : InputRefusal) → reading.Explains (script_in files c.new) r → Explains (case_of files c s) (Reading r)
  case_explains (input.Input f) e = case-unread (fault_view f) e
  case_explains (input.ReadFault name) e = tt
  case_explains input.OutOfMemory e = tt

  pub case-accepted : (t : Script) → script_in files c.new ≡ Ok t → case_of files c s ≡ Ok (accepted c s t)
  unfolding case_of
  case-accepted t e = rw e refl

-- ---- the whole

module _ (files : Files) (c : Command) where
  of-unread : (r : run.Refusal) → script_in files c.old ≡ Err r → verdict_of files c ≡ Err (Input r)
  unfolding verdict_of
  of-unread r e = rw e refl

  pub of_explains : (r : InputRefusal) → reading.Explains (script_in files c.old) r → Explains (verdict_of files c) (Reading r)
  of_explains (input.Input f) e = of-unread (fault_view f) e
  of_explains (input.ReadFault name) e = tt
  of_explains input.OutOfMemory e = tt

  pub of-script : (s : Script) → script_in files c.old ≡ Ok s → verdict_of files c ≡ case_of files c s
  unfolding verdict_of
  of-script s e = rw e refl

  -- ---- the files that are opened

  opened-both : (s : Script) → script_in files c.old ≡ Ok s → opened_for files c ≡ c.old ∷ c.new ∷ []
  unfolding opened_for
  opened-both s e = rw e refl

  opened-first : (r : run.Refusal) → script_in files c.old ≡ Err r → opened_for files c ≡ c.old ∷ []
  unfolding opened_for
  opened-first r e = rw e refl

  opened-split : opened_for files c ≡ (c.old ∷ []) ++ opened_after (script_in files c.old) c.new
  unfolding opened_for
  opened-split = refl

  -- a refusal of OLD
  pub old_opened : (before now : Told) (r : InputRefusal) → reading.Explains (script_in files c.old) r → HasOpenedUntil before now (c.old ∷ []) (reading.stop_of r)
      → HasOpenedUntil before now (opened_for files c) (reading.stop_of r)
  old_opened before now (input.Input f) e until = subst (λ (names : List (List ℕ)). HasOpened before now names) (sym (opened-first (fault_view f) e)) until
  old_opened before now (input.ReadFault name) e until =
      opened_until before before now (opened_for files c) (opened_for files c) (all_left before (opened_for files c)) (c.old ∷ [])
      (opened_after (script_in files c.old) c.new) opened-split (input.ReadFault name) tt until
  old_opened before now input.OutOfMemory e until =
      opened_until before before now (opened_for files c) (opened_for files c) (all_left before (opened_for files c)) (c.old ∷ [])
      (opened_after (script_in files c.old) c.new) opened-split input.OutOfMemory tt until

  -- NEW after it
  pub new_opened : (before mid now : Told) → HasOpened before mid (c.old ∷ []) → (s : Script) → script_in files c.old ≡ Ok s → (e : Ending)
      → HasOpenedUntil mid now (c.new ∷ []) e → HasOpenedUntil before now (opened_for files c) e
  new_opened before mid now first s is e until =
      subst (λ (names : List (List ℕ)). HasOpenedUntil before now names e) (sym (opened-both s is)) (opened_then before mid now (c.old ∷ []) (c.new ∷ []) e first until)

-- ---- the rules

module _ (e : EditsFile) (is : IsEditsFile e) where
  pub of_edits : IsOfEdits e.rules
  of_edits = record { edits = (script_view e.script).edits; bundles = e.script.bundles.items; history = is.rules; whole = is.bundles; sound = is.sound }

  pub live-rules : live_in e.rules ≡ rules_of (script_view e.script)
  live-rules =
      let edits = (script_view e.script).edits in
      let bundles = e.script.bundles.items in
      let all : edits_through bundles (length bundles) ≡ length edits = is.bundles.whole in
      ap (λ (g : History). live_in g) is.rules ∙ rules_of-history edits bundles (length bundles) (omega arith)

  pub runnable : AreRunnable (live_in e.rules)
  runnable = subst AreRunnable (sym live-rules) (runnable-version (script_view e.script).edits e.script.bundles.items (length e.script.bundles.items) is.sound)

-- ---- the words

module _ (words : List (List ℕ)) (files : Files) where
  pub words-none : command_of words ≡ None → verdict words files ≡ Err UsageOf
  unfolding verdict command_in
  words-none e = rw e refl

  pub words-some : (c : Command) → command_of words ≡ Some c → verdict words files ≡ verdict_of files c
  unfolding verdict command_in
  words-some c e = rw e refl

  pub opened-none : command_of words ≡ None → files_opened words files ≡ []
  unfolding command_in
  opened-none e = rw e refl

  pub opened-some : (c : Command) → command_of words ≡ Some c → files_opened words files ≡ opened_for files c
  unfolding command_in
  opened-some c e = rw e refl
