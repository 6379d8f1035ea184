-- The tables of a run: the first version, the next one, and that they can be run.
use Rattle.std.proofs.Common.{◌≡◌, ◌+◌, ◌<◌, Result, Ok, Err, OnOk, OnErr, IsTrue, sym, ap, ap₂, ◌∙◌, subst, arith}
use Rattle.std.specs.List.{list_all}
use Rattle.spec_tables.specs.Edits.{has_sound_actions}
use Rattle.spec_tables.specs.Bundles.{version, AreBundles}
use Rattle.spec_case.specs.Run.{Run, edit_count, last_version}
use Rattle.table_laws.proofs.Bundles.{within}
use Rattle.rule_tables.specs.History.{History, newest, history_of}
use Rattle.rule_tables.proofs.Histories.{rules_of-history}
use Rattle.pipe_model.specs.Runnable.{AreRunnable}
use Rattle.pipe_model.proofs.Versions.{runnable-version}
use Rattle.tuple_classifier.specs.Versions.{Version, version_in}
use Rattle.run_tables.specs.OfRun.{AreOfRun}

pub of_run-first : (run : Run) (h : History) (rules : Version) → h ≡ history_of run.edits run.bundles → rules ≡ version_in h 0 → AreBundles run.bundles (edit_count run)
    → IsTrue (list_all has_sound_actions run.edits) → AreOfRun run rules
of_run-first run h rules history is whole sound =
    let number : rules.number ≡ 0 = ap (λ (t : Version). t.number) is in
    record {
      sound = sound;
      whole = whole;
      made = is ∙ ap₂ version_in history (sym number);
      within = omega (arith, number);
    }

-- the next version
module _ (run : Run) (rules : Version) (are : AreOfRun run rules) (left : rules.number < last_version run) where
  history_is : rules.history ≡ history_of run.edits run.bundles
  history_is = ap (λ (t : Version). t.history) are.made

  -- the store has it
  pub next_made : rules.number < newest rules.history
  next_made = subst (λ (h : History). rules.number < newest h) (sym history_is) left

  of_run-next : (next : Version) → next ≡ version_in rules.history (rules.number + 1) → AreOfRun run next
  of_run-next next is =
      let number : next.number ≡ rules.number + 1 = ap (λ (t : Version). t.number) is in
      record {
        sound = are.sound;
        whole = are.whole;
        made = is ∙ ap₂ version_in history_is (sym number);
        within = omega (arith, number, left);
      }

  -- it was made, or there was no memory for it
  pub of_run-advanced : {A B : Type 0} (result : Result A B) (next : Version) → OnOk result (next ≡ version_in rules.history (rules.number + 1)) → OnErr result (next ≡ rules) → AreOfRun run next
  of_run-advanced (Ok made) next advanced kept = of_run-next next advanced
  of_run-advanced (Err why) next advanced kept = subst (AreOfRun run) (sym kept) are

pub rules_are : (run : Run) (rules : Version) → AreOfRun run rules → rules.rules ≡ version run.edits run.bundles rules.number
rules_are run rules are =
    ap (λ (t : Version). t.rules) are.made
    ∙ rules_of-history run.edits run.bundles rules.number (within run.bundles (edit_count run) are.whole rules.number are.within)

pub of_run-runnable : (run : Run) (rules : Version) → AreOfRun run rules → AreRunnable rules.rules
of_run-runnable run rules are = subst AreRunnable (sym (rules_are run rules are)) (runnable-version run.edits run.bundles rules.number are.sound)
