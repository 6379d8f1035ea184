-- What is compared, as the definitions see it.
use Rattle.std.specs.Prelude.{◌≡◌, ℕ, Bool, List, length, IsTrue}
use Rattle.std.specs.List.{list_all}
use Rattle.spec_tables.specs.Bundles.{AreBundles}
use Rattle.spec_tables.specs.Edits.{has_sound_actions}
use Rattle.spec_input.specs.Script.{Script}
use Rattle.rule_tables.specs.History.{history_of}
use Rattle.edit_script.specs.ScriptViews.{script_view}
use Rattle.pipe_model.specs.Runnable.{AreRunnable}
use Rattle.dump_lines.specs.Live.{IsOfEdits, live_in}
use Rattle.switch_input.specs.declared.edits.EditsFile.{EditsFile}
use Rattle.spec_tools.specs.DiffVerdict as verdicts
use Rattle.diff_app.specs.declared.inputs.Inputs.{Inputs}

abbrev pub accepted_view : Inputs → verdicts.Accepted
accepted_view i = record { old = live_in i.old; new = live_in i.new; ports = i.ports.items; brief = i.brief }

-- what is compared, after both files
abbrev pub accepted_of : List ℕ → Bool → Script → Script → verdicts.Accepted
accepted_of ports brief old new = record { old = verdicts.rules_of old; new = verdicts.rules_of new; ports = ports; brief = brief }

-- The rules are those that the edits of the script make, in its bundles, and their actions are sound.
pub record IsEditsFile (e : EditsFile) : Type 0 where
  pub rules : e.rules ≡ history_of (script_view e.script).edits e.script.bundles.items
  pub bundles : AreBundles e.script.bundles.items (length (script_view e.script).edits)
  pub sound : IsTrue (list_all has_sound_actions (script_view e.script).edits)

-- Some edits of sound actions made the rules of both versions.
pub record AreComparable (i : Inputs) : Type 0 where
  pub old_edits : IsOfEdits i.old
  pub new_edits : IsOfEdits i.new
  pub old_runnable : AreRunnable (live_in i.old)
  pub new_runnable : AreRunnable (live_in i.new)
