-- What was read, as the definitions see it.
use Rattle.std.specs.Prelude.{◌≡◌, ◌≤◌, All, IsTrue, length, Result, Ok}
use Rattle.std.specs.List.{list_all}
use Rattle.spec_pcap.specs.Pcap.{Capture}
use Rattle.spec_case.specs.Run.{Run}
use Rattle.spec_case.specs.Blocks.{AreInOrder}
use Rattle.spec_input.specs.Script.{most_edits, most_syncs}
use Rattle.spec_input.specs.Steps.{most_steps}
use Rattle.spec_input.specs.Mirrors.{most_mirrors}
use Rattle.spec_run.specs.Limits.{most_frames}
use Rattle.spec_run.specs.Verdict as verdicts
use Rattle.spec_tables.specs.Bundles.{AreBundles}
use Rattle.spec_tables.specs.Edits.{has_sound_actions}
use Rattle.rule_tables.specs.History.{history_of}
use Rattle.edit_script.specs.ScriptViews.{script_view}
use Rattle.command_words.specs.declared.reading.Command.{Command}
use Rattle.command_words.specs.CommandViews.{input_view, command_view, HasWorkers}
use Rattle.switch_input.specs.declared.inputs.Inputs.{Inputs}
use Rattle.switch_input.specs.declared.reading.TraceFile.{TraceFile}

abbrev pub trace_view : TraceFile → verdicts.TraceFile
trace_view t = record { size = t.size; capture = t.trace }

-- what is read for a command, by its names
abbrev pub sources_for : Command → verdicts.Sources
sources_for c = verdicts.sources_of (input_view c.input)

-- what files give for a command: a run and its mirrors, or the first refusal
abbrev pub run_for : verdicts.Files → Command → Result verdicts.MirroredRun verdicts.Refusal
run_for files c = verdicts.run_in files c.flow_limit (sources_for c)

-- the run that was read
abbrev pub run_view : Inputs → Run
run_view i = verdicts.run_of i.command.flow_limit (sources_for i.command) (script_view i.script) i.steps.items i.traces.items

-- and its mirrors
abbrev pub mirrored_view : Inputs → verdicts.MirroredRun
mirrored_view i = record { run = run_view i; mirrors = i.mirrors.items }

-- The stage of the verdict gives what was read.
abbrev pub Gives : Result verdicts.MirroredRun verdicts.Refusal → Inputs → Type 0
Gives stage i = stage ≡ Ok (mirrored_view i)

-- the command, and what is given by what it reads
abbrev pub accepted_view : Inputs → verdicts.Accepted
accepted_view i = record { command = command_view i.command; run = run_view i; mirrors = i.mirrors.items }

-- What was read is within its limits. The rules are those that the edits make.
pub record IsWithinLimits (i : Inputs) : Type 0 where
  pub workers : HasWorkers i.command
  pub ports : i.ports ≡ verdicts.ports_said (sources_for i.command).ports
  pub trace_each : length i.traces.items ≡ length i.ports
  pub few_frames : All (λ (t : Capture). length t.frames ≤ most_frames) i.traces.items
  pub sound : IsTrue (list_all has_sound_actions (script_view i.script).edits)
  pub few_edits : length (script_view i.script).edits ≤ most_edits
  pub few_syncs : length i.script.syncs.items ≤ most_syncs
  pub in_order : AreInOrder i.script.syncs.items (length i.script.bundles.items)
  pub bundles : AreBundles i.script.bundles.items (length (script_view i.script).edits)
  pub few_steps : length i.steps.items ≤ most_steps
  pub few_mirrors : length i.mirrors.items ≤ most_mirrors
  pub rules : i.rules ≡ history_of (script_view i.script).edits i.script.bundles.items
