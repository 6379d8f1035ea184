-- The tables of the last version and the ports, as the definition sees them.
use Rattle.spec_xlate.specs.Translation as xlate
use Rattle.dump_lines.specs.Live.{IsOfEdits, live_in}
use Rattle.pipe_model.specs.Runnable.{AreRunnable}
use Rattle.table_diff.specs.declared.leading.Leading.{Leading}

abbrev pub switch_in : Leading → xlate.Switch
switch_in sw = xlate.switch_of (live_in sw.rules.now) sw.ports.now

-- Edits made the rules, and those of the last version can be run.
pub record CanLead (sw : Leading) : Type 0 where
  pub of_edits : IsOfEdits sw.rules.now
  pub runnable : AreRunnable (live_in sw.rules.now)
