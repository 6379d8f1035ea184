-- The tables and the ports, as the definition sees them.
use Rattle.spec_xlate.specs.Translation as xlate
use Rattle.pipe_model.specs.Runnable.{AreRunnable}
use Rattle.xlate_pipeline.specs.declared.switch.Switch.{Switch}

abbrev pub switch_in : Switch → xlate.Switch
switch_in sw = xlate.switch_of sw.tables.now.rules sw.ports.now

-- The rules can be run.
pub record CanRun (sw : Switch) : Type 0 where
  pub runnable : AreRunnable sw.tables.now.rules
