-- The tables and the ports, as the definition sees them.
use Rattle.spec_xlate.specs.Translation as xlate
use Rattle.pipe_model.specs.Runnable.{AreRunnable}
use Rattle.ofp_trace.specs.declared.watched.Watched.{Watched}

abbrev pub switch_in : Watched → xlate.Switch
switch_in sw = xlate.switch_of sw.tables.now.rules sw.ports.now

-- The rules can be run.
pub record CanRun (sw : Watched) : Type 0 where
  pub runnable : AreRunnable sw.tables.now.rules
