-- The tables of a version and the ports, as the definition sees them.
use Rattle.std.specs.Prelude.{◌≤◌}
use Rattle.spec_xlate.specs.Translation as xlate
use Rattle.rule_tables.specs.History.{newest, rules_of}
use Rattle.xlate_pipeline.specs.declared.scanning.Scan.{Scan}
use Rattle.pipe_model.specs.Runnable.{AreRunnable}

abbrev pub switch_in : Scan → xlate.Switch
switch_in scan = xlate.switch_of (rules_of scan.rules.now scan.version) scan.ports.now

-- The version is one of the rules', and its rules can be run.
pub record CanScan (scan : Scan) : Type 0 where
  pub made : scan.version ≤ newest scan.rules.now
  pub runnable : AreRunnable (rules_of scan.rules.now scan.version)
