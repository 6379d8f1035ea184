-- The tables of the last version and the ports, as the definition sees them.
use Rattle.spec_xlate.specs.Translation as xlate
use Rattle.dump_lines.specs.Live.{IsOfEdits, live_in}
use Rattle.pipe_model.specs.Runnable.{AreRunnable}
use Rattle.class_list.specs.declared.meeting.Meeting.{Meeting}

abbrev pub switch_in : Meeting → xlate.Switch
switch_in sw = xlate.switch_of (live_in sw.rules.now) sw.ports.now

-- Edits made the rules, and those of the last version can be run.
pub record CanMeet (sw : Meeting) : Type 0 where
  pub of_edits : IsOfEdits sw.rules.now
  pub runnable : AreRunnable (live_in sw.rules.now)
