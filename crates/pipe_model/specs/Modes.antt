-- Whether a translation goes on, as the definition sees it.
use Rattle.spec_xlate.specs.Translation as xlate
use Rattle.pipe_model.specs.declared.mode.Mode.{Mode}
use Rattle.pipe_model.specs.declared.mode.Mode.TheVariants.{Going, ListEnded, Stopped}

abbrev pub mode_of : Mode → xlate.Mode
mode_of Going = xlate.Mode.Going
mode_of ListEnded = xlate.Mode.ListEnded
mode_of Stopped = xlate.Mode.Stopped
