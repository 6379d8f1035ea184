use Rattle.std.proofs.Common.{map}
use Rattle.spec_xlate.specs.Translation.{switch_of}
use Rattle.dump_lines.specs.Live.{live_in}
use Rattle.spec_tools.specs.Classes.{from_port}
use Rattle.spec_tools.specs.Progress.{IsPartWay}
use Rattle.table_diff.specs.Cubes.{cubes_view, classes_view}
use Rattle.table_diff.proofs.comparing.find_classes.Given as goal

abbrev pub invariant-cubes : goal.invariant-cubes
invariant-cubes l =
    IsPartWay (switch_of (live_in l.old) l.ports) (switch_of (live_in l.new) l.ports) (map from_port l.ports)
    (cubes_view l.work.items) (classes_view l.classes.items) l.counter
