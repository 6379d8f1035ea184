use Rattle.std.proofs.Common.{◌≡◌, true, length}
use Rattle.spec_flow_text.specs.Items.{is_separator, words}
use Rattle.spec_input.specs.Mirrors.{with_items, mirror_in}
use Rattle.port_scripts.proofs.mirror_line.read_mirror.Given as goal

-- what the items so far and those to come say is what the line says
abbrev pub invariant-items : goal.invariant-items
invariant-items l = with_items l.ports (words is_separator true l.left.at l.left.text.now) l.mirror ≡ mirror_in l.ports l.line

abbrev pub decreases-items : goal.decreases-items
decreases-items l = length l.left.text.now
