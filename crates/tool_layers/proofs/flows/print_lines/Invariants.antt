use Rattle.std.proofs.Common.{length}
use Rattle.tool_layers.proofs.flows.print_lines.Given as goal

abbrev pub decreases-lines : goal.decreases-lines
decreases-lines l = length l.rest
