use Rattle.std.proofs.Common.{drop}
use Rattle.spec_tools.specs.Lines.{differing}
use Rattle.class_list.specs.LineViews.{lines_view}
use Rattle.class_list.specs.Listing.{AreOfPorts}
use Rattle.class_list.proofs.listing.are_of_ports.Given as goal

-- what is asked of all lines is left to ask of those that are left
abbrev pub invariant-lines : goal.invariant-lines
invariant-lines l = AreOfPorts l.ports (differing (lines_view (drop l.line-index l.lines))) → AreOfPorts l.ports (differing (lines_view l.lines))
