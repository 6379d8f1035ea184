use Rattle.std.proofs.Common.{if◌then◌else◌, [], ◌∷◌, Option, sym, subst}
use Rattle.std.specs.Borrow.{Bor}
use Rattle.spec_tools.specs.Lines.{differs}
use Rattle.table_diff.specs.declared.class.Class.{Class}
use Rattle.table_diff.specs.Cubes.{cube_view}
use Rattle.class_list.specs.LineViews.{said_view}
use Rattle.class_list.specs.Listing.{AreOfPorts}
use Rattle.class_list.proofs.listing.is_line_of_ports.Goals as goal

pub returns-in-Some : goal.returns-in-Some
returns-in-Some c is =
    subst (λ (class : Option (Bor Class)). AreOfPorts c.args.ports.now (if differs (said_view class) then cube_view c.args.line.now.cube ∷ [] else []))
    (sym c.in-Some.is) (c.is_of_ports.ensures is)
