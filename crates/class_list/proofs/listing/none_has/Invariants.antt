use Rattle.std.proofs.Common.{◌≡◌, drop}
use Rattle.spec_tools.specs.Classes.{holding}
use Rattle.spec_tools.specs.Lines.{matches_in}
use Rattle.ovs_fields.specs.Packed.{numbers}
use Rattle.class_list.specs.LineViews.{lines_view}
use Rattle.class_list.proofs.listing.none_has.Given as goal

-- no line so far has the key
abbrev pub invariant-lines : goal.invariant-lines
invariant-lines l =
    holding (numbers l.key) (matches_in (lines_view l.lines)) ≡ holding (numbers l.key) (matches_in (lines_view (drop l.line-index l.lines)))
