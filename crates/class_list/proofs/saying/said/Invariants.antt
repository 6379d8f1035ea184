use Rattle.std.proofs.Common.{◌≡◌, drop}
use Rattle.spec_tools.specs.Lines.{said_of}
use Rattle.ovs_fields.specs.Packed.{numbers}
use Rattle.class_list.specs.LineViews.{lines_view}
use Rattle.class_list.proofs.saying.said.Given as goal

-- no line so far has the key
abbrev pub invariant-lines : goal.invariant-lines
invariant-lines l = said_of (lines_view l.lines) (numbers l.key) ≡ said_of (lines_view (drop l.line-index l.lines)) (numbers l.key)
