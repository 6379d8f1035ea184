-- What is asked of lines besides that they say the same as others.
use Rattle.std.specs.Prelude.{◌≡◌, ℕ, ◌<◌, List, take, map, slice_index_or, IsTrue}
use Rattle.spec_tables.specs.Rules.{Match}
use Rattle.spec_tools.specs.Classes.{from_port, holding}
use Rattle.spec_tools.specs.Lines.{matches_in, differs}
use Rattle.ovs_fields.specs.Packed.{numbers}
use Rattle.class_list.specs.declared.line.Line.{Line}
use Rattle.class_list.specs.LineViews.{said_view, lines_view}

-- Of the first lines, so many, each that tells a difference is the first that has the key of its cube.
abbrev pub AreFirst : List Line → ℕ → Type 0
AreFirst lines count =
    (k : ℕ) → k < count → (d : Line) → IsTrue (differs (said_view (slice_index_or lines k d).class))
    → holding (numbers (slice_index_or lines k d).cube.key) (matches_in (lines_view (take k lines))) ≡ 0

-- What these matches have comes in by one of the ports.
abbrev pub AreOfPorts : List ℕ → List Match → Type 0
AreOfPorts ports ms = (key : List ℕ) → 0 < holding key ms → 0 < holding key (map from_port ports)
