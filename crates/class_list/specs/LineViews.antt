-- Lines as the definitions see them.
use Rattle.std.specs.Prelude.{List, map, Option, Some, None}
use Rattle.std.specs.Borrow.{Bor}
use Rattle.spec_tools.specs.Classes as diff
use Rattle.spec_tools.specs.Lines as spec
use Rattle.spec_tools.specs.Lines.{Said}
use Rattle.spec_tools.specs.Lines.Said.{Alike, Differ}
use Rattle.table_diff.specs.declared.class.Class.{Class}
use Rattle.table_diff.specs.Cubes.{cube_view}
use Rattle.table_diff.specs.Deeds.{deed_view}
use Rattle.class_list.specs.declared.line.Line.{Line}

abbrev pub said_view : Option (Bor Class) → Said
said_view None = Alike
said_view (Some class) = Differ (deed_view class.now.old) (deed_view class.now.new)

abbrev pub line_view : Line → spec.Line
line_view l = record { matching = cube_view l.cube; said = said_view l.class }

abbrev pub lines_view : List Line → List spec.Line
lines_view lines = map line_view lines

-- classes as lines
abbrev pub class_line : diff.Class → spec.Line
class_line c = record { matching = c.matching; said = Differ c.old c.new }

abbrev pub class_lines : List diff.Class → List spec.Line
class_lines classes = map class_line classes
