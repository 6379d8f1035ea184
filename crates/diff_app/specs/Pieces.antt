-- Parts of the text of a difference.
use Rattle.std.specs.Prelude.{ℕ, Bool, if◌then◌else◌, List, [], ◌∷◌, ◌++◌, codes}
use Rattle.std.specs.List.{list_any, flat_map}
use Rattle.std.specs.Fmt.{decimal}
use Rattle.spec_tools.specs.Lines.{Line}
use Rattle.spec_tools.specs.DiffTexts.{Kind, deed_text, is_same_kind, kinds_in, kind_line, kinds_text, line_text}
use Rattle.table_diff.specs.declared.class.Class.{Class}
use Rattle.table_diff.specs.Deeds.{deed_view}

-- the pair of actions of a class
abbrev pub kind_view : Class → Kind
kind_view c = record { old = deed_view c.old; new = deed_view c.new }

-- the kind of a line that may be a class, if no class of those that follow has it
abbrev pub last_kind : List Kind → List Kind → List Kind
last_kind [] later = []
last_kind (k ∷ kinds) later = if list_any (is_same_kind k) later then [] else k ∷ []

-- its line
abbrev pub last_kind_text : List Kind → List Kind → List Kind → List ℕ
last_kind_text all kinds later = flat_map (kind_line all) (last_kind kinds later)

-- what both versions do, with an arrow between
abbrev pub done_text : Kind → List ℕ
done_text k = deed_text k.old ++ (codes " -> " ++ deed_text k.new)

-- the line of a kind, but for its line feed
abbrev pub kind_text : ℕ → Kind → List ℕ
kind_text count k = decimal count ++ (codes ": " ++ done_text k)

-- both counts
abbrev pub counts_text : ℕ → ℕ → List ℕ
counts_text classes kinds = decimal classes ++ (codes " classes, " ++ (decimal kinds ++ codes " kinds"))

-- all lines but the last one
abbrev pub body_text : Bool → List Line → List ℕ
body_text brief lines = if brief then kinds_text (kinds_in lines) else flat_map line_text lines
