-- What is printed of a difference: for each line
--
--     MATCH
--     - ACTIONS
--     + ACTIONS
--
-- with what OLD does and what NEW does; or, where both do the same,
--
--     MATCH
--     =
--
-- Of the lines that have a packet the first counts. In brief there is a line for each kind:
--
--     COUNT: ACTIONS -> ACTIONS
--
-- A kind is a pair of actions, and COUNT how many classes have it; a class is a line that tells a difference. A last
-- line counts classes and kinds. Matches and datapath actions are printed as in the dump of megaflows, and flow actions
-- as in that of rules. Nothing is printed where there is no line.
use Rattle.std.specs.Prelude.{ℕ, Bool, false, ◌&&◌, if◌then◌else◌, List, [], ◌∷◌, ◌++◌, length, codes}
use Rattle.std.specs.Cmp.Lexicographic.{pointwise}
use Rattle.std.specs.List.{list_any, flat_map, count_by}
use Rattle.std.specs.Fmt.{decimal}
use Rattle.spec_actions.specs.declared.action.OfAction.{OfAction}
use Rattle.spec_actions.specs.contracts.action.OfActionPartialEq.TheImpl as derived
use Rattle.spec_board.specs.Results.{are_same_actions}
use Rattle.spec_board.specs.Texts.{line_of}
use Rattle.spec_flow_text.specs.DpTextPrinted.{dp_actions_printed}
use Rattle.spec_flow_text.specs.Printed.{actions_printed}
use Rattle.spec_run.specs.Megaflows.{megaflow_match_text}
use Rattle.spec_tools.specs.Classes.{Deed}
use Rattle.spec_tools.specs.Classes.Deed.{Datapath, Flow}
use Rattle.spec_tools.specs.Lines.{Said, Line}
use Rattle.spec_tools.specs.Lines.Said.{Alike, Differ}

-- ---- what is done

abbrev pub deed_text : Deed → List ℕ
deed_text (Datapath actions) = dp_actions_printed actions
deed_text (Flow actions) = actions_printed actions

-- whether two lists of flow actions are the same, action by action
abbrev pub are_same_flow_actions : List OfAction → List OfAction → Bool
are_same_flow_actions xs ys = pointwise derived.eq-value.it xs ys

abbrev pub is_same_deed : Deed → Deed → Bool
is_same_deed (Datapath xs) (Datapath ys) = are_same_actions xs ys
is_same_deed (Datapath xs) (Flow ys) = false
is_same_deed (Flow xs) (Datapath ys) = false
is_same_deed (Flow xs) (Flow ys) = are_same_flow_actions xs ys

-- ---- kinds

-- what the one switch does and what the other
pub record Kind : Type 0 where
  pub old : Deed
  pub new : Deed

abbrev pub is_same_kind : Kind → Kind → Bool
is_same_kind a b = is_same_deed a.old b.old && is_same_deed a.new b.new

-- the kind of a class, as a list, and none where both do the same
abbrev pub kind_of : Said → List Kind
kind_of Alike = []
kind_of (Differ old new) = record { old = old; new = new } ∷ []

-- those of all classes, line by line
abbrev pub kinds_in : List Line → List Kind
kinds_in lines = flat_map (λ (l : Line). kind_of l.said) lines

-- each of these once, where it stands last
unfoldable pub kinds_of : List Kind → List Kind
kinds_of [] = []
kinds_of (k ∷ kinds) = if list_any (is_same_kind k) kinds then kinds_of kinds else k ∷ kinds_of kinds

-- ---- lines

abbrev pub old_line : Deed → List ℕ
old_line deed = line_of (codes "- " ++ deed_text deed)

abbrev pub new_line : Deed → List ℕ
new_line deed = line_of (codes "+ " ++ deed_text deed)

abbrev pub said_text : Said → List ℕ
said_text Alike = line_of (codes "=")
said_text (Differ old new) = old_line old ++ new_line new

abbrev pub line_text : Line → List ℕ
line_text l = line_of (megaflow_match_text l.matching) ++ said_text l.said

-- ---- the whole

-- the line that counts these kinds of classes
abbrev pub count_line : List Kind → List ℕ
count_line kinds = line_of (decimal (length kinds) ++ (codes " classes, " ++ (decimal (length (kinds_of kinds)) ++ codes " kinds")))

-- the text of these lines, with the line that counts them
abbrev pub counted : List Line → List ℕ → List ℕ
counted [] text = []
counted (l ∷ lines) text = text ++ count_line (kinds_in (l ∷ lines))

abbrev pub difference_text : List Line → List ℕ
difference_text lines = counted lines (flat_map line_text lines)

-- the line of a kind among those of all classes
abbrev pub kind_line : List Kind → Kind → List ℕ
kind_line kinds k =
    line_of (decimal (count_by (is_same_kind k) kinds)
    ++ (codes ": " ++ (deed_text k.old ++ (codes " -> " ++ deed_text k.new))))

abbrev pub kinds_text : List Kind → List ℕ
kinds_text kinds = flat_map (kind_line kinds) (kinds_of kinds)

abbrev pub brief_text : List Line → List ℕ
brief_text lines = counted lines (kinds_text (kinds_in lines))

abbrev pub text_of_lines : Bool → List Line → List ℕ
text_of_lines brief lines = if brief then brief_text lines else difference_text lines
