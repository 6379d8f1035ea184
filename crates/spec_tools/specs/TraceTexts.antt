-- What is printed of the way of a packet through the tables:
--
--     flow: KEY
--     DEPTH table=T rule=R priority=P MATCH actions=ACTIONS
--     DEPTH table=T no match
--     last: KEY
--     megaflow: MATCH
--     datapath: ACTIONS
--
-- with a line of the second or of the third form for each lookup. A rule's match and actions are printed as in the dump of
-- rules, and the last two lines as in the dump of megaflows.
use Rattle.std.specs.Prelude.{ℕ, ◌==◌, if◌then◌else◌, List, [], ◌∷◌, ◌++◌, Option, Some, None, codes}
use Rattle.std.specs.List.{flat_map}
use Rattle.std.specs.Option.{option_and_then}
use Rattle.std.specs.Fmt.{decimal}
use Rattle.spec_actions.specs.declared.action.DpAction.{DpAction}
use Rattle.spec_keys.specs.declared.field_id.FieldId.{FieldId}
use Rattle.spec_keys.specs.Fields.{fields}
use Rattle.spec_keys.specs.Keys.{value_of}
use Rattle.spec_tables.specs.Rules.{Rule}
use Rattle.spec_tables.specs.Live.{rule_numbered}
use Rattle.spec_flow_text.specs.Characters.{space}
use Rattle.spec_xlate.specs.Translation.{Switch, switch_of, pipe}
use Rattle.spec_xlate.specs.Lookup.{union}
use Rattle.spec_xlate.specs.Consulted.{whole, consulted}
use Rattle.spec_flow_text.specs.Printed.{match_printed, actions_printed}
use Rattle.spec_flow_text.specs.DpTextPrinted.{dp_actions_printed}
use Rattle.spec_board.specs.Texts.{line_of}
use Rattle.spec_run.specs.Megaflows.{megaflow_match_text}
use Rattle.spec_tools.specs.declared.lookup.Lookup.{Lookup}
use Rattle.spec_tools.specs.Paths.{path_of, last_of}

-- ---- keys

-- all bits of a field of a key, if it isn't 0, and of all such fields
abbrev pub carried_bits : List ℕ → FieldId → List (List ℕ)
carried_bits key f = if value_of key f == 0 then [] else whole f ∷ []

unfoldable pub carried : List ℕ → List ℕ
carried key = union (flat_map (carried_bits key) fields)

-- the fields of a key that aren't 0, as a megaflow that states them prints them
abbrev pub key_text : List ℕ → List ℕ
key_text key = megaflow_match_text (record { key = key; mask = carried key })

-- ---- lookups

-- a match stands after the priority, with a space between them, where it isn't empty
abbrev pub after_space : List ℕ → List ℕ
after_space [] = []
after_space text = space ∷ text

abbrev pub winner_text : Option Rule → List ℕ
winner_text None = codes " no match"
winner_text (Some r) =
    codes " rule=" ++ (decimal r.number ++ (codes " priority=" ++ (decimal r.priority
    ++ (after_space (match_printed r.matching) ++ (codes " actions=" ++ actions_printed r.actions)))))

-- the rule that won a lookup among rules
abbrev pub winner_of : List Rule → Lookup → Option Rule
winner_of rules l = option_and_then (λ number. rule_numbered number rules) l.rule

abbrev pub lookup_line : List Rule → Lookup → List ℕ
lookup_line rules l = line_of (decimal l.depth ++ (codes " table=" ++ (decimal l.table ++ winner_text (winner_of rules l))))

-- ---- the whole

abbrev pub flow_line : List ℕ → List ℕ
flow_line key = line_of (codes "flow: " ++ key_text key)

abbrev pub last_line : List ℕ → List ℕ
last_line key = line_of (codes "last: " ++ key_text key)

abbrev pub megaflow_line : List ℕ → List ℕ → List ℕ
megaflow_line key mask = line_of (codes "megaflow: " ++ megaflow_match_text (record { key = key; mask = mask }))

abbrev pub datapath_line : List DpAction → List ℕ
datapath_line actions = line_of (codes "datapath: " ++ dp_actions_printed actions)

-- a packet's key, lookups among rules, the key at the end, the bits consulted, and the datapath actions
abbrev pub told_text : List Rule → List ℕ → List Lookup → List ℕ → List ℕ → List DpAction → List ℕ
told_text rules key lookups end mask actions =
    flow_line key ++ (flat_map (lookup_line rules) lookups ++ (last_line end ++ (megaflow_line key mask ++ datapath_line actions)))

abbrev pub text_on : Switch → List Rule → List ℕ → List ℕ
text_on sw rules key = told_text rules key (path_of sw key) (last_of sw key) (consulted sw key) (pipe sw key).actions

-- what the tables of these rules do to a packet of this key, on a switch of these ports
unfoldable pub traced_text : List Rule → List ℕ → List ℕ → List ℕ
traced_text rules ports key = text_on (switch_of rules ports) rules key
