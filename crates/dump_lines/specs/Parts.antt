-- The parts of the line of a megaflow.
use Rattle.std.specs.Prelude.{ℕ, List, ◌++◌, codes}
use Rattle.std.specs.Fmt.{decimal}
use Rattle.spec_actions.specs.declared.action.DpAction.{DpAction}
use Rattle.spec_board.specs.State.{Entry}
use Rattle.spec_flow_text.specs.DpTextPrinted.{dp_actions_printed}
use Rattle.spec_run.specs.Megaflows.{told, and_told, time_text, visits_text, megaflow_match, megaflow_match_text}

-- which megaflow it is, and of which version
abbrev pub name_text : ℕ → Entry → List ℕ
name_text port e =
    told (codes "port") (decimal port) ++ (and_told (codes "entry") (decimal e.number) ++ and_told (codes "version") (decimal e.version))

-- what it decided, and what of that its rules are still due
abbrev pub counts_text : Entry → List ℕ
counts_text e =
    and_told (codes "packets") (decimal e.packets) ++ (and_told (codes "bytes") (decimal e.bytes)
    ++ (and_told (codes "owed_packets") (decimal e.owed_packets) ++ and_told (codes "owed_bytes") (decimal e.owed_bytes)))

-- when it was last used, the rules that it visits, and its match
abbrev pub decided_text : Entry → List ℕ
decided_text e =
    and_told (codes "used") (time_text e.used) ++ (and_told (codes "visits") (visits_text e.visits)
    ++ and_told (codes "match") (megaflow_match_text (megaflow_match e)))

-- all but the actions
abbrev pub entry_text : ℕ → Entry → List ℕ
entry_text port e = name_text port e ++ (counts_text e ++ decided_text e)

-- the actions, and the line feed
abbrev pub actions_text : List DpAction → List ℕ
actions_text actions = codes " actions=" ++ (dp_actions_printed actions ++ codes "\n")
