-- Parts of the text of a trace.
use Rattle.std.specs.Prelude.{ℕ, List, ◌++◌, codes}
use Rattle.std.specs.Fmt.{decimal}
use Rattle.spec_actions.specs.declared.action.OfAction.{OfAction}
use Rattle.spec_actions.specs.declared.action.DpAction.{DpAction}
use Rattle.spec_tables.specs.Rules.{Rule, Match}
use Rattle.spec_flow_text.specs.Printed.{match_printed, actions_printed}
use Rattle.spec_tools.specs.declared.lookup.Lookup.{Lookup}
use Rattle.spec_tools.specs.TraceTexts.{after_space, winner_text, winner_of, last_line, megaflow_line, datapath_line}

abbrev pub done_text : List OfAction → List ℕ
done_text actions = codes " actions=" ++ actions_printed actions

-- the priority, the match and the actions of a rule
abbrev pub stated_text : ℕ → Match → List OfAction → List ℕ
stated_text priority m actions = codes " priority=" ++ (decimal priority ++ (after_space (match_printed m) ++ done_text actions))

-- the line of a lookup, but for its line feed
abbrev pub looked_text : List Rule → Lookup → List ℕ
looked_text rules l = decimal l.depth ++ (codes " table=" ++ (decimal l.table ++ winner_text (winner_of rules l)))

-- the last three lines
abbrev pub ended_text : List ℕ → List ℕ → List ℕ → List DpAction → List ℕ
ended_text key end mask actions = last_line end ++ (megaflow_line key mask ++ datapath_line actions)
