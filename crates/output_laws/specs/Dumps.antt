-- A dump of rules, as a file of edits.
use Rattle.std.specs.Prelude.{ℕ, ◌+◌, ◌≤◌, List, [], ◌∷◌, length, map, All, IsTrue}
use Rattle.std.specs.List.{list_all}
use Rattle.spec_tables.specs.Rules.{Rule}
use Rattle.spec_tables.specs.Bundles.{each_alone}
use Rattle.spec_case.specs.Run.{Run}
use Rattle.spec_board.specs.Texts.{Journal}
use Rattle.spec_flow_text.specs.Actions.{is_respellable}
use Rattle.spec_input.specs.Lines.{most_line_bytes, lines_of}
use Rattle.spec_input.specs.Script.{Script, most_edits}
use Rattle.spec_run.specs.Rules.{counts_of, in_order, live_rules, rules_text}
use Rattle.output_laws.specs.Lines.{added, WasRead, AreCounts}

-- The edits of a run were read, its live rules have actions that can be spelled again, and no line of its dump and no number of
-- rules is above the limit of a file of edits.
pub record IsReadableDump (run : Run) (journals : List Journal) : Type 0 where
  pub read : All WasRead run.edits
  pub respellable : All (λ (r : Rule). IsTrue (list_all is_respellable r.actions)) (live_rules run)
  pub counts : (rule : ℕ) → AreCounts (counts_of run journals rule)
  pub few : length (live_rules run) ≤ most_edits
  pub short : All (λ line. length line ≤ most_line_bytes) (lines_of (rules_text run journals))

-- the rules that a dump says, in its order
abbrev pub dumped_rules : Run → List Rule
dumped_rules run = in_order (live_rules run)

-- an edit for each, and no sync point
abbrev pub dumped_edits : Run → Script
dumped_edits run = record { edits = map added (dumped_rules run); bundles = each_alone (map added (dumped_rules run)); syncs = [] }

-- the same rules, numbered from here on
abbrev pub renumbered : ℕ → List Rule → List Rule
renumbered number [] = []
renumbered number (r ∷ rules) = record r { number = number } ∷ renumbered (number + 1) rules
