-- A line of the dump of rules, and the edit that it is as a line of edits.
use Rattle.std.specs.Prelude.{◌≡◌, ℕ, ◌<◌, ◌≤◌, ◌^◌, List, ◌++◌, Some, Ok, IsTrue, codes}
use Rattle.std.specs.Fmt.{decimal}
use Rattle.std.specs.List.{list_all}
use Rattle.spec_actions.specs.Sound.{last_table}
use Rattle.spec_tables.specs.declared.edit_word.EditWord.TheVariants.{Add}
use Rattle.spec_tables.specs.Rules.{Rule}
use Rattle.spec_tables.specs.Edits.{Edit}
use Rattle.spec_flow_text.specs.NumbersPrinted.{hexadecimal}
use Rattle.spec_flow_text.specs.Items.{greatest_cookie, last_priority}
use Rattle.spec_flow_text.specs.Actions.{is_respellable}
use Rattle.spec_flow_text.specs.Lines.{edit_in}
use Rattle.spec_flow_text.specs.Printed.{match_printed, actions_printed}
use Rattle.spec_run.specs.declared.rule_counts.RuleCounts.{RuleCounts}
use Rattle.spec_run.specs.Rules.{after_comma, counts_text}
use Rattle.text_laws.specs.Spelled.{are_spellable}
use Rattle.text_laws.specs.SpelledMatches.{IsSpellable}

-- the text of the line, without its line feed
abbrev pub rule_text : RuleCounts → Rule → List ℕ
rule_text counts r =
    codes "cookie=" ++ (hexadecimal r.cookie ++ (codes ", table=" ++ (decimal r.table ++ (codes ", "
    ++ (counts_text (codes ", ") counts ++ (codes ", priority=" ++ (decimal r.priority ++ (after_comma (match_printed r.matching)
    ++ (codes " actions=" ++ (actions_printed r.actions ++ (codes " # rule=" ++ decimal r.number)))))))))))

-- the edit that adds a rule
abbrev pub added : Rule → Edit
added r = record {
  word = Add;
  table = Some r.table;
  priority = r.priority;
  cookie = Some r.cookie;
  matching = r.matching;
  actions = r.actions;
}

-- A rule that edits can add, whose match and actions can be spelled.
pub record IsWritable (r : Rule) : Type 0 where
  pub cookie : r.cookie ≤ greatest_cookie
  pub table : r.table ≤ last_table
  pub priority : r.priority ≤ last_priority
  pub matching : IsSpellable r.matching
  pub actions : IsTrue (are_spellable r.actions)

-- counts of 128 bits
pub record AreCounts (counts : RuleCounts) : Type 0 where
  pub packets : counts.packets < 2 ^ 128
  pub bytes : counts.bytes < 2 ^ 128

-- The edit is that of a line.
abbrev pub WasRead : Edit → Type 0
WasRead e = (line : List ℕ) × (edit_in line ≡ Ok e)

-- Where the actions of a rule can be spelled again, its line reads back as the edit that adds it, whatever its counts are.
abbrev pub ReadsBack : Rule → Type 0
ReadsBack r =
    IsTrue (list_all is_respellable r.actions) → (counts : RuleCounts) → AreCounts counts → edit_in (rule_text counts r) ≡ Ok (added r)
