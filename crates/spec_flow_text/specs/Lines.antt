-- A line that edits the tables (ovs-ofctl(8), `add-flow`, `mod-flows`, `del-flows`): what is done with its flow stands as
-- a word before it.
use Rattle.std.specs.Prelude.{ℕ, ◌+◌, List, [], ◌∷◌, length, drop, Option, Some, None, Result, Ok, codes}
use Rattle.std.specs.List.{prefix_len, before_first}
use Rattle.spec_actions.specs.declared.action.OfAction.{OfAction}
use Rattle.spec_tables.specs.declared.edit_word.EditWord.{EditWord}
use Rattle.spec_tables.specs.declared.edit_word.EditWord.TheVariants.{Add, Modify, ModifyStrict, Delete, DeleteStrict}
use Rattle.spec_tables.specs.Edits.{Edit}
use Rattle.spec_flow_text.specs.Numbers.{where_found}
use Rattle.spec_flow_text.specs.declared.fault.TextFault.{TextFault}
use Rattle.spec_flow_text.specs.Names.{meaning_of}
use Rattle.spec_flow_text.specs.Items.{◌>>=◌, Word, is_white}
use Rattle.spec_flow_text.specs.Matches.{MatchText, read_match, uncommented}
use Rattle.spec_flow_text.specs.Actions.{read_actions}

-- the words of edits; a line without one adds
abbrev pub edit_words : List (List ℕ × EditWord)
edit_words =
    (codes "add", Add) ∷ (codes "modify", Modify) ∷ (codes "modify_strict", ModifyStrict) ∷ (codes "delete", Delete) ∷
    (codes "delete_strict", DeleteStrict) ∷ []

-- the first word of a text, which white space ends
abbrev pub first_word : List ℕ → Word
first_word text =
    record { at = prefix_len is_white text; text = before_first is_white (drop (prefix_len is_white text) text) }

abbrev pub end_of : Word → ℕ
end_of w = w.at + length w.text

abbrev pub edit : EditWord → MatchText → List OfAction → Edit
edit word m actions = record {
  word = word;
  table = m.table;
  priority = m.priority;
  cookie = m.cookie;
  matching = m.matching;
  actions = actions;
}

-- the actions of a flow, where it has a list of them
abbrev pub actions_from : Option ℕ → List ℕ → Result (List OfAction) TextFault
actions_from None line = Ok []
actions_from (Some rest) line = read_actions rest line

-- the edit of this word whose flow stands in a line from a place on
unfoldable pub edit_from : EditWord → ℕ → List ℕ → Result Edit TextFault
edit_from word at line = do
  m ← read_match word at line
  actions ← actions_from m.rest line
  Ok (edit word m actions)

-- the edit of a line
unfoldable pub edit_in : List ℕ → Result Edit TextFault
edit_in line =
    where_found (meaning_of edit_words (first_word (uncommented line)).text)
    (λ word. edit_from word (end_of (first_word (uncommented line))) line)
    (edit_from Add 0 line)
