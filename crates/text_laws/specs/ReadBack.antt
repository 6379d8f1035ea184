-- What is printed and reads back as what it was printed of, on any line: behind any front that has no comment.
use Rattle.std.specs.Prelude.{◌≡◌, ℕ, Bool, not, List, [], ◌∷◌, ◌++◌, length, Some, None, Ok, IsTrue, codes}
use Rattle.spec_actions.specs.declared.action.OfAction.{OfAction}
use Rattle.spec_tables.specs.declared.edit_word.EditWord.{EditWord}
use Rattle.spec_tables.specs.Rules.{Match}
use Rattle.spec_flow_text.specs.Items.{deletes}
use Rattle.spec_flow_text.specs.Matches.{MatchText, uncommented, read_match}
use Rattle.spec_flow_text.specs.Actions.{actions_of_item, read_actions}
use Rattle.spec_flow_text.specs.Printed.{match_printed, action_text, actions_printed}
use Rattle.spec_flow_text.specs.Lines.{edit, edit_from}
use Rattle.text_laws.specs.SpelledMatches.{match_alone}

-- a printed match, and a list of actions behind it
abbrev pub with_list : Match → List ℕ → List ℕ
with_list m list = match_printed m ++ (codes ",actions=" ++ list)

-- what is read there of the match, behind this front: it alone, and where the list begins
abbrev pub match_of_list : List ℕ → Match → MatchText
match_of_list front m = match_alone m (Some (length (front ++ (match_printed m ++ codes ",actions="))))

-- A printed match reads back alone, after a word that deletes.
abbrev pub MatchReadsBack : Match → Type 0
MatchReadsBack m =
    (word : EditWord) (front : List ℕ) → IsTrue (deletes word) → uncommented front ≡ front
    → read_match word (length front) (front ++ match_printed m) ≡ Ok (match_alone m None)

-- It reads back before a list of actions, after another word.
abbrev pub MatchReadsBackBefore : List ℕ → Match → Type 0
MatchReadsBackBefore list m =
    (word : EditWord) (front : List ℕ) → IsTrue (not (deletes word)) → uncommented front ≡ front
    → read_match word (length front) (front ++ with_list m list) ≡ Ok (match_of_list front m)

-- A printed list of actions reads back.
abbrev pub ActionsReadBack : List OfAction → Type 0
ActionsReadBack actions =
    (front : List ℕ) → uncommented front ≡ front
    → read_actions (length front) (front ++ actions_printed actions) ≡ Ok actions

-- A printed flow, which is a match and actions, reads back as that flow, after a word that doesn't delete.
abbrev pub FlowReadsBack : Match → List OfAction → Type 0
FlowReadsBack m actions =
    (word : EditWord) (front : List ℕ) → IsTrue (not (deletes word)) → uncommented front ≡ front
    → edit_from word (length front) (front ++ with_list m (actions_printed actions))
    ≡ Ok (edit word (match_of_list front m) actions)

-- A printed match reads back as the edit that deletes its flows, after a word that deletes.
abbrev pub DeletionReadsBack : Match → Type 0
DeletionReadsBack m =
    (word : EditWord) (front : List ℕ) → IsTrue (deletes word) → uncommented front ≡ front
    → edit_from word (length front) (front ++ match_printed m) ≡ Ok (edit word (match_alone m None) [])

-- A printed action reads back from an item of a list, wherever that stands: as its only item or not, its last or not.
abbrev pub ActionReadsBack : Bool → Bool → OfAction → Type 0
ActionReadsBack only last action =
    (place : ℕ) → actions_of_item only last (record { at = place; text = action_text action }) ≡ Ok (action ∷ [])
