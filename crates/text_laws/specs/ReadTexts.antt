-- What holds of all texts that are read alike, or of all that were read.
use Rattle.std.specs.Prelude.{◌≡◌, ℕ, ◌≤◌, Bool, List, ◌∷◌, ◌++◌, length, Ok, IsTrue}
use Rattle.spec_actions.specs.declared.action.OfAction.{OfAction}
use Rattle.spec_tables.specs.declared.edit_word.EditWord.{EditWord}
use Rattle.spec_tables.specs.Rules.{Match}
use Rattle.spec_flow_text.specs.Items.{is_separator, words}
use Rattle.spec_flow_text.specs.Matches.{MatchText, read_match}
use Rattle.spec_flow_text.specs.Actions.{read_actions}
use Rattle.text_laws.specs.Texts.{texts_of}
use Rattle.text_laws.specs.PlainItems.{is_item}

-- It holds of any two matches that were read, whatever else their lines have.
abbrev pub OfReadMatches : (Match → Match → Type 0) → Type 0
OfReadMatches claim =
    (one other : EditWord) (at place : ℕ) (line text : List ℕ) (t u : MatchText)
    → read_match one at line ≡ Ok t → read_match other place text ≡ Ok u → claim t.matching u.matching

-- It holds of any two lists of actions that were read.
abbrev pub OfReadActions : (List OfAction → List OfAction → Type 0) → Type 0
OfReadActions claim =
    (at place : ℕ) (line text : List ℕ) (actions others : List OfAction)
    → read_actions at line ≡ Ok actions → read_actions place text ≡ Ok others → claim actions others

-- It holds of any line in which two items stand side by side, and of the line in which they change places: there is a
-- separator in front of the two, between them and behind them, and the line is read from no place behind the first.
abbrev pub OfSwappedItems : (ℕ → List ℕ → List ℕ → Type 0) → Type 0
OfSwappedItems claim =
    (at : ℕ) (front one other back : List ℕ) (first second third : ℕ)
    → IsTrue (is_separator first) → IsTrue (is_separator second) → IsTrue (is_separator third)
    → IsTrue (is_item one) → IsTrue (is_item other) → at ≤ length front
    → claim at (front ++ first ∷ (one ++ second ∷ (other ++ third ∷ back)))
    (front ++ first ∷ (other ++ second ∷ (one ++ third ∷ back)))

-- Two texts have the same words between what separates them.
abbrev pub HaveSameWords : (ℕ → Bool) → List ℕ → List ℕ → Type 0
HaveSameWords separates text other =
    (fresh : Bool) (at : ℕ) → texts_of (words separates fresh at text) ≡ texts_of (words separates fresh at other)
