-- What is read of a line is read of the line without its comment.
use Rattle.std.proofs.Common.{◌≡◌, ℕ, true, List, [], ◌∷◌, ◌++◌, length, refl, ap, ◌∙◌, Option, Some, None, Result, Ok, Err}
use Rattle.std.specs.Prelude.{not, ◌==◌}
use Rattle.spec_actions.specs.declared.action.OfAction.{OfAction}
use Rattle.spec_tables.specs.declared.edit_word.EditWord.{EditWord}
use Rattle.spec_tables.specs.declared.edit_word.EditWord.TheVariants.{Add}
use Rattle.spec_tables.specs.Edits.{Edit}
use Rattle.spec_flow_text.specs.Characters.{number_sign}
use Rattle.spec_flow_text.specs.Numbers.{where_found}
use Rattle.spec_flow_text.specs.declared.fault.TextFault.{TextFault}
use Rattle.spec_flow_text.specs.Names.{meaning_of}
use Rattle.spec_flow_text.specs.Items.{◌>>=◌, nothing_stated, is_separator, words, read_items}
use Rattle.spec_flow_text.specs.Matches.{MatchText, with_list, uncommented, ascii_from, read_match}
use Rattle.spec_flow_text.specs.Actions.{items, read_actions}
use Rattle.spec_flow_text.specs.Actions as actions
use Rattle.spec_flow_text.specs.Lines.{edit_words, first_word, end_of, edit, actions_from, edit_from, edit_in}
use Rattle.text_laws.proofs.Cuts.{take_while-ended}

pub uncommented-comment : (line comment : List ℕ) → uncommented (line ++ number_sign ∷ comment) ≡ uncommented line
uncommented-comment line comment = take_while-ended (λ c. not (c == number_sign)) line comment number_sign refl

-- the match and the actions of a text without a comment
abbrev pub match_of_text : EditWord → ℕ → List ℕ → Result MatchText TextFault
match_of_text word at text =
    ascii_from at text >>= (λ t. read_items word (words is_separator true at t) nothing_stated >>= (λ s. with_list word (length text) s.sofar s.list))

abbrev pub actions_of_text : ℕ → List ℕ → Result (List OfAction) TextFault
actions_of_text at text = ascii_from at text >>= (λ t. actions.read_items [] (items [] true at t))

pub read_match-text : (word : EditWord) (at : ℕ) (line : List ℕ) → read_match word at line ≡ match_of_text word at (uncommented line)
unfolding read_match
read_match-text word at line = refl

pub read_actions-text : (at : ℕ) (line : List ℕ) → read_actions at line ≡ actions_of_text at (uncommented line)
unfolding read_actions
read_actions-text at line = refl

pub match-comment : (word : EditWord) (at : ℕ) (line comment : List ℕ) → read_match word at (line ++ number_sign ∷ comment) ≡ read_match word at line
unfolding read_match
match-comment word at line comment = ap (match_of_text word at) (uncommented-comment line comment)

pub actions-comment : (at : ℕ) (line comment : List ℕ) → read_actions at (line ++ number_sign ∷ comment) ≡ read_actions at line
unfolding read_actions
actions-comment at line comment = ap (actions_of_text at) (uncommented-comment line comment)

rest_of : (rest : Option ℕ) (line comment : List ℕ) → actions_from rest (line ++ number_sign ∷ comment) ≡ actions_from rest line
rest_of None line comment = refl
rest_of (Some at) line comment = actions-comment at line comment

with_rest : (word : EditWord) (m : Result MatchText TextFault) (line comment : List ℕ)
    → m >>= (λ t. actions_from t.rest (line ++ number_sign ∷ comment) >>= (λ list. Ok (edit word t list))) ≡ m >>= (λ t. actions_from t.rest line >>= (λ list. Ok (edit word t list)))
with_rest word (Ok t) line comment = ap (λ list. list >>= (λ l. Ok (edit word t l))) (rest_of t.rest line comment)
with_rest word (Err e) line comment = refl

edit_from-comment : (word : EditWord) (at : ℕ) (line comment : List ℕ) → edit_from word at (line ++ number_sign ∷ comment) ≡ edit_from word at line
unfolding edit_from
edit_from-comment word at line comment =
    with_rest word (read_match word at (line ++ number_sign ∷ comment)) line comment
    ∙ ap (λ m. m >>= (λ t. actions_from t.rest line >>= (λ list. Ok (edit word t list)))) (match-comment word at line comment)

-- the word of an edit, by a text without a comment
abbrev edit_by : List ℕ → (EditWord → ℕ → Result Edit TextFault) → Result Edit TextFault
edit_by text read = where_found (meaning_of edit_words (first_word text).text) (λ word. read word (end_of (first_word text))) (read Add 0)

by_word : (o : Option EditWord) (at : ℕ) (line comment : List ℕ)
    → where_found o (λ word. edit_from word at (line ++ number_sign ∷ comment)) (edit_from Add 0 (line ++ number_sign ∷ comment)) ≡ where_found o (λ word. edit_from word at line) (edit_from Add 0 line)
by_word None at line comment = edit_from-comment Add 0 line comment
by_word (Some word) at line comment = edit_from-comment word at line comment

pub edit-comment : (line comment : List ℕ) → edit_in (line ++ number_sign ∷ comment) ≡ edit_in line
unfolding edit_in
edit-comment line comment =
    ap (λ text. edit_by text (λ word at. edit_from word at (line ++ number_sign ∷ comment))) (uncommented-comment line comment)
    ∙ by_word (meaning_of edit_words (first_word (uncommented line)).text) (end_of (first_word (uncommented line))) line comment
