-- An edit that is read has a match that was read, and a list of actions that was read, or none.
use Rattle.std.proofs.Common.{◌≡◌, ℕ, true, List, [], refl, subst, ap, ◌∙◌, Option, Some, None, Ok}
use Rattle.std.specs.List.{list_all}
use Rattle.spec_actions.specs.declared.action.OfAction.{OfAction}
use Rattle.spec_tables.specs.declared.edit_word.EditWord.{EditWord}
use Rattle.spec_tables.specs.declared.edit_word.EditWord.TheVariants.{Add}
use Rattle.spec_tables.specs.Edits.{Edit}
use Rattle.spec_flow_text.specs.Numbers.{where_found}
use Rattle.spec_flow_text.specs.Names.{meaning_of}
use Rattle.spec_flow_text.specs.Matches.{MatchText, uncommented, read_match}
use Rattle.spec_flow_text.specs.Actions.{is_respellable, read_actions}
use Rattle.spec_flow_text.specs.Lines.{edit_words, first_word, end_of, edit, actions_from, edit_from, edit_in}
use Rattle.text_laws.specs.Spelled.{are_spellable}
use Rattle.text_laws.specs.SpelledMatches.{IsSpellable}
use Rattle.text_laws.proofs.round_trips.LinesRead.{ok_chained}

-- the match and the actions of an edit, as they were read
pub record IsEditOf (line : List ℕ) (e : Edit) (word : EditWord) (at : ℕ) (m : MatchText) : Type 0 where
  pub match_read : read_match word at line ≡ Ok m
  pub actions_read : actions_from m.rest line ≡ Ok e.actions
  pub matching : m.matching ≡ e.matching

from_place : (word : EditWord) (at : ℕ) (line : List ℕ) (e : Edit) → edit_from word at line ≡ Ok e → (m : MatchText) × IsEditOf line e word at m
unfolding edit_from
from_place word at line e h =
    let m = ok_chained (read_match word at line) _ e h in
    let actions = ok_chained (actions_from m.0.rest line) (λ actions. Ok (edit word m.0 actions)) e m.2 in
    let same : edit word m.0 actions.0 ≡ e = cc in
    (m.0, record { match_read = m.1; actions_read = actions.1 ∙ ap (λ (x : Edit). Ok x.actions) same; matching = ap (λ (x : Edit). x.matching) same })

pub edit_parts : (line : List ℕ) (e : Edit) → edit_in line ≡ Ok e → (word : EditWord) × (at : ℕ) × (m : MatchText) × IsEditOf line e word at m
unfolding edit_in
edit_parts line e h = by_word (meaning_of edit_words (first_word (uncommented line)).text) h
  where
    by_word : (o : Option EditWord) → where_found o (λ word. edit_from word (end_of (first_word (uncommented line))) line) (edit_from Add 0 line) ≡ Ok e → (word : EditWord) × (at : ℕ) × (m : MatchText) × IsEditOf line e word at m
    by_word None h = let p = from_place Add 0 line e h in (Add, 0, p.0, p.1)
    by_word (Some word) h = let p = from_place word (end_of (first_word (uncommented line))) line e h in (word, end_of (first_word (uncommented line)), p.0, p.1)

pub edit_matching : ((word : EditWord) (at : ℕ) (line : List ℕ) (t : MatchText) → read_match word at line ≡ Ok t → IsSpellable t.matching) → (line : List ℕ) (e : Edit) → edit_in line ≡ Ok e → IsSpellable e.matching
edit_matching spelled line e h = let p = edit_parts line e h in subst IsSpellable p.3.matching (spelled p.0 p.1 line p.2 p.3.match_read)

pub edit_actions : ((at : ℕ) (line : List ℕ) (actions : List OfAction) → read_actions at line ≡ Ok actions → list_all is_respellable actions ≡ true → are_spellable actions ≡ true)
    → (line : List ℕ) (e : Edit) → edit_in line ≡ Ok e → list_all is_respellable e.actions ≡ true → are_spellable e.actions ≡ true
edit_actions spelled line e h again = let p = edit_parts line e h in by_list p.2.rest p.3.actions_read
  where
    by_list : (o : Option ℕ) → actions_from o line ≡ Ok e.actions → are_spellable e.actions ≡ true
    by_list None h = let none : [] ≡ e.actions = cc in subst (λ xs. are_spellable xs ≡ true) none refl
    by_list (Some rest) h = spelled rest line e.actions h again
