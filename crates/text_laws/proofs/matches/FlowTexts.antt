-- A flow is read where its match is, and its list of actions.
use Rattle.std.proofs.Common.{◌≡◌, ℕ, true, List, [], ◌++◌, length, refl, sym, ap, ◌∙◌, append_assoc, Some, None, Ok}
use Rattle.std.specs.Prelude.{◌&&◌, nat_le, codes}
use Rattle.std.specs.List.{list_all}
use Rattle.std.proofs.lemmas.Bool.{and_parts}
use Rattle.spec_actions.specs.declared.action.OfAction.{OfAction}
use Rattle.spec_actions.specs.Sound.{is_sound}
use Rattle.spec_tables.specs.declared.edit_word.EditWord.{EditWord}
use Rattle.spec_tables.specs.Rules.{Match}
use Rattle.spec_flow_text.specs.Matches.{MatchText, uncommented, read_match}
use Rattle.spec_flow_text.specs.Actions.{read_actions, most_actions}
use Rattle.spec_flow_text.specs.Printed.{match_printed}
use Rattle.spec_flow_text.specs.Lines.{edit, edit_from}
use Rattle.text_laws.specs.Spelled.{is_spellable, has_goto_last, are_spellable}
use Rattle.text_laws.proofs.PlainValues.{plain_append}
use Rattle.text_laws.proofs.ValuesBack.{ReadValues}
use Rattle.text_laws.proofs.ListsBack.{uncommented_all, all_sound}
use Rattle.text_laws.specs.SpelledMatches.{IsSpellable}
use Rattle.text_laws.proofs.matches.LinesBack.{printed_plain}

pub spelled_sound : (actions : List OfAction) → are_spellable actions ≡ true → list_all is_sound actions ≡ true
spelled_sound actions h =
    let p = and_parts (nat_le (length actions) most_actions) (has_goto_last actions && list_all is_spellable actions) h in
    all_sound actions (and_parts (has_goto_last actions) (list_all is_spellable actions) p.1).1

-- what stands before the list of actions
abbrev pub before_list : List ℕ → Match → List ℕ
before_list front m = front ++ (match_printed m ++ codes ",actions=")

pub list_behind : (front : List ℕ) (m : Match) (list : List ℕ) → front ++ (match_printed m ++ (codes ",actions=" ++ list)) ≡ before_list front m ++ list
list_behind front m list =
    ap (λ t. front ++ t) (sym (append_assoc (match_printed m) (codes ",actions=") list)) ∙ sym (append_assoc front (match_printed m ++ codes ",actions=") list)

pub front_clean : ReadValues → (front : List ℕ) (m : Match) → uncommented front ≡ front → IsSpellable m → uncommented (before_list front m) ≡ before_list front m
front_clean r front m clean s = uncommented_all front (match_printed m ++ codes ",actions=") clean (plain_append (match_printed m) (codes ",actions=") (printed_plain r m s) refl)

pub flow_read : (word : EditWord) (at : ℕ) (line : List ℕ) (m : MatchText) (rest : ℕ) (actions : List OfAction) → read_match word at line ≡ Ok m → m.rest ≡ Some rest → read_actions rest line ≡ Ok actions
    → edit_from word at line ≡ Ok (edit word m actions)
unfolding edit_from
flow_read word at line m rest actions h e k = rw (h, e, k) refl

pub match_read_alone : (word : EditWord) (at : ℕ) (line : List ℕ) (m : MatchText) → read_match word at line ≡ Ok m → m.rest ≡ None → edit_from word at line ≡ Ok (edit word m [])
unfolding edit_from
match_read_alone word at line m h e = rw (h, e) refl
