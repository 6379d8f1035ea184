-- What is read of a line is read of it with a separator at its end.
use Rattle.std.proofs.Common.{◌≡◌, ℕ, suc, ◌+◌, ◌<◌, ◌≤◌, ◌⊎◌, inl, inr, Bool, true, false, cond, List, [], ◌∷◌, ◌++◌, length, get_or, drop, refl, sym, ap, ◌∙◌, arith, Option, Some, None, Result, Ok, Err}
use Rattle.std.specs.Prelude.{not, ◌==◌, position}
use Rattle.std.specs.Char.{is_ascii}
use Rattle.std.specs.List.{prefix_len, before_first}
use Rattle.std.specs.Option.{option_map}
use Rattle.std.proofs.lemmas.Bool.{not_from_true, or_right, both_ways, cases_lt}
use Rattle.std.proofs.lemmas.List.{drop_more, get_or_past}
use Rattle.std.proofs.lemmas.Bool.Decides.{nat_tests}
use Rattle.spec_actions.specs.declared.action.OfAction.{OfAction}
use Rattle.spec_tables.specs.declared.edit_word.EditWord.{EditWord}
use Rattle.spec_tables.specs.declared.edit_word.EditWord.TheVariants.{Add}
use Rattle.spec_tables.specs.Edits.{Edit}
use Rattle.spec_flow_text.specs.Characters.{comma, number_sign}
use Rattle.spec_flow_text.specs.Numbers.{where_found}
use Rattle.spec_flow_text.specs.declared.fault.TextFault.{TextFault}
use Rattle.spec_flow_text.specs.declared.fault.TextFault.TheVariants.{Syntax}
use Rattle.spec_flow_text.specs.Names.{meaning_of}
use Rattle.spec_flow_text.specs.Items.{◌>>=◌, Word, Stated, Sofar, nothing_stated, is_separator, is_white, words, read_items, deletes}
use Rattle.spec_flow_text.specs.Matches.{MatchText, match_text, with_list, uncommented, text_or_fault, ascii_from, read_match}
use Rattle.spec_flow_text.specs.Actions.{items, read_actions}
use Rattle.spec_flow_text.specs.Actions as actions
use Rattle.spec_flow_text.specs.Lines.{edit_words, first_word, end_of, edit, actions_from, edit_from, edit_in}
use Rattle.text_laws.proofs.Cuts.{take_while-ended, take_while-more, position-cons, position-more, drop-more}
use Rattle.text_laws.proofs.CommentLaws.{match_of_text, actions_of_text, read_match-text, read_actions-text}
use Rattle.text_laws.proofs.Ends.{words-ended, read_items-ended}

-- a separator is ASCII
separator_ascii : (s : ℕ) → is_separator s ≡ true → not (is_ascii s) ≡ false
separator_ascii s e = grind (arith, nat_tests)

-- the fault of a text that isn't ASCII
abbrev pub ascii_text : ℕ → List ℕ → Result (List ℕ) TextFault
ascii_text at text = text_or_fault text (option_map (λ i. at + i + 1) (position (λ c. not (is_ascii c)) text))

abbrev pub list_of : ℕ → List ℕ → Result (List OfAction) TextFault
list_of at text = ascii_text at text >>= (λ t. actions.read_items [] (items [] true at t))

abbrev stated_by : EditWord → ℕ → List ℕ → Result Stated TextFault
stated_by word at text = ascii_text at text >>= (λ t. read_items word (words is_separator true at t) nothing_stated)

list_of-ended : (at : ℕ) (text : List ℕ) (s : ℕ) (list : List OfAction) → is_separator s ≡ true → list_of at text ≡ Ok list → list_of at (text ++ s ∷ []) ≡ Ok list
list_of-ended at text s list e h =
    rw (position-more (λ c. not (is_ascii c)) text s (separator_ascii s e)) (by_place (position (λ c. not (is_ascii c)) text) h)
  where
    by_place : (o : Option ℕ) → text_or_fault text (option_map (λ i. at + i + 1) o) >>= (λ t. actions.read_items [] (items [] true at t)) ≡ Ok list
        → text_or_fault (text ++ s ∷ []) (option_map (λ i. at + i + 1) o) >>= (λ t. actions.read_items [] (items [] true at t)) ≡ Ok list
    by_place None h = read_items-ended at text s list e h
    by_place (Some i) h = cc

stated_by-ended : (word : EditWord) (at : ℕ) (text : List ℕ) (s : ℕ) → is_separator s ≡ true → stated_by word at (text ++ s ∷ []) ≡ stated_by word at text
stated_by-ended word at text s e =
    rw (position-more (λ c. not (is_ascii c)) text s (separator_ascii s e)) (by_place (position (λ c. not (is_ascii c)) text))
  where
    by_place : (o : Option ℕ) → text_or_fault (text ++ s ∷ []) (option_map (λ i. at + i + 1) o) >>= (λ t. read_items word (words is_separator true at t) nothing_stated)
        ≡ text_or_fault text (option_map (λ i. at + i + 1) o) >>= (λ t. read_items word (words is_separator true at t) nothing_stated)
    by_place None = ap (λ ws. read_items word ws nothing_stated) (words-ended is_separator true at text s e)
    by_place (Some i) = refl

-- one more byte at the end of a line stands in a comment, or at the end of what is read
more_of : (line : List ℕ) (s : ℕ) → is_separator s ≡ true → (uncommented (line ++ s ∷ []) ≡ uncommented line) ⊎ (uncommented (line ++ s ∷ []) ≡ uncommented line ++ s ∷ [])
more_of line s e = take_while-more (λ c. not (c == number_sign)) line s (grind (arith, nat_tests))

pub actions-ended : (at : ℕ) (line : List ℕ) (s : ℕ) (list : List OfAction) → is_separator s ≡ true → read_actions at line ≡ Ok list → read_actions at (line ++ s ∷ []) ≡ Ok list
actions-ended at line s list e h = read_actions-text at (line ++ s ∷ []) ∙ by_comment (more_of line s e)
  where
    read : list_of at (drop at (uncommented line)) ≡ Ok list
    read = sym (read_actions-text at line) ∙ h

    by_place : (text : List ℕ) → list_of at (drop at text) ≡ Ok list → (drop at (text ++ s ∷ []) ≡ drop at text) ⊎ (drop at (text ++ s ∷ []) ≡ drop at text ++ s ∷ [])
        → list_of at (drop at (text ++ s ∷ [])) ≡ Ok list
    by_place text r (inl same) = ap (list_of at) same ∙ r
    by_place text r (inr more) = ap (list_of at) more ∙ list_of-ended at (drop at text) s list e r

    by_comment : (uncommented (line ++ s ∷ []) ≡ uncommented line) ⊎ (uncommented (line ++ s ∷ []) ≡ uncommented line ++ s ∷ []) → actions_of_text at (uncommented (line ++ s ∷ [])) ≡ Ok list
    by_comment (inl same) = ap (actions_of_text at) same ∙ read
    by_comment (inr more) = ap (actions_of_text at) more ∙ by_place (uncommented line) read (drop-more at (uncommented line) s)

-- ---- matches

abbrev listed : EditWord → ℕ → Stated → Result MatchText TextFault
listed word end s = with_list word end s.sofar s.list

-- where a match is read, the length of its text counts for nothing
listed-length : (word : EditWord) (end other : ℕ) (s : Sofar) (list : Option (ℕ × ℕ)) (m : MatchText) → with_list word end s list ≡ Ok m → with_list word other s list ≡ Ok m
listed-length word end other s (Some list) m h = h
listed-length word end other s None m h = by_word (deletes word) h
  where
    by_word : (t : Bool) → cond t (Ok (match_text s None)) (Err (Syntax (end + 1))) ≡ Ok m → cond t (Ok (match_text s None)) (Err (Syntax (other + 1))) ≡ Ok m
    by_word true h = h
    by_word false h = cc

any_length : (word : EditWord) (end other : ℕ) (r : Result Stated TextFault) (m : MatchText) → r >>= listed word end ≡ Ok m → r >>= listed word other ≡ Ok m
any_length word end other (Ok s) m h = listed-length word end other s.sofar s.list m h
any_length word end other (Err e) m h = cc

-- what a text states from a place on, with its end elsewhere
match_by : (word : EditWord) (at : ℕ) (text : List ℕ) → match_of_text word at text ≡ stated_by word at (drop at text) >>= listed word (length text)
match_by word at text = by_text (ascii_from at text)
  where
    by_text : (r : Result (List ℕ) TextFault) → r >>= (λ t. read_items word (words is_separator true at t) nothing_stated >>= listed word (length text))
        ≡ r >>= (λ t. read_items word (words is_separator true at t) nothing_stated) >>= listed word (length text)
    by_text (Ok t) = refl
    by_text (Err e) = refl

pub match-ended : (word : EditWord) (at : ℕ) (line : List ℕ) (s : ℕ) (m : MatchText) → is_separator s ≡ true → read_match word at line ≡ Ok m → read_match word at (line ++ s ∷ []) ≡ Ok m
match-ended word at line s m e h = read_match-text word at (line ++ s ∷ []) ∙ by_comment (more_of line s e)
  where
    read : match_of_text word at (uncommented line) ≡ Ok m
    read = sym (read_match-text word at line) ∙ h

    stated : (text : List ℕ) → (drop at (text ++ s ∷ []) ≡ drop at text) ⊎ (drop at (text ++ s ∷ []) ≡ drop at text ++ s ∷ [])
        → stated_by word at (drop at (text ++ s ∷ [])) ≡ stated_by word at (drop at text)
    stated text (inl same) = ap (stated_by word at) same
    stated text (inr more) = ap (stated_by word at) more ∙ stated_by-ended word at (drop at text) s e

    longer : (text : List ℕ) → match_of_text word at text ≡ Ok m → match_of_text word at (text ++ s ∷ []) ≡ Ok m
    longer text r =
        match_by word at (text ++ s ∷ []) ∙ ap (λ t. t >>= listed word (length (text ++ s ∷ []))) (stated text (drop-more at text s))
        ∙ any_length word (length text) (length (text ++ s ∷ [])) (stated_by word at (drop at text)) m (sym (match_by word at text) ∙ r)

    by_comment : (uncommented (line ++ s ∷ []) ≡ uncommented line) ⊎ (uncommented (line ++ s ∷ []) ≡ uncommented line ++ s ∷ []) → match_of_text word at (uncommented (line ++ s ∷ [])) ≡ Ok m
    by_comment (inl same) = ap (match_of_text word at) same ∙ read
    by_comment (inr more) = ap (match_of_text word at) more ∙ longer (uncommented line) read

-- ---- edits

-- actions that are read after a match
abbrev IsEdit : EditWord → List ℕ → MatchText → Edit → Type 0
IsEdit word line m e = actions_from m.rest line >>= (λ list. Ok (edit word m list)) ≡ Ok e

rest-ended : (word : EditWord) (m : MatchText) (rest : Option ℕ) (line : List ℕ) (s : ℕ) (e : Edit) → is_separator s ≡ true
    → actions_from rest line >>= (λ list. Ok (edit word m list)) ≡ Ok e → actions_from rest (line ++ s ∷ []) >>= (λ list. Ok (edit word m list)) ≡ Ok e
rest-ended word m None line s e sep h = h
rest-ended word m (Some at) line s e sep h = by_list (read_actions at line) refl h
  where
    by_list : (r : Result (List OfAction) TextFault) → read_actions at line ≡ r → r >>= (λ list. Ok (edit word m list)) ≡ Ok e
        → read_actions at (line ++ s ∷ []) >>= (λ list. Ok (edit word m list)) ≡ Ok e
    by_list (Ok list) is h = ap (λ r. r >>= (λ l. Ok (edit word m l))) (actions-ended at line s list sep is) ∙ h
    by_list (Err f) is h = cc

edit_from-ended : (word : EditWord) (at : ℕ) (line : List ℕ) (s : ℕ) (e : Edit) → is_separator s ≡ true → edit_from word at line ≡ Ok e → edit_from word at (line ++ s ∷ []) ≡ Ok e
unfolding edit_from
edit_from-ended word at line s e sep h = by_match (read_match word at line) refl h
  where
    by_match : (r : Result MatchText TextFault) → read_match word at line ≡ r → r >>= (λ m. actions_from m.rest line >>= (λ list. Ok (edit word m list))) ≡ Ok e
        → read_match word at (line ++ s ∷ []) >>= (λ m. actions_from m.rest (line ++ s ∷ []) >>= (λ list. Ok (edit word m list))) ≡ Ok e
    by_match (Ok m) is h =
        ap (λ r. r >>= (λ x. actions_from x.rest (line ++ s ∷ []) >>= (λ list. Ok (edit word x list)))) (match-ended word at line s m sep is)
        ∙ rest-ended word m m.rest line s e sep h
    by_match (Err f) is h = cc

-- the first word of a text, with white space after the text
abbrev SameFirst : List ℕ → List ℕ → Type 0
SameFirst longer text = (first_word longer ≡ first_word text) ⊎ (((first_word longer).text ≡ []) × ((first_word text).text ≡ []))

after_white : (c : ℕ) (cs : List ℕ) → is_white c ≡ true → first_word (c ∷ cs) ≡ record { at = 1 + (first_word cs).at; text = (first_word cs).text }
after_white c cs e =
    let one : 1 + prefix_len is_white cs ≡ suc (prefix_len is_white cs) = omega arith in
    rw (e, one) refl

at_start : (c : ℕ) (cs : List ℕ) → is_white c ≡ false → first_word (c ∷ cs) ≡ record { at = 0; text = before_first is_white (c ∷ cs) }
at_start c cs e =
    let none : prefix_len is_white (c ∷ cs) ≡ 0 = rw e refl in
    ap (λ n. record { at = n; text = before_first is_white (drop n (c ∷ cs)) }) none

first_word-ended : (text : List ℕ) (s : ℕ) → is_white s ≡ true → SameFirst (text ++ s ∷ []) text
first_word-ended [] s e = inr (ap (λ (w : Word). w.text) (after_white s [] e), refl)
first_word-ended (c ∷ cs) s e = by_test (is_white c) refl (first_word-ended cs s e)
  where
    by_test : (t : Bool) → is_white c ≡ t → SameFirst (cs ++ s ∷ []) cs → SameFirst (c ∷ cs ++ s ∷ []) (c ∷ cs)
    by_test true is (inl same) = inl (after_white c (cs ++ s ∷ []) is ∙ (ap (λ (w : Word). record { at = 1 + w.at; text = w.text }) same ∙ sym (after_white c cs is)))
    by_test true is (inr none) =
        inr (ap (λ (w : Word). w.text) (after_white c (cs ++ s ∷ []) is) ∙ none.0, ap (λ (w : Word). w.text) (after_white c cs is) ∙ none.1)
    by_test false is ih =
        inl (
        at_start c (cs ++ s ∷ []) is
        ∙ (ap (λ text. record { at = 0; text = text }) (take_while-ended (λ x. not (is_white x)) (c ∷ cs) [] s (not_from_true (is_white s) e)) ∙ sym (at_start c cs is))
        )

-- the edit of a line, by a text without a comment
abbrev edit_by : List ℕ → (EditWord → ℕ → Result Edit TextFault) → Result Edit TextFault
edit_by text read = where_found (meaning_of edit_words (first_word text).text) (λ word. read word (end_of (first_word text))) (read Add 0)

edit_in-by : (line : List ℕ) → edit_in line ≡ edit_by (uncommented line) (λ word at. edit_from word at line)
unfolding edit_in
edit_in-by line = refl

same_first : (longer text line : List ℕ) → SameFirst longer text → edit_by longer (λ word at. edit_from word at line) ≡ edit_by text (λ word at. edit_from word at line)
same_first longer text line (inl same) = ap (λ (w : Word). where_found (meaning_of edit_words w.text) (λ word. edit_from word (end_of w) line) (edit_from Add 0 line)) same
same_first longer text line (inr none) = rw (none.0, none.1) refl

separates : (s : ℕ) → is_white s ≡ true → is_separator s ≡ true
separates s e = or_right (s == comma) (is_white s) e

by_word : (o : Option EditWord) (at : ℕ) (line : List ℕ) (s : ℕ) (e : Edit) → is_separator s ≡ true → where_found o (λ word. edit_from word at line) (edit_from Add 0 line) ≡ Ok e
    → where_found o (λ word. edit_from word at (line ++ s ∷ [])) (edit_from Add 0 (line ++ s ∷ [])) ≡ Ok e
by_word None at line s e sep h = edit_from-ended Add 0 line s e sep h
by_word (Some word) at line s e sep h = edit_from-ended word at line s e sep h

pub edit-ended : (line : List ℕ) (s : ℕ) (e : Edit) → is_white s ≡ true → edit_in line ≡ Ok e → edit_in (line ++ s ∷ []) ≡ Ok e
edit-ended line s e white h =
    let w = first_word (uncommented line) in
    edit_in-by (line ++ s ∷ [])
    ∙ (by_comment (more_of line s (separates s white)) ∙ by_word (meaning_of edit_words w.text) (end_of w) line s e (separates s white) (sym (edit_in-by line) ∙ h))
  where
    by_comment : (uncommented (line ++ s ∷ []) ≡ uncommented line) ⊎ (uncommented (line ++ s ∷ []) ≡ uncommented line ++ s ∷ [])
        → edit_by (uncommented (line ++ s ∷ [])) (λ word at. edit_from word at (line ++ s ∷ [])) ≡ edit_by (uncommented line) (λ word at. edit_from word at (line ++ s ∷ []))
    by_comment (inl same) = ap (λ text. edit_by text (λ word at. edit_from word at (line ++ s ∷ []))) same
    by_comment (inr more) =
        ap (λ text. edit_by text (λ word at. edit_from word at (line ++ s ∷ []))) more
        ∙ same_first (uncommented line ++ s ∷ []) (uncommented line) (line ++ s ∷ []) (first_word-ended (uncommented line) s white)

-- ---- separators in front

-- a place that has a separator
from_place : (at : ℕ) (text : List ℕ) → is_separator (get_or text at 0) ≡ true → drop at text ≡ get_or text at 0 ∷ drop (at + 1) text
from_place at text e = by_place (cases_lt at (length text))
  where
    by_place : (at < length text) ⊎ (length text ≤ at) → drop at text ≡ get_or text at 0 ∷ drop (at + 1) text
    by_place (inl within) = drop_more text at 0 within
    by_place (inr past) = absurd (both_ways (is_separator 0) refl (rw (get_or_past text at 0 past) at e))

ascii_after : (at c : ℕ) (text : List ℕ) → is_separator c ≡ true
    → option_map (λ i. at + i + 1) (position (λ x. not (is_ascii x)) (c ∷ text)) ≡ option_map (λ i. at + 1 + i + 1) (position (λ x. not (is_ascii x)) text)
ascii_after at c text e =
    ap (option_map (λ i. at + i + 1)) (position-cons (λ x. not (is_ascii x)) c text) ∙ (rw (separator_ascii c e) (by_place (position (λ x. not (is_ascii x)) text)))
  where
    by_place : (o : Option ℕ) → option_map (λ i. at + i + 1) (option_map (λ i. 1 + i) o) ≡ option_map (λ i. at + 1 + i + 1) o
    by_place None = refl
    by_place (Some i) = let same : at + (1 + i) + 1 ≡ at + 1 + i + 1 = omega arith in rw same refl

words-after : (at c : ℕ) (text : List ℕ) → is_separator c ≡ true → words is_separator true at (c ∷ text) ≡ words is_separator true (at + 1) text
unfolding words
words-after at c text e = rw e refl

items-after : (at c : ℕ) (text : List ℕ) → is_separator c ≡ true → items [] true at (c ∷ text) ≡ items [] true (at + 1) text
unfolding items
items-after at c text e = rw e refl

stated_by-after : (word : EditWord) (at c : ℕ) (text : List ℕ) → is_separator c ≡ true → stated_by word at (c ∷ text) ≡ stated_by word (at + 1) text
stated_by-after word at c text e = rw (ascii_after at c text e) (by_place (option_map (λ i. at + 1 + i + 1) (position (λ x. not (is_ascii x)) text)))
  where
    by_place : (o : Option ℕ) → text_or_fault (c ∷ text) o >>= (λ t. read_items word (words is_separator true at t) nothing_stated)
        ≡ text_or_fault text o >>= (λ t. read_items word (words is_separator true (at + 1) t) nothing_stated)
    by_place None = ap (λ ws. read_items word ws nothing_stated) (words-after at c text e)
    by_place (Some i) = refl

list_of-after : (at c : ℕ) (text : List ℕ) → is_separator c ≡ true → list_of at (c ∷ text) ≡ list_of (at + 1) text
list_of-after at c text e = rw (ascii_after at c text e) (by_place (option_map (λ i. at + 1 + i + 1) (position (λ x. not (is_ascii x)) text)))
  where
    by_place : (o : Option ℕ) → text_or_fault (c ∷ text) o >>= (λ t. actions.read_items [] (items [] true at t))
        ≡ text_or_fault text o >>= (λ t. actions.read_items [] (items [] true (at + 1) t))
    by_place None = ap (actions.read_items []) (items-after at c text e)
    by_place (Some i) = refl

pub match-skipped : (word : EditWord) (at : ℕ) (line : List ℕ) → is_separator (get_or (uncommented line) at 0) ≡ true → read_match word at line ≡ read_match word (at + 1) line
match-skipped word at line e =
    read_match-text word at line
    ∙ match_by word at (uncommented line)
    ∙ ap (λ s. s >>= listed word (length (uncommented line)))
    (ap (stated_by word at) (from_place at (uncommented line) e) ∙ stated_by-after word at (get_or (uncommented line) at 0) (drop (at + 1) (uncommented line)) e)
    ∙ sym (match_by word (at + 1) (uncommented line))
    ∙ sym (read_match-text word (at + 1) line)

pub actions-skipped : (at : ℕ) (line : List ℕ) → is_separator (get_or (uncommented line) at 0) ≡ true → read_actions at line ≡ read_actions (at + 1) line
actions-skipped at line e =
    read_actions-text at line
    ∙ ap (list_of at) (from_place at (uncommented line) e)
    ∙ list_of-after at (get_or (uncommented line) at 0) (drop (at + 1) (uncommented line)) e
    ∙ sym (read_actions-text (at + 1) line)
