-- A line with the print of a match that can be spelled is read as that match.
use Rattle.std.proofs.Common.{◌≡◌, ℕ, ◌+◌, ◌-◌, Bool, true, false, List, [], ◌∷◌, ◌++◌, length, refl, sym, subst, ap, ◌∙◌, arith, Some, None, Ok}
use Rattle.std.specs.Prelude.{not, codes, map}
use Rattle.std.specs.List.{list_all, take_while}
use Rattle.std.proofs.Math.Seq.{drop-append_seam}
use Rattle.std.proofs.lemmas.Bool.{and_parts, and_from}
use Rattle.std.proofs.lemmas.List.Sums.{take_while-cons}
use Rattle.spec_tables.specs.declared.edit_word.EditWord.{EditWord}
use Rattle.spec_tables.specs.Rules.{Match}
use Rattle.spec_flow_text.specs.Characters.{comma}
use Rattle.spec_flow_text.specs.declared.part.Part.{Part}
use Rattle.spec_flow_text.specs.Items.{◌>>=◌, Word, is_separator, words, column, list_start, read_items, deletes}
use Rattle.spec_flow_text.specs.Matches.{with_list, uncommented, read_match}
use Rattle.spec_flow_text.specs.Printed.{Shown, shown_text, shown, match_printed}
use Rattle.text_laws.specs.Texts.{is_plain}
use Rattle.text_laws.proofs.CommentLaws.{match_of_text, read_match-text}
use Rattle.text_laws.proofs.PlainValues.{IsPlain, plain_append, joined_plain}
use Rattle.text_laws.proofs.Ends.{words-cons, words-none, words-ended}
use Rattle.text_laws.proofs.ItemTexts.{item_at}
use Rattle.text_laws.proofs.ValuesBack.{ReadValues}
use Rattle.text_laws.proofs.ListsBack.{uncommented_all, all_ascii}
use Rattle.text_laws.specs.SpelledMatches.{IsSpellable, match_alone}
use Rattle.text_laws.proofs.matches.ItemsBack.{holding}
use Rattle.text_laws.proofs.matches.WordsBack.{all_parts, AreReadable, text_of, items_read}
use Rattle.text_laws.proofs.matches.MatchesBack.{shown_readable, shown_parts}

-- ---- words

printed_text : (m : Match) → match_printed m ≡ text_of (shown m)
unfolding match_printed
printed_text m = refl

abbrev parts_in : Match → List Part
parts_in m = all_parts (shown m)

-- what stands after the items is read as what follows their parts
items_first : ReadValues → (word : EditWord) (at : ℕ) (m : Match) (rest : List ℕ) → IsSpellable m
    → read_items word (words is_separator true at (match_printed m ++ comma ∷ rest)) (holding []) ≡ read_items word (words is_separator true (at + length (match_printed m) + 1) rest) (holding (parts_in m))
items_first r word at m rest s =
    subst (λ text. read_items word (words is_separator true at (text ++ comma ∷ rest)) (holding []) ≡ read_items word (words is_separator true (at + length text + 1) rest) (holding (parts_in m))) (sym (printed_text m))
    (items_read word at (shown m) [] rest (shown_readable r m s) (shown_parts r m s).0)

nothing_more : (word : EditWord) (at : ℕ) (ps : List Part) → read_items word (words is_separator true at []) (holding ps) ≡ Ok (record { sofar = holding ps; list = None })
unfolding read_items
nothing_more word at ps = ap (λ ws. read_items word ws (holding ps)) (words-none is_separator true at)

items_alone : ReadValues → (word : EditWord) (at : ℕ) (m : Match) → IsSpellable m
    → read_items word (words is_separator true at (match_printed m)) (holding []) ≡ Ok (record { sofar = holding (parts_in m); list = None })
items_alone r word at m s =
    ap (λ ws. read_items word ws (holding [])) (sym (words-ended is_separator true at (match_printed m) comma refl))
    ∙ items_first r word at m [] s
    ∙ nothing_more word (at + length (match_printed m) + 1) (parts_in m)

-- ---- the list of actions

abbrev pub list_name : List ℕ
list_name = codes "actions="

pub front_passes : (p : ℕ → Bool) (xs ys : List ℕ) → list_all p xs ≡ true → take_while p (xs ++ ys) ≡ xs ++ take_while p ys
front_passes p [] ys h = refl
front_passes p (x ∷ xs) ys h =
    let k = and_parts (p x) (list_all p xs) h in
    take_while-cons p x (xs ++ ys) ∙ (rw k.0 (ap (λ t. x ∷ t) (front_passes p xs ys k.1)))

list_begins : (at : ℕ) (text : List ℕ) → list_start (item_at at (list_name ++ text)) ≡ Some (at + 8)
list_begins at text = let same : at + length (list_name ++ text) - length text ≡ at + 8 = omega arith in ap Some same

at_list : (word : EditWord) (w : Word) (ws : List Word) (ps : List Part) (rest : ℕ) → list_start w ≡ Some rest → read_items word (w ∷ ws) (holding ps) ≡ Ok (record { sofar = holding ps; list = Some (column w, rest) })
unfolding read_items
at_list word w ws ps rest h = rw h refl

list_read : (word : EditWord) (at : ℕ) (text : List ℕ) (ps : List Part)
    → read_items word (words is_separator true at (list_name ++ text)) (holding ps) ≡ Ok (record { sofar = holding ps; list = Some (at + 1, at + 8) })
list_read word at text ps =
    let front = take_while (λ c. not (is_separator c)) text in
    let whole = front_passes (λ c. not (is_separator c)) list_name text refl in
    let first = words-cons is_separator true at 97 (codes "ctions=" ++ text) ∙ ap (λ t. item_at at t ∷ words is_separator false (at + 1) (codes "ctions=" ++ text)) whole in
    ap (λ ws. read_items word ws (holding ps)) first ∙ at_list word (item_at at (list_name ++ front)) (words is_separator false (at + 1) (codes "ctions=" ++ text)) ps (at + 8) (list_begins at front)

-- ---- lines

all_plain : (xs : List Shown) → AreReadable xs → list_all is_plain (map shown_text xs) ≡ true
all_plain [] r = refl
all_plain (x ∷ xs) r = and_from (is_plain (shown_text x)) (list_all is_plain (map shown_text xs)) r.0.plain (all_plain xs r.1)

pub printed_plain : ReadValues → (m : Match) → IsSpellable m → IsPlain (match_printed m)
printed_plain r m s = subst IsPlain (sym (printed_text m)) (joined_plain (map shown_text (shown m)) (all_plain (shown m) (shown_readable r m s)))

-- a plain text behind a front without a comment
read_behind : (word : EditWord) (front text : List ℕ) → uncommented front ≡ front → IsPlain text
    → read_match word (length front) (front ++ text) ≡ read_items word (words is_separator true (length front) text) (holding []) >>= (λ s. with_list word (length (front ++ text)) s.sofar s.list)
read_behind word front text clean plain =
    read_match-text word (length front) (front ++ text)
    ∙ ap (match_of_text word (length front)) (uncommented_all front text clean plain)
    ∙ (rw (drop-append_seam front text, all_ascii text plain) refl)

pub alone_back : ReadValues → (word : EditWord) (front : List ℕ) (m : Match) → deletes word ≡ true → uncommented front ≡ front → IsSpellable m
    → read_match word (length front) (front ++ match_printed m) ≡ Ok (match_alone m None)
alone_back r word front m delete clean s =
    read_behind word front (match_printed m) clean (printed_plain r m s)
    ∙ (rw (items_alone r word (length front) m s, delete) (ap (λ x. Ok (match_alone x None)) (shown_parts r m s).1))

pub listed_back : ReadValues → (word : EditWord) (front : List ℕ) (m : Match) (text : List ℕ) → deletes word ≡ false → uncommented front ≡ front → IsSpellable m → IsPlain text
    → read_match word (length front) (front ++ (match_printed m ++ (codes ",actions=" ++ text))) ≡ Ok (match_alone m (Some (length front + length (match_printed m) + 9)))
listed_back r word front m text add clean s plain =
    let at = length front + length (match_printed m) + 1 in
    let place : at + 8 ≡ length front + length (match_printed m) + 9 = omega arith in
    read_behind word front (match_printed m ++ (codes ",actions=" ++ text)) clean (plain_append (match_printed m) (codes ",actions=" ++ text) (printed_plain r m s) (plain_append (codes ",actions=") text refl plain))
    ∙ (rw (items_first r word (length front) m (list_name ++ text) s, list_read word at text (parts_in m), add) (ap (λ x. Ok (match_alone x (Some (at + 8)))) (shown_parts r m s).1 ∙ ap (λ n. Ok (match_alone m (Some n))) place))
