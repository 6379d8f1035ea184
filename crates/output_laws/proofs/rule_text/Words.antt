-- Items with separators between them, whichever they are, are read one after the other.
use Rattle.std.proofs.Common.{◌≡◌, ℕ, ◌+◌, ◌-◌, true, false, List, [], ◌∷◌, ◌++◌, length, refl, sym, ap, ◌∙◌, arith, append_assoc, append-nil, length-append, Some, None, Ok}
use Rattle.std.specs.Prelude.{not, ◌==◌, codes}
use Rattle.std.specs.List.{list_all, take_while}
use Rattle.std.proofs.lemmas.Bool.{and_parts, not-true}
use Rattle.spec_tables.specs.declared.edit_word.EditWord.{EditWord}
use Rattle.spec_flow_text.specs.Characters.{comma}
use Rattle.spec_flow_text.specs.declared.part.Part.{Part}
use Rattle.spec_flow_text.specs.Items.{Word, Sofar, column, is_separator, words, with_item, list_start, read_items}
use Rattle.spec_flow_text.specs.Printed.{Shown, shown_text}
use Rattle.text_laws.proofs.Cuts.{take_while-ended, take_while-all}
use Rattle.text_laws.proofs.Ends.{words-cons, words-separated}
use Rattle.text_laws.proofs.ItemTexts.{item_at}
use Rattle.text_laws.proofs.matches.ItemsBack.{FollowEachOther}
use Rattle.text_laws.proofs.matches.LinesBack.{front_passes}
use Rattle.text_laws.proofs.matches.WordsBack.{IsWhole, IsReadable, AreReadable, parts_of, all_parts, text_of, follow_split}
use Rattle.output_laws.proofs.rule_text.Framed.{framed, item_framed}

-- ---- words

inside : (at sep : ℕ) (text rest : List ℕ) → is_separator sep ≡ true → IsWhole text
    → words is_separator false at (text ++ sep ∷ rest) ≡ words is_separator true (at + length text + 1) rest
inside at sep [] rest ends h =
    let same : at + 1 ≡ at + 0 + 1 = omega arith in
    words-separated is_separator false at sep rest ends ∙ ap (λ n. words is_separator true n rest) same
inside at sep (c ∷ cs) rest ends h =
    let p = and_parts (not (is_separator c)) (list_all (λ x. not (is_separator x)) cs) h in
    let same : at + 1 + length cs + 1 ≡ at + length (c ∷ cs) + 1 = omega arith in
    words-cons is_separator false at c (cs ++ sep ∷ rest)
    ∙ (rw (not-true (is_separator c) p.0) (inside (at + 1) sep cs rest ends p.1 ∙ ap (λ n. words is_separator true n rest) same))

first_word : (at sep : ℕ) (text rest : List ℕ) → is_separator sep ≡ true → (length text == 0) ≡ false → IsWhole text
    → words is_separator true at (text ++ sep ∷ rest) ≡ item_at at text ∷ words is_separator true (at + length text + 1) rest
first_word at sep [] rest ends some h = cc
first_word at sep (c ∷ cs) rest ends some h =
    let p = and_parts (not (is_separator c)) (list_all (λ x. not (is_separator x)) cs) h in
    let same : at + 1 + length cs + 1 ≡ at + length (c ∷ cs) + 1 = omega arith in
    let stops : not (is_separator sep) ≡ false = rw ends refl in
    let text = take_while-ended (λ x. not (is_separator x)) (c ∷ cs) rest sep stops ∙ take_while-all (λ x. not (is_separator x)) (c ∷ cs) h in
    let more = inside (at + 1) sep cs rest ends p.1 ∙ ap (λ n. words is_separator true n rest) same in
    words-cons is_separator true at c (cs ++ sep ∷ rest) ∙ (rw (text, not-true (is_separator c) p.0) (ap (λ ws. item_at at (c ∷ cs) ∷ ws) more))

-- ---- items

word_read : (word : EditWord) (w : Word) (ws : List Word) (s t : Sofar) → list_start w ≡ None → with_item word w s ≡ Ok t
    → read_items word (w ∷ ws) s ≡ read_items word ws t
unfolding read_items
word_read word w ws s t none h = rw (none, h) refl

-- an item before a separator
pub item_read : (word : EditWord) (at sep : ℕ) (text rest : List ℕ) (s t : Sofar) → is_separator sep ≡ true → (length text == 0) ≡ false → IsWhole text
    → list_start (item_at at text) ≡ None → with_item word (item_at at text) s ≡ Ok t
    → read_items word (words is_separator true at (text ++ sep ∷ rest)) s ≡ read_items word (words is_separator true (at + length text + 1) rest) t
item_read word at sep text rest s t ends some whole none h =
    ap (λ ws. read_items word ws s) (first_word at sep text rest ends some whole)
    ∙ word_read word (item_at at text) (words is_separator true (at + length text + 1) rest) s t none h

-- another separator
pub separator_read : (word : EditWord) (at sep : ℕ) (rest : List ℕ) (s : Sofar) → is_separator sep ≡ true
    → read_items word (words is_separator true at (sep ∷ rest)) s ≡ read_items word (words is_separator true (at + 1) rest) s
separator_read word at sep rest s ends = ap (λ ws. read_items word ws s) (words-separated is_separator true at sep rest ends)

-- ---- the items of a match

shown_read : (word : EditWord) (at sep : ℕ) (x : Shown) (before : List Part) (rest : List ℕ) (s : Sofar) → is_separator sep ≡ true → IsReadable x → FollowEachOther before (parts_of x)
    → read_items word (words is_separator true at (shown_text x ++ sep ∷ rest)) (framed s before)
    ≡ read_items word (words is_separator true (at + length (shown_text x) + 1) rest) (framed s (before ++ parts_of x))
shown_read word at sep x before rest s ends r f =
    item_read word at sep (shown_text x) rest (framed s before) (framed s (before ++ parts_of x)) ends r.there r.whole (r.no_list at)
    (item_framed word (item_at at (shown_text x)) before (before ++ parts_of x) (r.states word at before f) s)

pub all_shown_read : (word : EditWord) (at sep : ℕ) (xs : List Shown) (before : List Part) (rest : List ℕ) (s : Sofar) → is_separator sep ≡ true → AreReadable xs → FollowEachOther before (all_parts xs)
    → read_items word (words is_separator true at (text_of xs ++ sep ∷ rest)) (framed s before)
    ≡ read_items word (words is_separator true (at + length (text_of xs) + 1) rest) (framed s (before ++ all_parts xs))
all_shown_read word at sep [] before rest s ends r f =
    let same : at + 1 ≡ at + 0 + 1 = omega arith in
    separator_read word at sep rest (framed s before) ends
    ∙ ap (λ n. read_items word (words is_separator true n rest) (framed s before)) same
    ∙ ap (λ ps. read_items word (words is_separator true (at + 0 + 1) rest) (framed s ps)) (sym (append-nil before))
all_shown_read word at sep (x ∷ []) before rest s ends r f =
    let f1 : FollowEachOther before (parts_of x) = (follow_split before (parts_of x) [] f).0 in
    shown_read word at sep x before rest s ends r.0 f1
    ∙ ap (λ ps. read_items word (words is_separator true (at + length (shown_text x) + 1) rest) (framed s (before ++ ps))) (sym (append-nil (parts_of x)))
all_shown_read word at sep (x ∷ y ∷ ys) before rest s ends r f =
    let t = shown_text x in
    let later = text_of (y ∷ ys) in
    let split = follow_split before (parts_of x) (all_parts (y ∷ ys)) f in
    let end : at + length t + 1 + length later + 1 ≡ at + length (t ++ comma ∷ later) + 1 = omega (arith, length-append t (comma ∷ later)) in
    ap (λ text. read_items word (words is_separator true at text) (framed s before)) (append_assoc t (comma ∷ later) (sep ∷ rest))
    ∙ shown_read word at comma x before (later ++ sep ∷ rest) s refl r.0 split.0
    ∙ all_shown_read word (at + length t + 1) sep (y ∷ ys) (before ++ parts_of x) rest s ends r.1 split.1
    ∙ ap (λ n. read_items word (words is_separator true n rest) (framed s ((before ++ parts_of x) ++ all_parts (y ∷ ys)))) end
    ∙ ap (λ ps. read_items word (words is_separator true (at + length (t ++ comma ∷ later) + 1) rest) (framed s ps)) (append_assoc before (parts_of x) (all_parts (y ∷ ys)))

-- ---- the list of actions

abbrev pub list_name : List ℕ
list_name = codes "actions="

list_begins : (at : ℕ) (text : List ℕ) → list_start (item_at at (list_name ++ text)) ≡ Some (at + 8)
list_begins at text = let same : at + length (list_name ++ text) - length text ≡ at + 8 = omega arith in ap Some same

at_list : (word : EditWord) (w : Word) (ws : List Word) (s : Sofar) (rest : ℕ) → list_start w ≡ Some rest
    → read_items word (w ∷ ws) s ≡ Ok (record { sofar = s; list = Some (column w, rest) })
unfolding read_items
at_list word w ws s rest h = rw h refl

pub list_read : (word : EditWord) (at : ℕ) (text : List ℕ) (s : Sofar)
    → read_items word (words is_separator true at (list_name ++ text)) s ≡ Ok (record { sofar = s; list = Some (at + 1, at + 8) })
list_read word at text s =
    let front = take_while (λ c. not (is_separator c)) text in
    let whole = front_passes (λ c. not (is_separator c)) list_name text refl in
    let first = words-cons is_separator true at 97 (codes "ctions=" ++ text) ∙ ap (λ t. item_at at t ∷ words is_separator false (at + 1) (codes "ctions=" ++ text)) whole in
    ap (λ ws. read_items word ws s) first ∙ at_list word (item_at at (list_name ++ front)) (words is_separator false (at + 1) (codes "ctions=" ++ text)) s (at + 8) (list_begins at front)
