-- Printed items with commas between them are read one after the other.
use Rattle.std.proofs.Common.{◌≡◌, ℕ, ◌+◌, true, false, List, [], ◌∷◌, ◌++◌, length, map, refl, sym, ap, ◌∙◌, arith, append_assoc, append-nil, length-append, None, Ok}
use Rattle.std.specs.Prelude.{not, ◌==◌}
use Rattle.std.specs.List.{list_all, flat_map, join_with_byte}
use Rattle.std.proofs.lemmas.Bool.{and_parts, not-true}
use Rattle.spec_actions.specs.Named.{named}
use Rattle.spec_tables.specs.declared.edit_word.EditWord.{EditWord}
use Rattle.spec_flow_text.specs.Characters.{comma}
use Rattle.spec_flow_text.specs.Numbers.{where_found}
use Rattle.spec_flow_text.specs.declared.part.Part.{Part}
use Rattle.spec_flow_text.specs.Names.{protocol_stated}
use Rattle.spec_flow_text.specs.Values.{bits_stated, needs_of, tag_part_of, part}
use Rattle.spec_flow_text.specs.Items.{Word, is_separator, words, with_item, list_start, read_items}
use Rattle.spec_flow_text.specs.Printed.{Shown, Short, Value, shown_text}
use Rattle.text_laws.proofs.Cuts.{take_while-ended, take_while-all}
use Rattle.text_laws.proofs.Ends.{words-cons, words-separated}
use Rattle.text_laws.proofs.PlainValues.{IsPlain}
use Rattle.text_laws.proofs.ItemTexts.{item_at}
use Rattle.text_laws.proofs.matches.ItemsBack.{holding, FollowEachOther, States, short_parts}

-- ---- words

-- a text with no separator in it
abbrev pub IsWhole : List ℕ → Type 0
IsWhole text = list_all (λ c. not (is_separator c)) text ≡ true

inside : (at : ℕ) (text rest : List ℕ) → IsWhole text → words is_separator false at (text ++ comma ∷ rest) ≡ words is_separator true (at + length text + 1) rest
inside at [] rest h =
    let same : at + 1 ≡ at + 0 + 1 = omega arith in
    words-separated is_separator false at comma rest refl ∙ ap (λ n. words is_separator true n rest) same
inside at (c ∷ cs) rest h =
    let p = and_parts (not (is_separator c)) (list_all (λ x. not (is_separator x)) cs) h in
    let same : at + 1 + length cs + 1 ≡ at + length (c ∷ cs) + 1 = omega arith in
    words-cons is_separator false at c (cs ++ comma ∷ rest)
    ∙ (rw (not-true (is_separator c) p.0) (inside (at + 1) cs rest p.1 ∙ ap (λ n. words is_separator true n rest) same))

pub first_word : (at : ℕ) (text rest : List ℕ) → (length text == 0) ≡ false → IsWhole text
    → words is_separator true at (text ++ comma ∷ rest) ≡ item_at at text ∷ words is_separator true (at + length text + 1) rest
first_word at [] rest some h = cc
first_word at (c ∷ cs) rest some h =
    let p = and_parts (not (is_separator c)) (list_all (λ x. not (is_separator x)) cs) h in
    let same : at + 1 + length cs + 1 ≡ at + length (c ∷ cs) + 1 = omega arith in
    let text = take_while-ended (λ x. not (is_separator x)) (c ∷ cs) rest comma refl ∙ take_while-all (λ x. not (is_separator x)) (c ∷ cs) h in
    let more = inside (at + 1) cs rest p.1 ∙ ap (λ n. words is_separator true n rest) same in
    words-cons is_separator true at c (cs ++ comma ∷ rest) ∙ (rw (text, not-true (is_separator c) p.0) (ap (λ ws. item_at at (c ∷ cs) ∷ ws) more))

-- ---- items

-- the parts that an item states
abbrev pub parts_of : Shown → List Part
parts_of (Short h) = short_parts h (protocol_stated h)
parts_of (Value f b) = where_found (bits_stated f b) (λ s. part (named f).field s (needs_of f) (tag_part_of f) ∷ []) []

abbrev pub all_parts : List Shown → List Part
all_parts xs = flat_map parts_of xs

-- an item that states its parts
pub record IsReadable (x : Shown) : Type 0 where
  pub there : (length (shown_text x) == 0) ≡ false
  pub whole : IsWhole (shown_text x)
  pub plain : IsPlain (shown_text x)
  pub states : States (shown_text x) (parts_of x)
  pub no_list : (at : ℕ) → list_start (item_at at (shown_text x)) ≡ None

abbrev pub AreReadable : List Shown → Type 0
AreReadable [] = Unit {0}
AreReadable (x ∷ xs) = IsReadable x × AreReadable xs

pub readable_more : (xs ys : List Shown) → AreReadable xs → AreReadable ys → AreReadable (xs ++ ys)
readable_more [] ys h k = k
readable_more (x ∷ xs) ys h k = (h.0, readable_more xs ys h.1 k)

pub follow_split : (before ps qs : List Part) → FollowEachOther before (ps ++ qs) → FollowEachOther before ps × FollowEachOther (before ++ ps) qs
follow_split before [] qs h = (tt, rw (append-nil before) h)
follow_split before (p ∷ ps) qs h =
    let later = follow_split (before ++ p ∷ []) ps qs h.1 in
    ((h.0, later.0), rw (← append_assoc before (p ∷ []) ps) later.1)

read_step : (word : EditWord) (w : Word) (ws : List Word) (before after : List Part) → list_start w ≡ None → with_item word w (holding before) ≡ Ok (holding after)
    → read_items word (w ∷ ws) (holding before) ≡ read_items word ws (holding after)
unfolding read_items
read_step word w ws before after none h = rw (none, h) refl

item_read : (word : EditWord) (at : ℕ) (x : Shown) (before : List Part) (rest : List ℕ) → IsReadable x → FollowEachOther before (parts_of x)
    → read_items word (words is_separator true at (shown_text x ++ comma ∷ rest)) (holding before) ≡ read_items word (words is_separator true (at + length (shown_text x) + 1) rest) (holding (before ++ parts_of x))
item_read word at x before rest r f =
    ap (λ ws. read_items word ws (holding before)) (first_word at (shown_text x) rest r.there r.whole)
    ∙ read_step word (item_at at (shown_text x)) (words is_separator true (at + length (shown_text x) + 1) rest) before (before ++ parts_of x) (r.no_list at) (r.states word at before f)

-- the text of items
abbrev pub text_of : List Shown → List ℕ
text_of xs = join_with_byte comma (map shown_text xs)

pub items_read : (word : EditWord) (at : ℕ) (xs : List Shown) (before : List Part) (rest : List ℕ) → AreReadable xs → FollowEachOther before (all_parts xs)
    → read_items word (words is_separator true at (text_of xs ++ comma ∷ rest)) (holding before) ≡ read_items word (words is_separator true (at + length (text_of xs) + 1) rest) (holding (before ++ all_parts xs))
items_read word at [] before rest r f =
    let same : at + 1 ≡ at + 0 + 1 = omega arith in
    ap (λ ws. read_items word ws (holding before)) (words-separated is_separator true at comma rest refl ∙ ap (λ n. words is_separator true n rest) same)
    ∙ ap (λ ps. read_items word (words is_separator true (at + 0 + 1) rest) (holding ps)) (sym (append-nil before))
items_read word at (x ∷ []) before rest r f =
    let f1 : FollowEachOther before (parts_of x) = (follow_split before (parts_of x) [] f).0 in
    item_read word at x before rest r.0 f1 ∙ ap (λ ps. read_items word (words is_separator true (at + length (shown_text x) + 1) rest) (holding (before ++ ps))) (sym (append-nil (parts_of x)))
items_read word at (x ∷ y ∷ ys) before rest r f =
    let t = shown_text x in
    let later = text_of (y ∷ ys) in
    let s = follow_split before (parts_of x) (all_parts (y ∷ ys)) f in
    let end : at + length t + 1 + length later + 1 ≡ at + length (t ++ comma ∷ later) + 1 = omega (arith, length-append t (comma ∷ later)) in
    ap (λ text. read_items word (words is_separator true at text) (holding before)) (append_assoc t (comma ∷ later) (comma ∷ rest))
    ∙ item_read word at x before (later ++ comma ∷ rest) r.0 s.0
    ∙ items_read word (at + length t + 1) (y ∷ ys) (before ++ parts_of x) rest r.1 s.1
    ∙ ap (λ n. read_items word (words is_separator true n rest) (holding ((before ++ parts_of x) ++ all_parts (y ∷ ys)))) end
    ∙ ap (λ ps. read_items word (words is_separator true (at + length (t ++ comma ∷ later) + 1) rest) (holding ps)) (append_assoc before (parts_of x) (all_parts (y ∷ ys)))
