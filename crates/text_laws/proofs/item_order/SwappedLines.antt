-- A line whose items stand in another order is read alike.
use Rattle.std.proofs.Common.{◌≡◌, ℕ, ◌+◌, ◌-◌, ◌≤◌, ◌⊎◌, inl, inr, Bool, true, false, cond, List, [], ◌∷◌, ◌++◌, length, drop, refl, sym, subst, ap, ◌∙◌, arith, is_some, Option, Some, None, Result, Ok, Err}
use Rattle.std.specs.Prelude.{is_ok, not, ◌&&◌, ◌||◌, ◌==◌, position, codes}
use Rattle.std.specs.List.{list_any, list_all}
use Rattle.std.specs.Option.{option_map, option_or}
use Rattle.std.specs.Char.{is_ascii}
use Rattle.std.proofs.lemmas.Bool.{and_parts, and_from, not-true, both_ways}
use Rattle.std.proofs.lemmas.Bool.Decides.{nat_tests}
use Rattle.std.proofs.lemmas.List.{drop-append-le}
use Rattle.std.proofs.lemmas.List.Folds.{list_any-append}
use Rattle.std.proofs.lemmas.List.Sums.{take_while-cons}
use Rattle.spec_tables.specs.declared.edit_word.EditWord.{EditWord}
use Rattle.spec_flow_text.specs.Characters.{comma, number_sign}
use Rattle.spec_flow_text.specs.Numbers.{strip_prefix}
use Rattle.spec_flow_text.specs.declared.fault.TextFault.{TextFault}
use Rattle.spec_flow_text.specs.declared.fault.TextFault.TheVariants as fault
use Rattle.spec_flow_text.specs.Items.{Word, is_separator, words, up_to_separator, Sofar, nothing_stated, list_start, Stated, read_items, deletes}
use Rattle.spec_flow_text.specs.Matches.{MatchText, match_text, with_list, uncommented, text_or_fault, ascii_from, read_match}
use Rattle.text_laws.proofs.Cuts.{take_while-ended, position-cons}
use Rattle.text_laws.proofs.CommentLaws.{match_of_text, read_match-text}
use Rattle.text_laws.proofs.Ends.{words-cons, words-none, words-separated, words-ended}
use Rattle.text_laws.proofs.ItemTexts.{item_at}
use Rattle.text_laws.specs.PlainItems.{begins_list, is_item}
use Rattle.text_laws.proofs.matches.WordsBack.{IsWhole, first_word}
use Rattle.text_laws.proofs.matches.LinesBack.{front_passes}
use Rattle.text_laws.proofs.round_trips.PartsRead.{ReadRanges}
use Rattle.text_laws.proofs.round_trips.LinesRead.{ok_chained, IsRead, items_read}
use Rattle.text_laws.proofs.round_trips.Gathered.{follow_apart}
use Rattle.text_laws.proofs.round_trips.ReadSpelled.{all_of}
use Rattle.text_laws.proofs.item_order.SwappedParts.{kept_swapped}
use Rattle.text_laws.proofs.item_order.SwappedItems.{AreAlike, ItemsAlike, pair_alike, front_alike}

-- ---- items

-- what is known of an item
record IsItem (text : List ℕ) : Type 0 where
  there : (length text == 0) ≡ false
  whole : IsWhole text
  clean : list_all (λ c. not (c == number_sign)) text ≡ true
  no_list : (at : ℕ) → list_start (item_at at text) ≡ None

apart : (text : List ℕ) → list_all (λ c. not (is_separator c) && not (c == number_sign)) text ≡ true → IsWhole text × (list_all (λ c. not (c == number_sign)) text ≡ true)
apart [] h = (refl, refl)
apart (c ∷ cs) h =
    let k = and_parts (not (is_separator c) && not (c == number_sign)) (list_all (λ x. not (is_separator x) && not (x == number_sign)) cs) h in
    let p = and_parts (not (is_separator c)) (not (c == number_sign)) k.0 in
    let rest = apart cs k.1 in
    (and_from (not (is_separator c)) (list_all (λ x. not (is_separator x)) cs) p.0 rest.0, and_from (not (c == number_sign)) (list_all (λ x. not (x == number_sign)) cs) p.1 rest.1)

none_anywhere : (text : List ℕ) → not (begins_list text) ≡ true → (at : ℕ) → list_start (item_at at text) ≡ None
none_anywhere text h at = by_option (option_or (strip_prefix (codes "actions=") text) (strip_prefix (codes "action=") text)) h
  where
    by_option : (o : Option (List ℕ)) → not (is_some (option_map (λ rest. 0 + length text - length rest) o)) ≡ true → option_map (λ rest. at + length text - length rest) o ≡ None
    by_option None h = refl
    by_option (Some rest) h = absurd (both_ways false refl h)

item_of : (text : List ℕ) → is_item text ≡ true → IsItem text
item_of text h =
    let p = and_parts (not (length text == 0)) (list_all (λ c. not (is_separator c) && not (c == number_sign)) text && not (begins_list text)) h in
    let q = and_parts (list_all (λ c. not (is_separator c) && not (c == number_sign)) text) (not (begins_list text)) p.1 in
    let k = apart text q.0 in
    record { there = not-true (length text == 0) p.0; whole = k.0; clean = k.1; no_list = none_anywhere text q.1 }

-- ---- words

cond_append : (t fresh : Bool) (w : Word) (x u v ws : List Word) → cond t (x ++ ws) (cond fresh (w ∷ (u ++ ws)) (v ++ ws)) ≡ cond t x (cond fresh (w ∷ u) v) ++ ws
cond_append true fresh w x u v ws = refl
cond_append false true w x u v ws = refl
cond_append false false w x u v ws = refl

-- the words of a text before a separator, and those after it
words_split : (fresh : Bool) (at : ℕ) (front rest : List ℕ) (s : ℕ) → is_separator s ≡ true
    → words is_separator fresh at (front ++ s ∷ rest) ≡ words is_separator fresh at front ++ words is_separator true (at + length front + 1) rest
words_split fresh at [] rest s e =
    let same : at + 1 ≡ at + 0 + 1 = omega arith in
    words-separated is_separator fresh at s rest e
    ∙ ap (λ n. words is_separator true n rest) same
    ∙ ap (λ ws. ws ++ words is_separator true (at + 0 + 1) rest) (sym (words-none is_separator fresh at))
words_split fresh at (c ∷ cs) rest s e =
    let n = at + length (c ∷ cs) + 1 in
    let same : at + 1 + length cs + 1 ≡ n = omega arith in
    let stops : not (is_separator s) ≡ false = rw e refl in
    let text = take_while-ended (λ x. not (is_separator x)) (c ∷ cs) rest s stops in
    let fresh_rest = words_split true (at + 1) cs rest s e ∙ ap (λ k. words is_separator true (at + 1) cs ++ words is_separator true k rest) same in
    let in_rest = words_split false (at + 1) cs rest s e ∙ ap (λ k. words is_separator false (at + 1) cs ++ words is_separator true k rest) same in
    words-cons is_separator fresh at c (cs ++ s ∷ rest)
    ∙ (rw (text, fresh_rest, in_rest) (cond_append (is_separator c) fresh (item_at at (up_to_separator is_separator (c ∷ cs))) (words is_separator true (at + 1) cs) (words is_separator false (at + 1) cs) (words is_separator false (at + 1) cs) (words is_separator true n rest)))
    ∙ ap (λ ws. ws ++ words is_separator true n rest) (sym (words-cons is_separator fresh at c cs))

one_word : (at : ℕ) (text : List ℕ) → IsItem text → words is_separator true at text ≡ item_at at text ∷ []
one_word at text i =
    sym (words-ended is_separator true at text comma refl) ∙ first_word at text [] i.there i.whole
    ∙ ap (λ ws. item_at at text ∷ ws) (words-none is_separator true (at + length text + 1))

-- a line with two items in it
abbrev pub with_two : List ℕ → (s : ℕ) → List ℕ → (t : ℕ) → List ℕ → (u : ℕ) → List ℕ → List ℕ
with_two front s one t other u back = front ++ s ∷ (one ++ t ∷ (other ++ u ∷ back))

abbrev place_after : ℕ → List ℕ → ℕ
place_after at text = at + length text + 1

two_words : (at : ℕ) (front : List ℕ) (s : ℕ) (one : List ℕ) (t : ℕ) (other : List ℕ) (u : ℕ) (back : List ℕ) → is_separator s ≡ true → is_separator t ≡ true → is_separator u ≡ true → IsItem one → IsItem other
    → words is_separator true at (with_two front s one t other u back)
    ≡ words is_separator true at front ++ (item_at (place_after at front) one ∷ item_at (place_after (place_after at front) one) other ∷ words is_separator true (place_after (place_after (place_after at front) one) other) back)
two_words at front s one t other u back es et eu i j =
    let n1 = place_after at front in
    let n2 = place_after n1 one in
    let n3 = place_after n2 other in
    let last = words_split true n2 other back u eu ∙ ap (λ ws. ws ++ words is_separator true n3 back) (one_word n2 other j) in
    let both = words_split true n1 one (other ++ u ∷ back) t et ∙ ap (λ ws. ws ++ words is_separator true n2 (other ++ u ∷ back)) (one_word n1 one i) ∙ ap (λ ws. item_at n1 one ∷ ws) last in
    words_split true at front (one ++ t ∷ (other ++ u ∷ back)) s es ∙ ap (λ ws. words is_separator true at front ++ ws) both

-- ---- texts

text_alike : (word : EditWord) (at : ℕ) (front : List ℕ) (s : ℕ) (one : List ℕ) (t : ℕ) (other : List ℕ) (u : ℕ) (back : List ℕ) (x : Stated) → is_separator s ≡ true → is_separator t ≡ true → is_separator u ≡ true → IsItem one → IsItem other
    → read_items word (words is_separator true at (with_two front s one t other u back)) nothing_stated ≡ Ok x → ItemsAlike (read_items word (words is_separator true at (with_two front s other t one u back)) nothing_stated) x
text_alike word at front s one t other u back x es et eu i j h =
    let n1 = place_after at front in
    let n3 = place_after (place_after n1 one) other in
    let end : place_after (place_after n1 other) one ≡ n3 = omega arith in
    let ws = words is_separator true n3 back in
    let first = two_words at front s one t other u back es et eu i j in
    let second = two_words at front s other t one u back es et eu j i ∙ ap (λ n. words is_separator true at front ++ (item_at n1 other ∷ item_at (place_after n1 other) one ∷ words is_separator true n back)) end in
    subst (λ vs. ItemsAlike (read_items word vs nothing_stated) x) (sym second) (front_alike word (words is_separator true at front) (item_at n1 one ∷ item_at (place_after n1 one) other ∷ ws) (item_at n1 other ∷ item_at (place_after n1 other) one ∷ ws) nothing_stated x (λ v y g. pair_alike word one other n1 (place_after n1 one) n1 (place_after n1 other) ws v y i.no_list j.no_list g) (subst (λ vs. read_items word vs nothing_stated ≡ Ok x) first h))

same_text : (s t : Sofar) (rest : Option ℕ) → IsRead s → IsRead t → AreAlike s t → match_text s rest ≡ match_text t rest
same_text s t rest r q a =
    let matching = kept_swapped s.parts t.parts (all_of s.parts r.each) (follow_apart s.parts r.apart) (all_of t.parts q.each) (follow_apart t.parts q.apart) a.parts in
    rw (matching, a.table, a.priority, a.cookie) refl

listed_alike : (word : EditWord) (end other : ℕ) (s t : Sofar) (list : Option (ℕ × ℕ)) (m : MatchText) → ((rest : Option ℕ) → match_text s rest ≡ match_text t rest) → with_list word end s list ≡ Ok m → with_list word other t list ≡ Ok m
listed_alike word end other s t (Some list) m same h = by_word (deletes word) h
  where
    by_word : (b : Bool) → cond b (Err (fault.Syntax list.0)) (Ok (match_text s (Some list.1))) ≡ Ok m → cond b (Err (fault.Syntax list.0)) (Ok (match_text t (Some list.1))) ≡ Ok m
    by_word true h = cc
    by_word false h = ap Ok (sym (same (Some list.1))) ∙ h
listed_alike word end other s t None m same h = by_word (deletes word) h
  where
    by_word : (b : Bool) → cond b (Ok (match_text s None)) (Err (fault.Syntax (end + 1))) ≡ Ok m → cond b (Ok (match_text t None)) (Err (fault.Syntax (other + 1))) ≡ Ok m
    by_word true h = ap Ok (sym (same None)) ∙ h
    by_word false h = cc

-- ---- ASCII

none_beyond : (text : List ℕ) → position (λ c. not (is_ascii c)) text ≡ None → list_any (λ c. not (is_ascii c)) text ≡ false
none_beyond [] h = refl
none_beyond (c ∷ cs) h = by_test (not (is_ascii c)) (position (λ x. not (is_ascii x)) cs) (none_beyond cs) (sym (position-cons (λ x. not (is_ascii x)) c cs) ∙ h)
  where
    by_test : (t : Bool) (o : Option ℕ) → (o ≡ None → list_any (λ x. not (is_ascii x)) cs ≡ false) → cond t (Some 0) (option_map (λ i. 1 + i) o) ≡ None → (t || list_any (λ x. not (is_ascii x)) cs) ≡ false
    by_test true o ih h = cc
    by_test false None ih h = ih refl
    by_test false (Some i) ih h = cc

beyond_none : (text : List ℕ) → list_any (λ c. not (is_ascii c)) text ≡ false → position (λ c. not (is_ascii c)) text ≡ None
beyond_none [] h = refl
beyond_none (c ∷ cs) h = position-cons (λ x. not (is_ascii x)) c cs ∙ by_test (not (is_ascii c)) h (beyond_none cs)
  where
    by_test : (t : Bool) → (t || list_any (λ x. not (is_ascii x)) cs) ≡ false → (list_any (λ x. not (is_ascii x)) cs ≡ false → position (λ x. not (is_ascii x)) cs ≡ None) → cond t (Some 0) (option_map (λ i. 1 + i) (position (λ x. not (is_ascii x)) cs)) ≡ None
    by_test true h ih = cc
    by_test false h ih = rw (ih h) refl

any_of_two : (p : ℕ → Bool) (front : List ℕ) (s : ℕ) (one : List ℕ) (t : ℕ) (other : List ℕ) (u : ℕ) (back : List ℕ)
    → list_any p (with_two front s one t other u back) ≡ (list_any p front || (p s || (list_any p one || (p t || (list_any p other || (p u || list_any p back))))))
any_of_two p front s one t other u back =
    list_any-append p front (s ∷ (one ++ t ∷ (other ++ u ∷ back)))
    ∙ ap (λ x. list_any p front || (p s || x)) (list_any-append p one (t ∷ (other ++ u ∷ back)) ∙ ap (λ x. list_any p one || (p t || x)) (list_any-append p other (u ∷ back)))

or_swap : (f s a t b u k : Bool) → (f || (s || (a || (t || (b || (u || k)))))) ≡ (f || (s || (b || (t || (a || (u || k))))))
or_swap true s a t b u k = refl
or_swap false true a t b u k = refl
or_swap false false true true true u k = refl
or_swap false false true true false u k = refl
or_swap false false true false true u k = refl
or_swap false false true false false u k = refl
or_swap false false false true true u k = refl
or_swap false false false true false u k = refl
or_swap false false false false b u k = refl

any_swapped : (p : ℕ → Bool) (front : List ℕ) (s : ℕ) (one : List ℕ) (t : ℕ) (other : List ℕ) (u : ℕ) (back : List ℕ) → list_any p (with_two front s one t other u back) ≡ list_any p (with_two front s other t one u back)
any_swapped p front s one t other u back =
    any_of_two p front s one t other u back ∙ or_swap (list_any p front) (p s) (list_any p one) (p t) (list_any p other) (p u) (list_any p back)
    ∙ sym (any_of_two p front s other t one u back)

ascii_text : (at : ℕ) (text other : List ℕ) (x : List ℕ) → list_any (λ c. not (is_ascii c)) (drop at text) ≡ list_any (λ c. not (is_ascii c)) (drop at other) → ascii_from at text ≡ Ok x
    → (x ≡ drop at text) × (ascii_from at other ≡ Ok (drop at other))
ascii_text at text other x same h = by_place (position (λ c. not (is_ascii c)) (drop at text)) refl h
  where
    by_place : (o : Option ℕ) → position (λ c. not (is_ascii c)) (drop at text) ≡ o → text_or_fault (drop at text) (option_map (λ i. at + i + 1) o) ≡ Ok x → (x ≡ drop at text) × (ascii_from at other ≡ Ok (drop at other))
    by_place None e h = ((cc), rw (beyond_none (drop at other) (sym same ∙ none_beyond (drop at text) e)) refl)
    by_place (Some i) e h = cc

-- ---- lines

from_front : (at : ℕ) (front : List ℕ) (s : ℕ) (one : List ℕ) (t : ℕ) (other : List ℕ) (u : ℕ) (back : List ℕ) → at ≤ length front → drop at (with_two front s one t other u back) ≡ with_two (drop at front) s one t other u back
from_front at front s one t other u back le = drop-append-le at front (s ∷ (one ++ t ∷ (other ++ u ∷ back))) le

match_alike : ReadRanges → (word : EditWord) (at : ℕ) (front : List ℕ) (s : ℕ) (one : List ℕ) (t : ℕ) (other : List ℕ) (u : ℕ) (back : List ℕ) (m : MatchText) → is_separator s ≡ true → is_separator t ≡ true → is_separator u ≡ true
    → IsItem one → IsItem other → at ≤ length front → match_of_text word at (with_two front s one t other u back) ≡ Ok m → match_of_text word at (with_two front s other t one u back) ≡ Ok m
match_alike k word at front s one t other u back m es et eu i j le h =
    let first = with_two front s one t other u back in
    let second = with_two front s other t one u back in
    let start = drop at front in
    let text = ok_chained (ascii_from at first) _ m h in
    let same = ap (list_any (λ c. not (is_ascii c))) (from_front at front s one t other u back le) ∙ any_swapped (λ c. not (is_ascii c)) start s one t other u back ∙ sym (ap (list_any (λ c. not (is_ascii c))) (from_front at front s other t one u back le)) in
    let ascii = ascii_text at first second text.0 same text.1 in
    let x = ok_chained (read_items word (words is_separator true at text.0) nothing_stated) _ m text.2 in
    let read : read_items word (words is_separator true at (with_two start s one t other u back)) nothing_stated ≡ Ok x.0 =
    ap (λ y. read_items word (words is_separator true at y) nothing_stated) (sym (ascii.0 ∙ from_front at front s one t other u back le)) ∙ x.1 in
    let y = text_alike word at start s one t other u back x.0 es et eu i j read in
    let r = items_read k word (words is_separator true at text.0) nothing_stated x.0 (record { each = tt; apart = tt }) x.1 in
    let q = items_read k word (words is_separator true at (with_two start s other t one u back)) nothing_stated y.0 (record { each = tt; apart = tt }) y.1 in
    let listed = listed_alike word (length first) (length second) x.0.sofar y.0.sofar x.0.list m (λ rest. same_text x.0.sofar y.0.sofar rest r q y.2.sofar) x.2 in
    rw (ascii.1, from_front at front s other t one u back le, y.1) (ap (λ l. with_list word (length second) y.0.sofar l) (sym y.2.list) ∙ listed)

all_comment : (c : ℕ) (cs : List ℕ) → not (c == number_sign) ≡ false → uncommented (c ∷ cs) ≡ []
all_comment c cs e = take_while-cons (λ x. not (x == number_sign)) c cs ∙ rw e refl

no_comment : (c : ℕ) (cs : List ℕ) → not (c == number_sign) ≡ true → uncommented (c ∷ cs) ≡ c ∷ uncommented cs
no_comment c cs e = take_while-cons (λ x. not (x == number_sign)) c cs ∙ rw e refl

-- a comment in the front of a line, or none
front_comment : (front : List ℕ) → ((rest : List ℕ) → uncommented (front ++ rest) ≡ uncommented front) ⊎ ((rest : List ℕ) → uncommented (front ++ rest) ≡ front ++ uncommented rest)
front_comment [] = inr (λ rest. refl)
front_comment (c ∷ cs) = by_test (not (c == number_sign)) refl (front_comment cs)
  where
    by_test : (t : Bool) → not (c == number_sign) ≡ t → ((rest : List ℕ) → uncommented (cs ++ rest) ≡ uncommented cs) ⊎ ((rest : List ℕ) → uncommented (cs ++ rest) ≡ cs ++ uncommented rest)
        → ((rest : List ℕ) → uncommented (c ∷ cs ++ rest) ≡ uncommented (c ∷ cs)) ⊎ ((rest : List ℕ) → uncommented (c ∷ cs ++ rest) ≡ c ∷ cs ++ uncommented rest)
    by_test false e ih = inl (λ rest. all_comment c (cs ++ rest) e ∙ sym (all_comment c cs e))
    by_test true e (inl ih) = inl (λ rest. no_comment c (cs ++ rest) e ∙ ap (λ t. c ∷ t) (ih rest) ∙ sym (no_comment c cs e))
    by_test true e (inr ih) = inr (λ rest. no_comment c (cs ++ rest) e ∙ ap (λ t. c ∷ t) (ih rest))

no_sign : (s : ℕ) → is_separator s ≡ true → not (s == number_sign) ≡ true
no_sign s h = grind (arith, nat_tests)

after_separator : (s : ℕ) (rest : List ℕ) → is_separator s ≡ true → uncommented (s ∷ rest) ≡ s ∷ uncommented rest
after_separator s rest h = no_comment s rest (no_sign s h)

items_clean : (s : ℕ) (one : List ℕ) (t : ℕ) (other : List ℕ) (u : ℕ) (back : List ℕ) → is_separator s ≡ true → is_separator t ≡ true → is_separator u ≡ true → IsItem one → IsItem other
    → uncommented (s ∷ (one ++ t ∷ (other ++ u ∷ back))) ≡ s ∷ (one ++ t ∷ (other ++ u ∷ uncommented back))
items_clean s one t other u back es et eu i j =
    after_separator s (one ++ t ∷ (other ++ u ∷ back)) es
    ∙ ap (λ x. s ∷ x) (front_passes (λ c. not (c == number_sign)) one (t ∷ (other ++ u ∷ back)) i.clean)
    ∙ ap (λ x. s ∷ (one ++ x)) (after_separator t (other ++ u ∷ back) et)
    ∙ ap (λ x. s ∷ (one ++ t ∷ x)) (front_passes (λ c. not (c == number_sign)) other (u ∷ back) j.clean)
    ∙ ap (λ x. s ∷ (one ++ t ∷ (other ++ x))) (after_separator u back eu)

pub line_alike : ReadRanges → (word : EditWord) (at : ℕ) (front : List ℕ) (s : ℕ) (one : List ℕ) (t : ℕ) (other : List ℕ) (u : ℕ) (back : List ℕ) (m : MatchText) → is_separator s ≡ true → is_separator t ≡ true → is_separator u ≡ true
    → is_item one ≡ true → is_item other ≡ true → at ≤ length front → read_match word at (with_two front s one t other u back) ≡ Ok m → read_match word at (with_two front s other t one u back) ≡ Ok m
line_alike k word at front s one t other u back m es et eu i j le h =
    read_match-text word at (with_two front s other t one u back) ∙ by_comment (front_comment front)
  where
    read : match_of_text word at (uncommented (with_two front s one t other u back)) ≡ Ok m
    read = sym (read_match-text word at (with_two front s one t other u back)) ∙ h

    by_comment : ((rest : List ℕ) → uncommented (front ++ rest) ≡ uncommented front) ⊎ ((rest : List ℕ) → uncommented (front ++ rest) ≡ front ++ uncommented rest)
        → match_of_text word at (uncommented (with_two front s other t one u back)) ≡ Ok m
    by_comment (inl same) =
        ap (match_of_text word at) (same (s ∷ (other ++ t ∷ (one ++ u ∷ back))) ∙ sym (same (s ∷ (one ++ t ∷ (other ++ u ∷ back))))) ∙ read
    by_comment (inr more) =
        let first = more (s ∷ (one ++ t ∷ (other ++ u ∷ back))) ∙ ap (λ x. front ++ x) (items_clean s one t other u back es et eu (item_of one i) (item_of other j)) in
        let second = more (s ∷ (other ++ t ∷ (one ++ u ∷ back))) ∙ ap (λ x. front ++ x) (items_clean s other t one u back es et eu (item_of other j) (item_of one i)) in
        ap (match_of_text word at) second
        ∙ match_alike k word at front s one t other u (uncommented back) m es et eu (item_of one i) (item_of other j) le (ap (match_of_text word at) (sym first) ∙ read)

-- either order is a fault, or neither
pub both_read : ReadRanges → (word : EditWord) (at : ℕ) (front : List ℕ) (s : ℕ) (one : List ℕ) (t : ℕ) (other : List ℕ) (u : ℕ) (back : List ℕ) → is_separator s ≡ true → is_separator t ≡ true → is_separator u ≡ true
    → is_item one ≡ true → is_item other ≡ true → at ≤ length front → is_ok (read_match word at (with_two front s one t other u back)) ≡ is_ok (read_match word at (with_two front s other t one u back))
both_read k word at front s one t other u back es et eu i j le =
    by_results (read_match word at (with_two front s one t other u back)) (read_match word at (with_two front s other t one u back)) (λ m. line_alike k word at front s one t other u back m es et eu i j le) (λ m. line_alike k word at front s other t one u back m es et eu j i le)
  where
    by_results : (r q : Result MatchText TextFault) → ((m : MatchText) → r ≡ Ok m → q ≡ Ok m) → ((m : MatchText) → q ≡ Ok m → r ≡ Ok m) → is_ok r ≡ is_ok q
    by_results (Ok m) q f g = sym (ap is_ok (f m refl))
    by_results (Err e) (Ok m) f g = ap is_ok (g m refl)
    by_results (Err e) (Err d) f g = refl
