-- The brackets of an item, byte after byte.
use Rattle.std.proofs.Common.{◌≡◌, ℕ, suc, ◌+◌, ◌-◌, ◌<◌, ◌≤◌, true, false, List, [], ◌∷◌, ◌++◌, length, get_or, take, drop, refl, sym, ap, ◌∙◌, arith, add-one, append_assoc, append-nil, drop-cons, take-suc, drop_of_length-le}
use Rattle.std.specs.Prelude.{◌==◌, ◌&&◌, reverse}
use Rattle.std.specs.List.{fold}
use Rattle.std.proofs.lemmas.List.{reverse-append, length-reverse, take_all}
use Rattle.std.proofs.lemmas.List.Sums.{fold-append}
use Rattle.std.proofs.lemmas.Bool.Decides.{nat_tests}
use Rattle.spec_flow_text.specs.Items.{is_separator}
use Rattle.spec_flow_text.specs.Actions.{opened_by, open_after, ends_item, up_to_end, is_closed}
use Rattle.action_text.specs.Brackets.{innermost_first, closes}

-- ---- one byte

pub ends_outside : (bs : List ℕ) (c : ℕ) → ((length bs == 0) && is_separator c) ≡ ends_item bs c
ends_outside [] c = refl
ends_outside (close ∷ outer) c =
    let e : (length (close ∷ outer) == 0) ≡ false = grind (arith, nat_tests) in
    rw e refl

pub after_closing : (bs : List ℕ) (c : ℕ) → closes bs c ≡ true → open_after bs c ≡ drop 1 bs
after_closing [] c e = cc
after_closing (close ∷ outer) c e = rw e refl

pub after_other : (bs : List ℕ) (c : ℕ) → closes bs c ≡ false → open_after bs c ≡ opened_by c bs
after_other [] c e = refl
after_other (close ∷ outer) c e = rw e refl

pub ends_with_none_open : (stack : List ℕ) (c : ℕ) → ends_item (innermost_first stack) c ≡ ((length stack == 0) && is_separator c)
ends_with_none_open stack c = sym (ends_outside (innermost_first stack) c) ∙ ap (λ n. (n == 0) && is_separator c) (length-reverse stack)

-- a stack is what stands below its top, and that
split_top : (stack : List ℕ) → 0 < length stack → stack ≡ take (length stack - 1) stack ++ (get_or stack (length stack - 1) 0 ∷ [])
split_top stack lt =
    let below : length stack - 1 < length stack = omega arith in
    let one : suc (length stack - 1) ≡ length stack = omega arith in
    sym (sym (take-suc stack (length stack - 1) 0 below) ∙ rw one (take_all (length stack) stack (omega arith)))

top_first : (stack : List ℕ) → 0 < length stack → reverse stack ≡ get_or stack (length stack - 1) 0 ∷ reverse (take (length stack - 1) stack)
top_first stack lt = ap reverse (split_top stack lt) ∙ reverse-append (take (length stack - 1) stack) (get_or stack (length stack - 1) 0 ∷ [])

pub without_top : (stack : List ℕ) → innermost_first (take (length stack - 1) stack) ≡ drop 1 (innermost_first stack)
without_top [] = refl
without_top (x ∷ xs) = let e = top_first (x ∷ xs) (omega arith) in sym (ap (drop 1) e)

pub closes_top : (stack : List ℕ) (c : ℕ) → 0 < length stack → closes (innermost_first stack) c ≡ (c == get_or stack (length stack - 1) 0)
closes_top stack c lt = ap (λ s. closes s c) (top_first stack lt)

pub with_top : (stack : List ℕ) (c : ℕ) → innermost_first (stack ++ (c ∷ [])) ≡ c ∷ innermost_first stack
with_top stack c = reverse-append stack (c ∷ [])

-- ---- bytes of an item

pub inside : (bs : List ℕ) (c : ℕ) (cs : List ℕ) → ends_item bs c ≡ false → up_to_end bs (c ∷ cs) ≡ c ∷ up_to_end (open_after bs c) cs
unfolding up_to_end
inside bs c cs e = rw e refl

pub outside : (bs : List ℕ) (c : ℕ) (cs : List ℕ) → ends_item bs c ≡ true → up_to_end bs (c ∷ cs) ≡ []
unfolding up_to_end
outside bs c cs e = rw e refl

-- an item whose bytes up to a place are read
abbrev pub item_from : List ℕ → ℕ → List ℕ → List ℕ
item_from bs at text = take at text ++ up_to_end bs (drop at text)

pub at_byte : (bs : List ℕ) (at : ℕ) (text : List ℕ) → at < length text → ends_item bs (get_or text at 0) ≡ false
    → item_from (open_after bs (get_or text at 0)) (at + 1) text ≡ item_from bs at text
at_byte bs at text lt e =
    let c = get_or text at 0 in
    let parts : drop at text ≡ get_or text at 0 ∷ drop (suc at) text = drop-cons text at 0 lt in
    let whole : item_from bs at text ≡ take at text ++ (get_or text at 0 ∷ up_to_end (open_after bs (get_or text at 0)) (drop (suc at) text)) =
    ap (λ t. take at text ++ up_to_end bs t) parts ∙ ap (λ t. take at text ++ t) (inside bs (get_or text at 0) (drop (suc at) text) e) in
    rw add-one (ap (λ t. t ++ up_to_end (open_after bs (get_or text at 0)) (drop (suc at) text)) (take-suc text at 0 lt)
    ∙ append_assoc (take at text) (get_or text at 0 ∷ []) (up_to_end (open_after bs (get_or text at 0)) (drop (suc at) text)) ∙ sym whole)

pub at_end_byte : (bs : List ℕ) (at : ℕ) (text : List ℕ) → at < length text → ends_item bs (get_or text at 0) ≡ true
    → item_from bs at text ≡ take at text
at_end_byte bs at text lt e =
    let parts : drop at text ≡ get_or text at 0 ∷ drop (suc at) text = drop-cons text at 0 lt in
    ap (λ t. take at text ++ up_to_end bs t) parts ∙ ap (λ t. take at text ++ t) (outside bs (get_or text at 0) (drop (suc at) text) e) ∙ append-nil (take at text)

pub at_end : (bs : List ℕ) (at : ℕ) (text : List ℕ) → length text ≤ at → item_from bs at text ≡ take at text
unfolding up_to_end
at_end bs at text le = rw (drop_of_length-le text {i = at} le) (append-nil (take at text))

-- the brackets that are open after the bytes up to a place
abbrev pub open_at : ℕ → List ℕ → List ℕ
open_at at text = fold open_after [] (take at text)

pub open_at_next : (at : ℕ) (text : List ℕ) → at < length text → open_at (at + 1) text ≡ open_after (open_at at text) (get_or text at 0)
open_at_next at text lt = rw add-one (ap (fold open_after []) (take-suc text at 0 lt) ∙ fold-append open_after [] (take at text) (get_or text at 0 ∷ []))

pub closed_where_none_open : (item bs : List ℕ) → bs ≡ fold open_after [] item → (length bs == 0) ≡ is_closed item
unfolding is_closed
closed_where_none_open item bs e = ap (λ (b : List ℕ). length b == 0) e

pub none_open : (bs : List ℕ) (c : ℕ) → ends_item bs c ≡ true → (length bs == 0) ≡ true
none_open [] c e = refl
none_open (close ∷ outer) c e = cc

pub closed_where_empty : (stack item : List ℕ) → innermost_first stack ≡ fold open_after [] item → (length stack == 0) ≡ is_closed item
closed_where_empty stack item e = ap (λ n. n == 0) (sym (length-reverse stack)) ∙ closed_where_none_open item (innermost_first stack) e
