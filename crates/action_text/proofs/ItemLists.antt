-- The items of a text, from the left.
use Rattle.std.proofs.Common.{◌≡◌, ℕ, suc, ◌+◌, ◌<◌, ◌≤◌, Bool, true, false, cond, List, [], ◌∷◌, length, get_or, take, drop, refl, sym, ap, ◌∙◌, arith, length-drop}
use Rattle.std.specs.List.{prefix_len}
use Rattle.std.proofs.lemmas.List.{get_or-drop, length-take-le}
use Rattle.std.proofs.lemmas.List.Sums.{prefix_len_stops}
use Rattle.spec_flow_text.specs.Items.{Word, is_separator}
use Rattle.spec_flow_text.specs.Actions.{open_after, ends_item, up_to_end, items}
use Rattle.action_text.proofs.ItemBytes.{inside, outside}

none_left : (bs : List ℕ) (fresh : Bool) (at : ℕ) → items bs fresh at [] ≡ []
unfolding items
none_left bs fresh at = refl

at_separator : (bs : List ℕ) (fresh : Bool) (at c : ℕ) (cs : List ℕ) → ends_item bs c ≡ true → items bs fresh at (c ∷ cs) ≡ items [] true (at + 1) cs
unfolding items
at_separator bs fresh at c cs e = rw e refl

in_item : (bs : List ℕ) (at c : ℕ) (cs : List ℕ) → ends_item bs c ≡ false → items bs false at (c ∷ cs) ≡ items (open_after bs c) false (at + 1) cs
unfolding items
in_item bs at c cs e = rw e refl

at_item : (bs : List ℕ) (at c : ℕ) (cs : List ℕ) → ends_item bs c ≡ false
    → items bs true at (c ∷ cs) ≡ record { at = at; text = up_to_end bs (c ∷ cs) } ∷ items (open_after bs c) false (at + 1) cs
unfolding items
at_item bs at c cs e = rw e refl

no_bytes : (bs : List ℕ) → up_to_end bs [] ≡ []
unfolding up_to_end
no_bytes bs = refl

-- items from so many bytes further on
abbrev after : ℕ → ℕ → List ℕ → List Word
after n at text = items [] true (at + n) (drop n text)

further : (at n c : ℕ) (cs : List ℕ) → after n (at + 1) cs ≡ after (1 + n) at (c ∷ cs)
further at n c cs =
    let e : 1 + n ≡ suc n = omega arith in
    let d : at + 1 + n ≡ at + suc n = omega arith in
    rw (e, d) refl

at_once : (at : ℕ) (text : List ℕ) → items [] true at text ≡ after 0 at text
at_once at text = let z : at ≡ at + 0 = omega arith in ap (λ n. items [] true n text) z

-- separators in front make no item
pub skips : (at : ℕ) (text : List ℕ) → items [] true at text ≡ after (prefix_len is_separator text) at text
skips at [] = at_once at []
skips at (c ∷ cs) = by_test at c cs (is_separator c) refl (skips (at + 1) cs)
  where
    by_test : (at c : ℕ) (cs : List ℕ) (t : Bool) → is_separator c ≡ t
        → items [] true (at + 1) cs ≡ after (prefix_len is_separator cs) (at + 1) cs
        → items [] true at (c ∷ cs) ≡ after (cond t (1 + prefix_len is_separator cs) 0) at (c ∷ cs)
    by_test at c cs true e ih = at_separator [] true at c cs e ∙ ih ∙ further at (prefix_len is_separator cs) c cs
    by_test at c cs false e ih = at_once at (c ∷ cs)

separator_outside : (bs : List ℕ) (at c : ℕ) (cs : List ℕ) → ends_item bs c ≡ true → items [] true at (c ∷ cs) ≡ items [] true (at + 1) cs
separator_outside [] at c cs e = at_separator [] true at c cs e
separator_outside (close ∷ outer) at c cs e = cc

-- the rest of an item is no item
passes : (bs : List ℕ) (at : ℕ) (text : List ℕ) → items bs false at text ≡ after (length (up_to_end bs text)) at text
passes bs at [] = none_left bs false at ∙ sym (none_left [] true (at + 0)) ∙ ap (λ t. after (length t) at []) (sym (no_bytes bs))
passes bs at (c ∷ cs) = by_test bs at c cs (ends_item bs c) refl (passes (open_after bs c) (at + 1) cs)
  where
    by_test : (bs : List ℕ) (at c : ℕ) (cs : List ℕ) (t : Bool) → ends_item bs c ≡ t
        → items (open_after bs c) false (at + 1) cs ≡ after (length (up_to_end (open_after bs c) cs)) (at + 1) cs
        → items bs false at (c ∷ cs) ≡ after (length (up_to_end bs (c ∷ cs))) at (c ∷ cs)
    by_test bs at c cs false e ih =
        in_item bs at c cs e ∙ ih ∙ further at (length (up_to_end (open_after bs c) cs)) c cs
        ∙ ap (λ n. after n at (c ∷ cs)) (let one : 1 + length (up_to_end (open_after bs c) cs) ≡ length (c ∷ up_to_end (open_after bs c) cs) = omega arith in one)
        ∙ ap (λ t. after (length t) at (c ∷ cs)) (sym (inside bs c cs e))
    by_test bs at c cs true e ih =
        at_separator bs false at c cs e ∙ sym (separator_outside bs at c cs e) ∙ at_once at (c ∷ cs)
        ∙ ap (λ t. after (length t) at (c ∷ cs)) (sym (outside bs c cs e))

-- an item, and what follows it
pub begins : (at : ℕ) (text : List ℕ) → 0 < length text → is_separator (get_or text 0 0) ≡ false
    → items [] true at text ≡ record { at = at; text = up_to_end [] text } ∷ after (length (up_to_end [] text)) at text
begins at [] lt e = absurd (omega arith)
begins at (c ∷ cs) lt e = at_item [] at c cs e ∙ ap (λ ws. record { at = at; text = up_to_end [] (c ∷ cs) } ∷ ws) (sym (in_item [] at c cs e) ∙ passes [] at (c ∷ cs))

pub none : (at : ℕ) → items [] true at [] ≡ []
none at = none_left [] true at

-- the item has a byte
pub some_inside : (text : List ℕ) → 0 < length text → is_separator (get_or text 0 0) ≡ false → 0 < length (up_to_end [] text)
some_inside [] lt e = absurd (omega arith)
some_inside (c ∷ cs) lt e = rw (inside [] c cs e) (omega arith)

-- after separators there is none
pub stops : (text : List ℕ) → 0 < length (drop (prefix_len is_separator text) text) → is_separator (get_or (drop (prefix_len is_separator text) text) 0 0) ≡ false
stops text lt =
    let within : prefix_len is_separator text < length text = omega (arith, length-drop (prefix_len is_separator text) text) in
    let z : prefix_len is_separator text + 0 ≡ prefix_len is_separator text = omega arith in
    rw (get_or-drop (prefix_len is_separator text) text 0 0, z) (prefix_len_stops is_separator text 0 within)

-- an item that is cut off, and what follows it
pub cut : (at n : ℕ) (text : List ℕ) → 0 < length text → is_separator (get_or text 0 0) ≡ false → take n text ≡ up_to_end [] text → n ≤ length text
    → items [] true at text ≡ record { at = at; text = take n text } ∷ items [] true (at + n) (drop n text)
cut at n text lt sep e le =
    let long : length (up_to_end [] text) ≡ n = ap length (sym e) ∙ length-take-le n text le in
    begins at text lt sep ∙ ap (λ t. record { at = at; text = t } ∷ after (length (up_to_end [] text)) at text) (sym e)
    ∙ ap (λ k. record { at = at; text = take n text } ∷ after k at text) long

pub cut_shorter : (n : ℕ) (text : List ℕ) → 0 < length text → is_separator (get_or text 0 0) ≡ false → take n text ≡ up_to_end [] text → n ≤ length text
    → length (drop n text) < length text
cut_shorter n text lt sep e le =
    let long : length (up_to_end [] text) ≡ n = ap length (sym e) ∙ length-take-le n text le in
    omega (arith, length-drop n text, some_inside text lt sep)
