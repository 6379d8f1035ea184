-- Items one after the other, with commas between them.
use Rattle.std.proofs.Common.{◌≡◌, ℕ, ◌+◌, ◌<◌, ◌≤◌, Bool, true, false, List, [], ◌∷◌, ◌++◌, map, length, get_or, drop, refl, sym, ap, ◌∙◌, append_assoc, append-nil}
use Rattle.std.specs.List.{join_with_byte, flat_map}
use Rattle.std.proofs.lemmas.List.{drop_more, drop_all}
use Rattle.std.proofs.lemmas.Grind.{flat_map-append}
use Rattle.spec_flow_text.specs.Characters.{comma}
use Rattle.spec_flow_text.specs.Printed.{Shown, shown_text}
use Rattle.text_numbers.specs.Added.{IsPrefix}
use Rattle.match_text.specs.Shown.{lead, items_text, begun_after}

still_begun : (xs : List Shown) → begun_after true xs ≡ true
still_begun [] = refl
still_begun (x ∷ xs) = refl

pub text_of_both : (begun : Bool) (xs ys : List Shown) → items_text begun (xs ++ ys) ≡ items_text begun xs ++ items_text (begun_after begun xs) ys
unfolding items_text
text_of_both begun [] ys = refl
text_of_both begun (x ∷ xs) ys =
    rw (text_of_both true xs ys, still_begun xs)
    (sym (append_assoc (lead begun) (shown_text x ++ items_text true xs) (items_text true ys)
    ∙ ap (λ t. lead begun ++ t) (append_assoc (shown_text x) (items_text true xs) (items_text true ys))))

pub begun_after_both : (begun : Bool) (xs ys : List Shown) → begun_after begun (xs ++ ys) ≡ begun_after (begun_after begun xs) ys
begun_after_both begun [] ys = refl
begun_after_both begun (x ∷ xs) ys = sym (still_begun ys)

text_behind : (x : Shown) (xs : List Shown) → join_with_byte comma (map shown_text (x ∷ xs)) ≡ shown_text x ++ items_text true xs
unfolding items_text
text_behind x [] = sym (append-nil (shown_text x))
text_behind x (y ∷ ys) = ap (λ t. shown_text x ++ (comma ∷ t)) (text_behind y ys)

pub joined : (xs : List Shown) → items_text false xs ≡ join_with_byte comma (map shown_text xs)
unfolding items_text
joined [] = refl
joined (x ∷ xs) = sym (text_behind x xs)

-- the items of one more field
pub one_more : {A : Type 0} (f : A → List Shown) (begun : Bool) (old mid : List ℕ) (xs : List A) (i : ℕ) (d : A) → i < length xs
    → mid ≡ old ++ items_text begun (f (get_or xs i d))
    → mid ++ items_text (begun_after begun (f (get_or xs i d))) (flat_map f (drop (i + 1) xs)) ≡ old ++ items_text begun (flat_map f (drop i xs))
one_more f begun old mid xs i d lt added =
    let here = f (get_or xs i d) in
    let rest = flat_map f (drop (i + 1) xs) in
    rw (added, drop_more xs i d lt) (append_assoc old (items_text begun here) (items_text (begun_after begun here) rest)
    ∙ ap (λ t. old ++ t) (sym (text_of_both begun here rest)))

pub none_left : {A : Type 0} (f : A → List Shown) (begun : Bool) (old : List ℕ) (xs : List A) (i : ℕ) → length xs ≤ i
    → old ++ items_text begun (flat_map f (drop i xs)) ≡ old
unfolding items_text
none_left f begun old xs i le = rw (drop_all i xs le) (append-nil old)

pub one_more_begun : {A : Type 0} (f : A → List Shown) (begun : Bool) (xs : List A) (i : ℕ) (d : A) → i < length xs
    → begun_after (begun_after begun (f (get_or xs i d))) (flat_map f (drop (i + 1) xs)) ≡ begun_after begun (flat_map f (drop i xs))
one_more_begun f begun xs i d lt =
    rw (drop_more xs i d lt) (sym (begun_after_both begun (f (get_or xs i d)) (flat_map f (drop (i + 1) xs))))

pub none_left_begun : {A : Type 0} (f : A → List Shown) (begun : Bool) (xs : List A) (i : ℕ) → length xs ≤ i → begun_after begun (flat_map f (drop i xs)) ≡ begun
none_left_begun f begun xs i le = rw (drop_all i xs le) refl

-- ---- what a text begins with

pub begins_with_itself : (text : List ℕ) → IsPrefix text text
begins_with_itself text = record { rest = []; whole = sym (append-nil text) }

pub begins_on : (old mid new : List ℕ) → IsPrefix old mid → IsPrefix mid new → IsPrefix old new
begins_on old mid new first second = record {
  rest = first.rest ++ second.rest;
  whole = second.whole ∙ ap (λ t. t ++ second.rest) first.whole ∙ append_assoc old first.rest second.rest;
}

pub begins_before : (old mid new more : List ℕ) → IsPrefix old mid → new ≡ mid ++ more → IsPrefix old new
begins_before old mid new more first added = begins_on old mid new first (record { rest = more; whole = added })

-- ---- items in two parts

pub both_printed : (begun after : Bool) (xs ys zs : List Shown) → after ≡ begun_after begun xs → xs ++ ys ≡ zs
    → items_text begun xs ++ items_text after ys ≡ items_text begun zs
both_printed begun after xs ys zs is_after whole = rw (is_after, ← whole, text_of_both begun xs ys) refl

pub both_begun : (begun after later : Bool) (xs ys zs : List Shown) → after ≡ begun_after begun xs → xs ++ ys ≡ zs → later ≡ begun_after after ys
    → later ≡ begun_after begun zs
both_begun begun after later xs ys zs is_after whole is_later = is_later ∙ rw (is_after, ← whole) (sym (begun_after_both begun xs ys))

-- the items of fields in two parts
pub parts_printed : {A : Type 0} (f : A → List Shown) (begun after : Bool) (xs ys : List A) → after ≡ begun_after begun (flat_map f xs)
    → items_text begun (flat_map f xs) ++ items_text after (flat_map f ys) ≡ items_text begun (flat_map f (xs ++ ys))
parts_printed f begun after xs ys is_after =
    both_printed begun after (flat_map f xs) (flat_map f ys) (flat_map f (xs ++ ys)) is_after (sym (flat_map-append f xs ys))
