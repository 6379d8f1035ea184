-- Kinds of classes, line by line.
use Rattle.std.proofs.Common.{◌≡◌, ℕ, ◌+◌, ◌<◌, ◌≤◌, Bool, true, false, ◌||◌, if◌then◌else◌, List, [], ◌∷◌, ◌++◌, length, get_or, drop, refl, sym, ap, ◌∙◌, arith, append_assoc, length-append}
use Rattle.std.specs.List.{list_any, flat_map, count_by}
use Rattle.std.proofs.lemmas.List.Concat.{flat_map-cons}
use Rattle.std.proofs.lemmas.List.Sums.{sum_by-cons}
use Rattle.spec_tools.specs.Classes.{one_if}
use Rattle.spec_tools.specs.Lines as spec
use Rattle.spec_tools.specs.Lines.{Said}
use Rattle.spec_tools.specs.Lines.Said.{Alike, Differ}
use Rattle.class_list.specs.declared.line.Line.{Line}
use Rattle.class_list.specs.LineViews.{said_view, line_view, lines_view}
use Rattle.class_list.proofs.SaidLaws.{left_from, none_left}
use Rattle.text_numbers.specs.Added.{IsPrefix}
use Rattle.spec_tools.specs.DiffTexts.{Kind, is_same_kind, kind_of, kinds_in, kinds_of, kind_line, line_text}
use Rattle.diff_app.specs.Pieces.{last_kind, last_kind_text}

-- ---- the kinds of a line, and of those that follow

abbrev pub own_kind : Line → List Kind
own_kind x = kind_of (said_view x.class)

abbrev pub later_kinds : List Line → ℕ → List Kind
later_kinds lines i = kinds_in (lines_view (drop i lines))

pub kinds_from : (lines : List Line) (i : ℕ) (x : Line) → i < length lines → x ≡ get_or lines i x
    → later_kinds lines i ≡ own_kind x ++ later_kinds lines (i + 1)
kinds_from lines i x within is =
    ap kinds_in (left_from lines i x within is) ∙ flat_map-cons (λ (l : spec.Line). kind_of l.said) (line_view x) (lines_view (drop (i + 1) lines))

pub no_later : (lines : List Line) (i : ℕ) → length lines ≤ i → later_kinds lines i ≡ []
no_later lines i past = ap kinds_in (none_left lines i past)

-- ---- one line more

list_any-append : {X : Type 0} (p : X → Bool) (xs ys : List X) → list_any p (xs ++ ys) ≡ (list_any p xs || list_any p ys)
list_any-append p [] ys = refl
list_any-append p (x ∷ xs) ys = at (p x) (list_any-append p xs ys)
  where
    at : (t : Bool) → list_any p (xs ++ ys) ≡ (list_any p xs || list_any p ys) → (t || list_any p (xs ++ ys)) ≡ ((t || list_any p xs) || list_any p ys)
    at true ih = refl
    at false ih = ih

pub any_in : (p : Kind → Bool) (lines : List Line) → list_any p (kinds_in (lines_view lines)) ≡ list_any (λ (x : Line). list_any p (own_kind x)) lines
any_in p [] = refl
any_in p (x ∷ lines) =
    ap (list_any p) (flat_map-cons (λ (l : spec.Line). kind_of l.said) (line_view x) (lines_view lines))
    ∙ list_any-append p (own_kind x) (kinds_in (lines_view lines)) ∙ ap (λ (t : Bool). list_any p (own_kind x) || t) (any_in p lines)

count_one : (p : Kind → Bool) (s : Said) (rest : List Kind) → count_by p (kind_of s ++ rest) ≡ one_if (list_any p (kind_of s)) + count_by p rest
count_one p Alike rest = omega arith
count_one p (Differ old new) rest =
    sum_by-cons (λ (k : Kind). if p k then 1 else 0) (record { old = old; new = new }) rest
    ∙ ap (λ (n : ℕ). n + count_by p rest) (at (p (record { old = old; new = new })))
  where
    at : (t : Bool) → (if t then 1 else 0) ≡ one_if (t || false)
    at true = refl
    at false = refl

pub counted_in : (p : Kind → Bool) (lines : List Line) (i : ℕ) (x : Line) → i < length lines → x ≡ get_or lines i x
    → count_by p (later_kinds lines i) ≡ one_if (list_any p (own_kind x)) + count_by p (later_kinds lines (i + 1))
counted_in p lines i x within is =
    ap (count_by p) (kinds_from lines i x within is) ∙ count_one p (said_view x.class) (later_kinds lines (i + 1))

kinds_one : (s : Said) (rest : List Kind) → kinds_of (kind_of s ++ rest) ≡ last_kind (kind_of s) rest ++ kinds_of rest
unfolding kinds_of
kinds_one Alike rest = refl
kinds_one (Differ old new) rest = at (list_any (is_same_kind (record { old = old; new = new })) rest)
  where
    at : (t : Bool) → (if t then kinds_of rest else record { old = old; new = new } ∷ kinds_of rest)
        ≡ (if t then [] else record { old = old; new = new } ∷ []) ++ kinds_of rest
    at true = refl
    at false = refl

pub last_in : (lines : List Line) (i : ℕ) (x : Line) → i < length lines → x ≡ get_or lines i x
    → kinds_of (later_kinds lines i) ≡ last_kind (own_kind x) (later_kinds lines (i + 1)) ++ kinds_of (later_kinds lines (i + 1))
last_in lines i x within is = ap kinds_of (kinds_from lines i x within is) ∙ kinds_one (said_view x.class) (later_kinds lines (i + 1))

pub no_kinds : (lines : List Line) (i : ℕ) → length lines ≤ i → kinds_of (later_kinds lines i) ≡ []
unfolding kinds_of
no_kinds lines i past = ap kinds_of (no_later lines i past)

-- ---- numbers

pub count_step : (lines : List Line) (i : ℕ) (x : Line) (n m all : ℕ) → i < length lines → x ≡ get_or lines i x
    → m ≡ length (last_kind (own_kind x) (later_kinds lines (i + 1))) → n + length (kinds_of (later_kinds lines i)) ≡ all
    → n + m + length (kinds_of (later_kinds lines (i + 1))) ≡ all
count_step lines i x n m all within is one so_far =
    let parts : length (kinds_of (later_kinds lines i)) ≡ length (last_kind (own_kind x) (later_kinds lines (i + 1))) + length (kinds_of (later_kinds lines (i + 1))) =
    ap length (last_in lines i x within is) ∙ length-append (last_kind (own_kind x) (later_kinds lines (i + 1))) (kinds_of (later_kinds lines (i + 1))) in
    omega (arith, one, so_far, parts)

pub at_most : (s : Said) (later : List Kind) → length (last_kind (kind_of s) later) ≤ 1
at_most Alike later = omega arith
at_most (Differ old new) later = at (list_any (is_same_kind (record { old = old; new = new })) later)
  where
    at : (t : Bool) → length {A = Kind} (if t then [] else record { old = old; new = new } ∷ []) ≤ 1
    at true = omega arith
    at false = omega arith

pub classes_step : (lines : List Line) (i : ℕ) (x : Line) (n m all : ℕ) → i < length lines → x ≡ get_or lines i x
    → m ≡ length (own_kind x) → n + length (later_kinds lines i) ≡ all → n + m + length (later_kinds lines (i + 1)) ≡ all
classes_step lines i x n m all within is one so_far =
    let parts : length (later_kinds lines i) ≡ length (own_kind x) + length (later_kinds lines (i + 1)) =
    ap length (kinds_from lines i x within is) ∙ length-append (own_kind x) (later_kinds lines (i + 1)) in
    omega (arith, one, so_far, parts)

pub one_class : (s : Said) → length (kind_of s) ≤ 1
one_class Alike = omega arith
one_class (Differ old new) = omega arith

-- ---- texts

-- a text with one part more
pub text_step : (old mid all : List ℕ) (x rest whole new : List ℕ) → mid ++ whole ≡ all → whole ≡ x ++ rest → new ≡ mid ++ x → new ++ rest ≡ all
text_step old mid all x rest whole new so_far parts more =
    ap (λ (z : List ℕ). z ++ rest) more ∙ append_assoc mid x rest ∙ ap (λ (z : List ℕ). mid ++ z) (sym parts) ∙ so_far

pub begins_more : (old mid new x : List ℕ) → IsPrefix old mid → new ≡ mid ++ x → IsPrefix old new
begins_more old mid new x begins more = record {
  rest = begins.rest ++ x;
  whole = more ∙ ap (λ (z : List ℕ). z ++ x) begins.whole ∙ append_assoc old begins.rest x;
}

pub begins_later : (old mid new : List ℕ) → IsPrefix old mid → IsPrefix mid new → IsPrefix old new
begins_later old mid new first second = record {
  rest = first.rest ++ second.rest;
  whole = second.whole ∙ ap (λ (z : List ℕ). z ++ second.rest) first.whole ∙ append_assoc old first.rest second.rest;
}

flat_map-append : {X : Type 0} (f : X → List ℕ) (xs ys : List X) → flat_map f (xs ++ ys) ≡ flat_map f xs ++ flat_map f ys
flat_map-append f [] ys = refl
flat_map-append f (x ∷ xs) ys =
    flat_map-cons f x (xs ++ ys) ∙ ap (λ (z : List ℕ). f x ++ z) (flat_map-append f xs ys)
    ∙ sym (append_assoc (f x) (flat_map f xs) (flat_map f ys)) ∙ ap (λ (z : List ℕ). z ++ flat_map f ys) (sym (flat_map-cons f x xs))

pub kind_parts : (all : List Kind) (lines : List Line) (i : ℕ) (x : Line) → i < length lines → x ≡ get_or lines i x
    → flat_map (kind_line all) (kinds_of (later_kinds lines i))
    ≡ last_kind_text all (own_kind x) (later_kinds lines (i + 1)) ++ flat_map (kind_line all) (kinds_of (later_kinds lines (i + 1)))
kind_parts all lines i x within is =
    ap (flat_map (kind_line all)) (last_in lines i x within is)
    ∙ flat_map-append (kind_line all) (last_kind (own_kind x) (later_kinds lines (i + 1))) (kinds_of (later_kinds lines (i + 1)))

pub line_parts : (lines : List Line) (i : ℕ) (x : Line) → i < length lines → x ≡ get_or lines i x
    → flat_map line_text (lines_view (drop i lines)) ≡ line_text (line_view x) ++ flat_map line_text (lines_view (drop (i + 1) lines))
line_parts lines i x within is =
    ap (flat_map line_text) (left_from lines i x within is) ∙ flat_map-cons line_text (line_view x) (lines_view (drop (i + 1) lines))
