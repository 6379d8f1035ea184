-- Words and items of a text with a separator at its end.
use Rattle.std.proofs.Common.{◌≡◌, ℕ, ◌+◌, Bool, true, false, cond, List, [], ◌∷◌, ◌++◌, length, Option, Some, None, Result, Ok, Err, refl, sym, subst, ap, ◌∙◌, arith, eqb-true}
use Rattle.std.specs.Prelude.{not, ◌&&◌, ◌==◌}
use Rattle.std.specs.List.{fold}
use Rattle.std.proofs.lemmas.Bool.{not_from_true, both_ways}
use Rattle.std.proofs.lemmas.Bool.Decides.{nat_tests}
use Rattle.spec_actions.specs.declared.action.OfAction.{OfAction}
use Rattle.spec_flow_text.specs.Characters.{left_parenthesis, left_bracket}
use Rattle.spec_flow_text.specs.Numbers.{where_found}
use Rattle.spec_flow_text.specs.declared.names.ActionName.{ActionName}
use Rattle.spec_flow_text.specs.declared.names.ActionName.TheVariants as action
use Rattle.spec_flow_text.specs.declared.fault.TextFault.{TextFault}
use Rattle.spec_flow_text.specs.declared.fault.TextFault.TheVariants as fault
use Rattle.spec_flow_text.specs.Names.{action_named}
use Rattle.spec_flow_text.specs.Items.{◌>>=◌, Word, column, is_separator, words, up_to_separator}
use Rattle.spec_flow_text.specs.Actions.{open_after, ends_item, up_to_end, items, is_closed, name_in, actions_named, closed_item, actions_of_item, most_actions, is_last, read_items}
use Rattle.text_laws.specs.Texts.{texts_of}
use Rattle.text_laws.proofs.Cuts.{take_while-ended}

-- ---- words

pub words-ended : (separates : ℕ → Bool) (fresh : Bool) (at : ℕ) (text : List ℕ) (s : ℕ) → separates s ≡ true → words separates fresh at (text ++ s ∷ []) ≡ words separates fresh at text
unfolding words
words-ended separates fresh at [] s e = rw e refl
words-ended separates fresh at (c ∷ cs) s e =
    rw (
      words-ended separates true (at + 1) cs s e,
      words-ended separates false (at + 1) cs s e,
      take_while-ended (λ x. not (separates x)) (c ∷ cs) [] s (not_from_true (separates s) e),
    ) refl

-- the texts of words alike
cond_texts : (t fresh : Bool) (x y u v : List Word) (w z : Word) → w.text ≡ z.text → texts_of x ≡ texts_of y → texts_of u ≡ texts_of v
    → texts_of (cond t x (cond fresh (w ∷ u) u)) ≡ texts_of (cond t y (cond fresh (z ∷ v) v))
cond_texts true fresh x y u v w z text front rest = front
cond_texts false false x y u v w z text front rest = rest
cond_texts false true x y u v w z text front rest = rw (text, rest) refl

pub words-cons : (separates : ℕ → Bool) (fresh : Bool) (at c : ℕ) (cs : List ℕ) → words separates fresh at (c ∷ cs)
    ≡ cond (separates c) (words separates true (at + 1) cs) (cond fresh (record { at = at; text = up_to_separator separates (c ∷ cs) } ∷ words separates false (at + 1) cs) (words separates false (at + 1) cs))
unfolding words
words-cons separates fresh at c cs = refl

pub words-none : (separates : ℕ → Bool) (fresh : Bool) (at : ℕ) → words separates fresh at [] ≡ []
unfolding words
words-none separates fresh at = refl

-- a text elsewhere in its line has the same words
words-elsewhere : (separates : ℕ → Bool) (fresh : Bool) (at other : ℕ) (text : List ℕ) → texts_of (words separates fresh at text) ≡ texts_of (words separates fresh other text)
words-elsewhere separates fresh at other [] = ap texts_of (words-none separates fresh at ∙ sym (words-none separates fresh other))
words-elsewhere separates fresh at other (c ∷ cs) =
    ap texts_of (words-cons separates fresh at c cs)
    ∙ cond_texts (separates c) fresh (words separates true (at + 1) cs) (words separates true (other + 1) cs) (words separates false (at + 1) cs) (words separates false (other + 1) cs) (record { at = at; text = up_to_separator separates (c ∷ cs) }) (record { at = other; text = up_to_separator separates (c ∷ cs) }) refl (words-elsewhere separates true (at + 1) (other + 1) cs) (words-elsewhere separates false (at + 1) (other + 1) cs)
    ∙ ap texts_of (sym (words-cons separates fresh other c cs))

pub words-separated : (separates : ℕ → Bool) (fresh : Bool) (at c : ℕ) (cs : List ℕ) → separates c ≡ true → words separates fresh at (c ∷ cs) ≡ words separates true (at + 1) cs
words-separated separates fresh at c cs e = words-cons separates fresh at c cs ∙ rw e refl

-- and so has a text with two separators in place of one
pub words-doubled : (separates : ℕ → Bool) (fresh : Bool) (at : ℕ) (front back : List ℕ) (s t : ℕ) → separates s ≡ true → separates t ≡ true
    → texts_of (words separates fresh at (front ++ s ∷ t ∷ back)) ≡ texts_of (words separates fresh at (front ++ s ∷ back))
words-doubled separates fresh at [] back s t e f =
    ap texts_of (words-separated separates fresh at s (t ∷ back) e ∙ words-separated separates true (at + 1) t back f)
    ∙ words-elsewhere separates true (at + 1 + 1) (at + 1) back
    ∙ ap texts_of (sym (words-separated separates fresh at s back e))
words-doubled separates fresh at (c ∷ cs) back s t e f =
    let stops = not_from_true (separates s) e in
    let text = take_while-ended (λ x. not (separates x)) (c ∷ cs) (t ∷ back) s stops ∙ sym (take_while-ended (λ x. not (separates x)) (c ∷ cs) back s stops) in
    ap texts_of (words-cons separates fresh at c (cs ++ s ∷ t ∷ back))
    ∙ cond_texts (separates c) fresh (words separates true (at + 1) (cs ++ s ∷ t ∷ back)) (words separates true (at + 1) (cs ++ s ∷ back)) (words separates false (at + 1) (cs ++ s ∷ t ∷ back)) (words separates false (at + 1) (cs ++ s ∷ back)) (record { at = at; text = up_to_separator separates (c ∷ cs ++ s ∷ t ∷ back) }) (record { at = at; text = up_to_separator separates (c ∷ cs ++ s ∷ back) }) text (words-doubled separates true (at + 1) cs back s t e f) (words-doubled separates false (at + 1) cs back s t e f)
    ∙ ap texts_of (sym (words-cons separates fresh at c (cs ++ s ∷ back)))

-- ---- items

not_opened : (c opening : ℕ) → is_separator opening ≡ false → is_separator c ≡ true → (c == opening) ≡ false
not_opened c opening other e = by_test (c == opening) refl
  where
    by_test : (t : Bool) → (c == opening) ≡ t → t ≡ false
    by_test false is = refl
    by_test true is = absurd (both_ways (is_separator c) (rw (eqb-true c opening is) other) e)

-- no bracket is open after what ends an item
pub ended_open : (brackets : List ℕ) (c : ℕ) → ends_item brackets c ≡ true → open_after brackets c ≡ []
ended_open [] c e = rw (not_opened c left_parenthesis refl e, not_opened c left_bracket refl e) refl
ended_open (close ∷ outer) c e = cc

up_to_end-ended : (brackets text : List ℕ) (s : ℕ) → is_separator s ≡ true → fold open_after brackets text ≡ [] → up_to_end brackets (text ++ s ∷ []) ≡ up_to_end brackets text
unfolding up_to_end
up_to_end-ended brackets [] s e closed = subst (λ bs. up_to_end bs (s ∷ []) ≡ []) (sym closed) (rw e refl)
up_to_end-ended brackets (c ∷ cs) s e closed = ap (λ rest. cond (ends_item brackets c) [] (c ∷ rest)) (up_to_end-ended (open_after brackets c) cs s e closed)

pub items-cons : (brackets : List ℕ) (fresh : Bool) (at c : ℕ) (cs : List ℕ) → items brackets fresh at (c ∷ cs)
    ≡ cond (ends_item brackets c) (items [] true (at + 1) cs) (cond fresh (record { at = at; text = up_to_end brackets (c ∷ cs) } ∷ items (open_after brackets c) false (at + 1) cs) (items (open_after brackets c) false (at + 1) cs))
unfolding items
items-cons brackets fresh at c cs = refl

pub items-none : (brackets : List ℕ) (fresh : Bool) (at : ℕ) → items brackets fresh at [] ≡ []
unfolding items
items-none brackets fresh at = refl

pub items-ended : (brackets : List ℕ) (fresh : Bool) (at : ℕ) (text : List ℕ) (s : ℕ) → is_separator s ≡ true → fold open_after brackets text ≡ []
    → items brackets fresh at (text ++ s ∷ []) ≡ items brackets fresh at text
items-ended brackets fresh at [] s e closed =
    subst (λ bs. items bs fresh at (s ∷ []) ≡ items bs fresh at []) (sym closed) (items-cons [] fresh at s [] ∙ (rw e (items-none [] true (at + 1) ∙ sym (items-none [] fresh at))))
items-ended brackets fresh at (c ∷ cs) s e closed =
    items-cons brackets fresh at c (cs ++ s ∷ []) ∙ (by_test brackets fresh at c cs s (ends_item brackets c) refl (up_to_end-ended brackets (c ∷ cs) s e closed) (λ f. items-ended (open_after brackets c) f (at + 1) cs s e closed) ∙ sym (items-cons brackets fresh at c cs))
  where
    by_test : (brackets : List ℕ) (fresh : Bool) (at c : ℕ) (cs : List ℕ) (s : ℕ) (t : Bool) → ends_item brackets c ≡ t
        → up_to_end brackets (c ∷ cs ++ s ∷ []) ≡ up_to_end brackets (c ∷ cs)
        → ((f : Bool) → items (open_after brackets c) f (at + 1) (cs ++ s ∷ []) ≡ items (open_after brackets c) f (at + 1) cs)
        → cond t (items [] true (at + 1) (cs ++ s ∷ [])) (cond fresh (record { at = at; text = up_to_end brackets (c ∷ cs ++ s ∷ []) } ∷ items (open_after brackets c) false (at + 1) (cs ++ s ∷ [])) (items (open_after brackets c) false (at + 1) (cs ++ s ∷ [])))
        ≡ cond t (items [] true (at + 1) cs) (cond fresh (record { at = at; text = up_to_end brackets (c ∷ cs) } ∷ items (open_after brackets c) false (at + 1) cs) (items (open_after brackets c) false (at + 1) cs))
    by_test brackets fresh at c cs s true is text ih = subst (λ bs. items bs true (at + 1) (cs ++ s ∷ []) ≡ items bs true (at + 1) cs) (ended_open brackets c is) (ih true)
    by_test brackets fresh at c cs s false is text ih = rw (text, ih false) refl

-- ---- brackets of what is read

tested : {A : Type 0} (t : Bool) (r : Result A TextFault) (e : TextFault) (a : A) → cond t r (Err e) ≡ Ok a → t ≡ true
tested true r e a h = refl
tested false r e a h = cc

closed_item-closed : (w : Word) (name : ActionName) (only last : Bool) (list : List OfAction) → closed_item w name only last ≡ Ok list → is_closed w.text ≡ true
closed_item-closed w action.Unsupported only last list h = cc
closed_item-closed w name only last list h = tested (is_closed w.text) (actions_named name only last w) (fault.Syntax (column w)) list h

pub item_closed : (only last : Bool) (w : Word) (list : List OfAction) → actions_of_item only last w ≡ Ok list → is_closed w.text ≡ true
unfolding actions_of_item
item_closed only last w list h = by_name (action_named (name_in w)) h
  where
    by_name : (o : Option ActionName) → where_found o (λ name. closed_item w name only last) (Err (fault.UnknownName (column w))) ≡ Ok list → is_closed w.text ≡ true
    by_name None h = cc
    by_name (Some name) h = closed_item-closed w name only last list h

-- the first item of a list that is read, and the rest
abbrev IsReadOn : List OfAction → Word → List Word → List OfAction → Type 0
IsReadOn before w ws list = (is_closed w.text ≡ true) × ((actions : List OfAction) × (read_items (before ++ actions) ws ≡ Ok list))

read_on : (before : List OfAction) (w : Word) (ws : List Word) (list : List OfAction) → read_items before (w ∷ ws) ≡ Ok list → IsReadOn before w ws list
unfolding read_items
read_on before w ws list h = by_count (length before == most_actions) h
  where
    by_item : (r : Result (List OfAction) TextFault) → actions_of_item ((length before == 0) && is_last ws) (is_last ws) w ≡ r
        → r >>= (λ actions. read_items (before ++ actions) ws) ≡ Ok list → IsReadOn before w ws list
    by_item (Err e) is h = cc
    by_item (Ok actions) is h = (item_closed ((length before == 0) && is_last ws) (is_last ws) w actions is, (actions, h))

    by_count : (t : Bool) → cond t (Err fault.TooManyActions) (actions_of_item ((length before == 0) && is_last ws) (is_last ws) w >>= (λ actions. read_items (before ++ actions) ws)) ≡ Ok list
        → IsReadOn before w ws list
    by_count true h = cc
    by_count false h = by_item (actions_of_item ((length before == 0) && is_last ws) (is_last ws) w) refl h

-- at the end of a text whose items are read no bracket is open
abbrev IsClosedFrom : List ℕ → Bool → List ℕ → Type 0
IsClosedFrom brackets fresh text = (at : ℕ) (before list : List OfAction) → read_items before (items brackets fresh at text) ≡ Ok list → fold open_after brackets text ≡ []

-- after separators, and within an item that closes
abbrev AreClosed : List ℕ → Type 0
AreClosed text = IsClosedFrom [] true text × ((brackets : List ℕ) → fold open_after brackets (up_to_end brackets text) ≡ [] → IsClosedFrom brackets false text)

closed_at_end : (brackets : List ℕ) → fold open_after brackets (up_to_end brackets []) ≡ [] → brackets ≡ []
unfolding up_to_end
closed_at_end brackets h = h

pub up_to_end-cons : (brackets : List ℕ) (c : ℕ) (cs : List ℕ) → ends_item brackets c ≡ false → up_to_end brackets (c ∷ cs) ≡ c ∷ up_to_end (open_after brackets c) cs
unfolding up_to_end
up_to_end-cons brackets c cs e = rw e refl

none_open : (brackets : List ℕ) → (length brackets == 0) ≡ true → brackets ≡ []
none_open [] h = refl
none_open (b ∷ bs) h = absurd (grind (arith, nat_tests, h))

pub none_open_after : (text : List ℕ) → is_closed text ≡ true → fold open_after [] text ≡ []
unfolding is_closed
none_open_after text h = none_open (fold open_after [] text) h

-- a byte that ends an item
after_item : (brackets : List ℕ) (c : ℕ) (cs : List ℕ) (fresh : Bool) → ends_item brackets c ≡ true → IsClosedFrom [] true cs → IsClosedFrom brackets fresh (c ∷ cs)
after_item brackets c cs fresh is rest at before list h =
    subst (λ bs. fold open_after bs cs ≡ []) (sym (ended_open brackets c is)) (rest (at + 1) before list (rw (items-cons brackets fresh at c cs, is) at h))

-- one that begins an item
at_item : (c : ℕ) (cs : List ℕ) → ends_item [] c ≡ false → AreClosed cs → IsClosedFrom [] true (c ∷ cs)
at_item c cs is rest at before list h =
    let on = read_on before (record { at = at; text = up_to_end [] (c ∷ cs) }) (items (open_after [] c) false (at + 1) cs) list (rw (items-cons [] true at c cs, is) at h) in
    let item = none_open_after (up_to_end [] (c ∷ cs)) on.0 in
    rest.1 (open_after [] c) (rw (up_to_end-cons [] c cs is) at item) (at + 1) (before ++ on.1.0) list on.1.1

-- and one within it
in_item : (brackets : List ℕ) (c : ℕ) (cs : List ℕ) → ends_item brackets c ≡ false → AreClosed cs → fold open_after brackets (up_to_end brackets (c ∷ cs)) ≡ []
    → IsClosedFrom brackets false (c ∷ cs)
in_item brackets c cs is rest end at before list h =
    rest.1 (open_after brackets c) (rw (up_to_end-cons brackets c cs is) at end) (at + 1) before list (rw (items-cons brackets false at c cs, is) at h)

closed : (text : List ℕ) → AreClosed text
closed [] = (λ at before list h. refl, λ brackets end at before list h. closed_at_end brackets end)
closed (c ∷ cs) = (first c cs (is_separator c) refl (closed cs), λ brackets. more brackets c cs (ends_item brackets c) refl (closed cs))
  where
    first : (c : ℕ) (cs : List ℕ) (t : Bool) → ends_item [] c ≡ t → AreClosed cs → IsClosedFrom [] true (c ∷ cs)
    first c cs true is rest = after_item [] c cs true is rest.0
    first c cs false is rest = at_item c cs is rest

    more : (brackets : List ℕ) (c : ℕ) (cs : List ℕ) (t : Bool) → ends_item brackets c ≡ t → AreClosed cs
        → fold open_after brackets (up_to_end brackets (c ∷ cs)) ≡ [] → IsClosedFrom brackets false (c ∷ cs)
    more brackets c cs true is rest end = after_item brackets c cs false is rest.0
    more brackets c cs false is rest end = in_item brackets c cs is rest end

-- what is read of items is read with a separator after them
pub read_items-ended : (at : ℕ) (text : List ℕ) (s : ℕ) (list : List OfAction) → is_separator s ≡ true
    → read_items [] (items [] true at text) ≡ Ok list → read_items [] (items [] true at (text ++ s ∷ [])) ≡ Ok list
read_items-ended at text s list e h = ap (read_items []) (items-ended [] true at text s e ((closed text).0 at [] list h)) ∙ h
