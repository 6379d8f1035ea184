-- Words of ports, one after the other.
use Rattle.std.proofs.Common.{◌≡◌, ℕ, ◌+◌, ◌≤◌, ◌<◌, List, [], ◌∷◌, ◌++◌, Bool, true, false, ◌==◌, if◌then◌else◌, length, get_or, drop, Option, None, Some, refl, sym, ap, ◌∙◌}
use Rattle.std.specs.Prelude.{◌||◌, nat_eq}
use Rattle.std.specs.List.{list_any, AllByRecursion, IsDistinct}
use Rattle.std.specs.Borrow.{Bor}
use Rattle.std.proofs.lemmas.List.{drop_more, drop_all, map_push}
use Rattle.spec_input.specs.Words.{PortWord, port_word, is_named, new_port, port_words}
use Rattle.spec_flow_text.specs.Numbers.{◌>>=◌}
use Rattle.command_words.specs.PortViews.{lent, ports_said}
use Rattle.command_words.proofs.Lists.{any_in_view}

-- the words from a place on, by the first of them
step : (before : List PortWord) (words : List (Bor (List ℕ))) (i : ℕ) (d : Bor (List ℕ)) → i < length words
    → port_words before (lent (drop i words)) ≡ (new_port before (get_or words i d).now >>= (λ w. port_words (before ++ w ∷ []) (lent (drop (i + 1) words))))
unfolding port_words
step before words i d lt =
    let e : drop i words ≡ get_or words i d ∷ drop (i + 1) words = drop_more words i d lt in
    rw e refl

pub none_more : (before : List PortWord) (words : List (Bor (List ℕ))) (i : ℕ) (d : Bor (List ℕ)) → i < length words
    → None ≡ new_port before (get_or words i d).now → None ≡ port_words before (lent (drop i words))
none_more before words i d lt none = sym (step before words i d lt ∙ (rw (sym none) refl))

pub some_more : (before : List PortWord) (words : List (Bor (List ℕ))) (i : ℕ) (d : Bor (List ℕ)) (w : PortWord) → i < length words
    → Some w ≡ new_port before (get_or words i d).now → port_words before (lent (drop i words)) ≡ port_words (before ++ w ∷ []) (lent (drop (i + 1) words))
some_more before words i d w lt some = step before words i d lt ∙ (rw (sym some) refl)

pub at_end : (before : List PortWord) (words : List (Bor (List ℕ))) (i : ℕ) → length words ≤ i → port_words before (lent (drop i words)) ≡ Some before
unfolding port_words
at_end before words i le = rw (drop_all i words le) refl

-- ---- the ports of words differ

-- a number that is none of these, after them
distinct_more : (xs : List ℕ) (x : ℕ) → IsDistinct nat_eq xs → list_any (λ y. y == x) xs ≡ false → IsDistinct nat_eq (xs ++ x ∷ [])
unfolding IsDistinct
distinct_more [] x all none = (tt, tt)
distinct_more (y ∷ xs) x all none = (last_too xs (all.0) (not_first (y == x) none), distinct_more xs x all.1 (not_later (y == x) none))
  where
    last_too : (zs : List ℕ) → AllByRecursion (λ z. nat_eq y z ≡ false) zs → nat_eq y x ≡ false → AllByRecursion (λ z. nat_eq y z ≡ false) (zs ++ x ∷ [])
    last_too [] before here = (here, tt)
    last_too (z ∷ zs) before here = (before.0, last_too zs before.1 here)

    not_first : (b : Bool) → b || list_any (λ y. y == x) xs ≡ false → b ≡ false
    not_first true e = cc e
    not_first false e = refl

    not_later : (b : Bool) → b || list_any (λ y. y == x) xs ≡ false → list_any (λ y. y == x) xs ≡ false
    not_later true e = cc e
    not_later false e = e

-- a new port is none of those before
named_not : (before : List PortWord) (word : List ℕ) (w : PortWord) → new_port before word ≡ Some w → list_any (λ y. y == w.port) (ports_said before) ≡ false
unfolding new_port
named_not before word w is = by_word (port_word word) is
  where
    by_word : (o : Option PortWord) → (o >>= (λ v. if is_named v.port before then None else Some v)) ≡ Some w → list_any (λ y. y == w.port) (ports_said before) ≡ false
    by_word None e = cc e
    by_word (Some v) e = by_test (is_named v.port before) refl e
      where
        by_test : (b : Bool) → is_named v.port before ≡ b → (if b then None else Some v) ≡ Some w → list_any (λ y. y == w.port) (ports_said before) ≡ false
        by_test true test e = cc e
        by_test false test e = let same : v ≡ w = cc e in any_in_view (λ y. y == w.port) (λ (p : PortWord). p.port) before ∙ ap (λ (u : PortWord). is_named u.port before) (sym same) ∙ test

pub distinct_ports : (before : List PortWord) (said : List (List ℕ)) (all : List PortWord) → IsDistinct nat_eq (ports_said before)
    → port_words before said ≡ Some all → IsDistinct nat_eq (ports_said all)
unfolding port_words
distinct_ports before [] all distinct is = rw (sym (some_is is)) distinct
  where
    some_is : {X : Type 0} {x y : X} → Some x ≡ Some y → x ≡ y
    some_is e = cc e
distinct_ports before (word ∷ said) all distinct is =
    by_word (new_port before word) refl (λ w e. distinct_ports (before ++ w ∷ []) said all (rw (map_push (λ (p : PortWord). p.port) before w) (distinct_more (ports_said before) w.port distinct (named_not before word w e))) (rw e at is))
  where
    by_word : (o : Option PortWord) → new_port before word ≡ o → ((w : PortWord) → new_port before word ≡ Some w → IsDistinct nat_eq (ports_said all)) → IsDistinct nat_eq (ports_said all)
    by_word None e next = cc (rw e at is)
    by_word (Some w) e next = next w e

pub distinct_all : (said : List (List ℕ)) (all : List PortWord) → port_words [] said ≡ Some all → IsDistinct nat_eq (ports_said all)
unfolding IsDistinct
distinct_all said all is = distinct_ports [] said all tt is
