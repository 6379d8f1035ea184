-- Words of a line, from the left.
use Rattle.std.proofs.Common.{◌≡◌, ℕ, suc, ◌+◌, ◌<◌, Bool, true, false, cond, List, [], ◌∷◌, length, get_or, drop, take, refl, sym, ap, ◌∙◌, arith, length-drop}
use Rattle.std.specs.Prelude.{not}
use Rattle.std.specs.List.{prefix_len}
use Rattle.std.proofs.lemmas.List.{get_or-drop}
use Rattle.std.proofs.lemmas.List.Sums.{prefix_len_stops}
use Rattle.spec_flow_text.specs.Actions.{skipping, before_place}
use Rattle.spec_flow_text.specs.Items.{Word, up_to_separator, words}

at_separator : (separates : ℕ → Bool) (fresh : Bool) (at c : ℕ) (cs : List ℕ) → separates c ≡ true → words separates fresh at (c ∷ cs) ≡ words separates true (at + 1) cs
unfolding words
at_separator separates fresh at c cs e = rw e refl

in_word : (separates : ℕ → Bool) (at c : ℕ) (cs : List ℕ) → separates c ≡ false → words separates false at (c ∷ cs) ≡ words separates false (at + 1) cs
unfolding words
in_word separates at c cs e = rw e refl

at_word : (separates : ℕ → Bool) (at c : ℕ) (cs : List ℕ) → separates c ≡ false → words separates true at (c ∷ cs) ≡ record { at = at; text = up_to_separator separates (c ∷ cs) } ∷ words separates false (at + 1) cs
unfolding words
at_word separates at c cs e = rw e refl

none_left : (separates : ℕ → Bool) (fresh : Bool) (at : ℕ) → words separates fresh at [] ≡ []
unfolding words
none_left separates fresh at = refl

-- so many bytes further on
further : (separates : ℕ → Bool) (at n c : ℕ) (cs : List ℕ) → words separates true (at + 1 + n) (drop n cs) ≡ words separates true (at + (1 + n)) (drop (1 + n) (c ∷ cs))
further separates at n c cs =
    let e : 1 + n ≡ suc n = omega arith in
    let d : at + 1 + n ≡ at + suc n = omega arith in
    rw (e, d) refl

-- separators in front make no word
pub skips : (separates : ℕ → Bool) (at : ℕ) (text : List ℕ) → words separates true at text ≡ words separates true (at + prefix_len separates text) (drop (prefix_len separates text) text)
skips separates at [] = none_left separates true at ∙ sym (none_left separates true (at + 0))
skips separates at (c ∷ cs) = by_test separates at c cs (separates c) refl (skips separates (at + 1) cs)
  where
    by_test : (separates : ℕ → Bool) (at c : ℕ) (cs : List ℕ) (t : Bool) → separates c ≡ t
        → words separates true (at + 1) cs ≡ words separates true (at + 1 + prefix_len separates cs) (drop (prefix_len separates cs) cs)
        → words separates true at (c ∷ cs) ≡ words separates true (at + cond t (1 + prefix_len separates cs) 0) (drop (cond t (1 + prefix_len separates cs) 0) (c ∷ cs))
    by_test separates at c cs true e ih = at_separator separates true at c cs e ∙ ih ∙ further separates at (prefix_len separates cs) c cs
    by_test separates at c cs false e ih = let z : at ≡ at + 0 = omega arith in ap (λ n. words separates true n (c ∷ cs)) z

abbrev is_inside : (ℕ → Bool) → ℕ → Bool
is_inside separates c = not (separates c)

-- the rest of a word is no word
passes : (separates : ℕ → Bool) (at : ℕ) (text : List ℕ) → words separates false at text ≡ words separates true (at + prefix_len (is_inside separates) text) (drop (prefix_len (is_inside separates) text) text)
passes separates at [] = none_left separates false at ∙ sym (none_left separates true (at + 0))
passes separates at (c ∷ cs) = by_test separates at c cs (separates c) refl (passes separates (at + 1) cs)
  where
    by_test : (separates : ℕ → Bool) (at c : ℕ) (cs : List ℕ) (t : Bool) → separates c ≡ t
        → words separates false (at + 1) cs ≡ words separates true (at + 1 + prefix_len (is_inside separates) cs) (drop (prefix_len (is_inside separates) cs) cs)
        → words separates false at (c ∷ cs) ≡ words separates true (at + cond (not t) (1 + prefix_len (is_inside separates) cs) 0) (drop (cond (not t) (1 + prefix_len (is_inside separates) cs) 0) (c ∷ cs))
    by_test separates at c cs false e ih = in_word separates at c cs e ∙ ih ∙ further separates at (prefix_len (is_inside separates) cs) c cs
    by_test separates at c cs true e ih = let z : at ≡ at + 0 = omega arith in at_separator separates false at c cs e ∙ sym (at_separator separates true at c cs e) ∙ ap (λ n. words separates true n (c ∷ cs)) z

-- a word, and what follows it
pub begins : (separates : ℕ → Bool) (at : ℕ) (text : List ℕ) → 0 < length text → separates (get_or text 0 0) ≡ false
    → words separates true at text ≡ record { at = at; text = up_to_separator separates text } ∷ words separates true (at + prefix_len (is_inside separates) text) (drop (prefix_len (is_inside separates) text) text)
begins separates at [] lt e = absurd (omega arith)
begins separates at (c ∷ cs) lt e = at_word separates at c cs e ∙ ap (λ ws. record { at = at; text = up_to_separator separates (c ∷ cs) } ∷ ws) (sym (in_word separates at c cs e) ∙ passes separates at (c ∷ cs))

-- no word is left where only separators are
pub no_word : (separates : ℕ → Bool) (at n : ℕ) (text rest : List ℕ) → n ≡ prefix_len separates text → rest ≡ drop n text → length rest ≡ 0 → words separates true at text ≡ []
no_word separates at n text [] is cut none = skips separates at text ∙ rw (← is, ← cut) (none_left separates true _)
no_word separates at n text (c ∷ cs) is cut none = absurd (omega arith)

stops : (separates : ℕ → Bool) (n : ℕ) (text : List ℕ) → n ≡ prefix_len separates text → 0 < length (drop n text) → separates (get_or (drop n text) 0 0) ≡ false
stops separates n text is lt =
    let within : prefix_len separates text < length text = omega (arith, length-drop n text) in
    let z : n + 0 ≡ prefix_len separates text = omega arith in
    rw (get_or-drop n text 0 0, z) (prefix_len_stops separates text 0 within)

some_inside : (separates : ℕ → Bool) (rest : List ℕ) → 0 < length rest → separates (get_or rest 0 0) ≡ false → 0 < prefix_len (is_inside separates) rest
some_inside separates [] lt e = absurd (omega arith)
some_inside separates (c ∷ cs) lt e = rw e (omega arith)

-- the first word, and how the line goes on behind it
pub one_word : (separates : ℕ → Bool) (at n len : ℕ) (text rest : List ℕ) → n ≡ prefix_len separates text → rest ≡ drop n text → len ≡ prefix_len (is_inside separates) rest → 0 < length rest
    → (words separates true at text ≡ record { at = at + n; text = take len rest } ∷ words separates true (at + n + len) (drop len rest)) × (0 < len)
one_word separates at n len text rest is cut long lt =
    let inside : separates (get_or rest 0 0) ≡ false = rw cut (stops separates n text is (rw cut at lt)) in
    let skipped : words separates true at text ≡ words separates true (at + n) rest = skips separates at text ∙ rw (← is, ← cut) refl in
    let begun : words separates true (at + n) rest ≡ record { at = at + n; text = take len rest } ∷ words separates true (at + n + len) (drop len rest) = rw long (begins separates (at + n) rest lt inside) in
    (skipped ∙ begun, rw long (some_inside separates rest lt inside))

-- the same of words
pub next_of : (separates : ℕ → Bool) (w begun first behind : Word) (n len : ℕ) → n ≡ prefix_len separates w.text → begun ≡ skipping n w
    → len ≡ prefix_len (λ c. not (separates c)) begun.text → 0 < length begun.text → first ≡ before_place len begun → behind ≡ skipping len begun
    → (words separates true w.at w.text ≡ first ∷ words separates true behind.at behind.text) × (length behind.text < length w.text)
next_of separates w begun first behind n len is begins_there long some is_first is_behind =
    let text : begun.text ≡ drop n w.text = ap (λ (v : Word). v.text) begins_there in
    let place : begun.at ≡ w.at + n = ap (λ (v : Word). v.at) begins_there in
    let found = one_word separates w.at n len w.text begun.text is text long some in
    let shorter : length (drop len begun.text) < length w.text = omega (arith, found.1, length-drop len begun.text, length-drop n w.text, ap length text) in
    rw (is_first, is_behind, place) (found.0, shorter)
