-- As few bytes of a text as tell its first word, if that is short.
use Rattle.std.proofs.Common.{◌≡◌, ℕ, zero, suc, ◌+◌, ◌-◌, ◌<◌, Bool, true, false, not, cond, if◌then◌else◌, List, [], ◌∷◌, length, take, drop, get_or, Option, Some, None, refl, sym, ap, subst, ◌∙◌, arith, take_all, length-take, inl, inr}
use Rattle.std.specs.Prelude.{nat_lt, bytes_eq, find}
use Rattle.std.specs.List.{prefix_len, position_or_len, before_first, list_all}
use Rattle.std.specs.Option.{option_map}
use Rattle.std.proofs.lemmas.Bool.{cases_lt, false_from_ne_true, and_parts, ltb-true, ne_eqb}
use Rattle.std.proofs.lemmas.Slice.Eq.{bytes_eq-Decides}
use Rattle.spec_tables.specs.declared.edit_word.EditWord.{EditWord}
use Rattle.spec_tables.specs.declared.edit_word.EditWord.TheVariants.{Add}
use Rattle.spec_flow_text.specs.Items.{Word}
use Rattle.spec_flow_text.specs.Lines.{edit_words, edit_from, edit_in, first_word, end_of}
use Rattle.spec_flow_text.specs.Matches.{uncommented}
use Rattle.spec_flow_text.specs.Names.{meaning_of}
use Rattle.spec_flow_text.specs.Numbers.{where_found}
use Rattle.edit_script.specs.declared.line_words.TheConstants.{LONG_WORD}
use Rattle.edit_script.specs.Fronts.{IsFront, is_empty}

-- texts of other lengths are others
unequal : (a b : List ℕ) → (length a ≡ length b → ⊥) → bytes_eq a b ≡ false
unequal a b other = false_from_ne_true _ (λ same. other (ap length ((bytes_eq-Decides a b).0 same)))

pub itself : (w : Word) → IsFront w w
itself w = record { same = λ word lt. refl; short = λ lt. refl }

-- ---- the first bytes of a word

front_of_word : (at : ℕ) (text : List ℕ) → IsFront (record { at = at; text = take LONG_WORD text }) (record { at = at; text = text })
front_of_word at text = elim (cases_lt LONG_WORD (length text)) [
  | inl long ↦ record {
    same = λ word lt. unequal word (take LONG_WORD text) (λ e. omega (arith, lt, long, e, length-take LONG_WORD text))
        ∙ sym (unequal word text (λ e. omega (arith, lt, long, e)));
    short = λ lt. absurd (omega (arith, lt, long, length-take LONG_WORD text));
  }
  | inr few ↦ record {
    same = λ word lt. ap (bytes_eq word) (take_all LONG_WORD text few);
    short = λ lt. ap (λ t. record { at = at; text = t }) (take_all LONG_WORD text few);
  }
]

module _ (white : ℕ → Bool) where
  abbrev first_by : List ℕ → Word
  first_by text = record { at = prefix_len white text; text = before_first white (drop (prefix_len white text) text) }

  before_take : (n : ℕ) (text : List ℕ) → before_first white (take n text) ≡ take n (before_first white text)
  before_take zero text = refl
  before_take (suc n) [] = refl
  before_take (suc n) (c ∷ cs) = by_test (white c) (before_take n cs)
    where
      by_test : (t : Bool) → before_first white (take n cs) ≡ take n (before_first white cs)
          → take (cond (not t) (1 + position_or_len white (take n cs)) 0) (c ∷ take n cs) ≡ take (suc n) (take (cond (not t) (1 + position_or_len white cs) 0) (c ∷ cs))
      by_test true rest = refl
      by_test false rest =
          let few : 1 + position_or_len white (take n cs) ≡ suc (position_or_len white (take n cs)) = omega arith in
          let all : 1 + position_or_len white cs ≡ suc (position_or_len white cs) = omega arith in
          rw (few, all) (ap (λ l. c ∷ l) rest)

  not_empty : (c : ℕ) (cs : List ℕ) → white c ≡ false → is_empty (first_by (c ∷ cs)) ≡ false
  not_empty c cs other =
      let more : 1 + position_or_len white cs ≡ suc (position_or_len white cs) = omega arith in
      rw (other, other, more) (ne_eqb (suc (length (take (position_or_len white cs) cs))) 0 (λ z. omega arith))

  pub cut_front : (text : List ℕ) → 0 < length text → white (get_or text 0 0) ≡ false → IsFront (first_by (take LONG_WORD text)) (first_by text)
  cut_front [] some other = absurd (omega arith)
  cut_front (c ∷ cs) some other =
      let start : prefix_len white (c ∷ cs) ≡ 0 = rw other refl in
      let cut : prefix_len white (take LONG_WORD (c ∷ cs)) ≡ 0 = rw other refl in
      let P : ℕ → ℕ → Type 0 = λ a b. IsFront (record { at = a; text = before_first white (drop a (take LONG_WORD (c ∷ cs))) }) (record { at = b; text = before_first white (drop b (c ∷ cs)) }) in
      let here : P 0 0 = rw (before_take LONG_WORD (c ∷ cs)) (front_of_word 0 (before_first white (c ∷ cs))) in
      subst (λ a. P a (prefix_len white (c ∷ cs))) (sym cut) (subst (λ b. P 0 b) (sym start) here)

  pub cut_empty : (text : List ℕ) → 0 < length text → white (get_or text 0 0) ≡ false → is_empty (first_by (take LONG_WORD text)) ≡ is_empty (first_by text)
  cut_empty [] some other = absurd (omega arith)
  cut_empty (c ∷ cs) some other = not_empty c (take (LONG_WORD - 1) cs) other ∙ sym (not_empty c cs other)

-- ---- what a front means

module _ {A : Type 0} (front whole : Word) (is : IsFront front whole) where
  same_meaning : (table : List (List ℕ × A)) → list_all (λ row. nat_lt (length row.0) LONG_WORD) table ≡ true → meaning_of table front.text ≡ meaning_of table whole.text
  same_meaning [] short = refl
  same_meaning (row ∷ rows) short =
      let s = and_parts (nat_lt (length row.0) LONG_WORD) (list_all (λ r. nat_lt (length r.0) LONG_WORD) rows) short in
      rw (is.same row.0 (ltb-true _ _ s.0)) (by_test (bytes_eq row.0 whole.text) (same_meaning rows s.1))
    where
      by_test : (t : Bool) → meaning_of rows front.text ≡ meaning_of rows whole.text
          → option_map (λ r. r.1) (if t then Some row else find (λ r. bytes_eq r.0 front.text) rows) ≡ option_map (λ r. r.1) (if t then Some row else find (λ r. bytes_eq r.0 whole.text) rows)
      by_test true rest = refl
      by_test false rest = rest

found_short : {A : Type 0} (table : List (List ℕ × A)) (text : List ℕ) (a : A) → list_all (λ row. nat_lt (length row.0) LONG_WORD) table ≡ true
    → meaning_of table text ≡ Some a → length text < LONG_WORD
found_short [] text a short found = absurd (cc found)
found_short (row ∷ rows) text a short found =
    let s = and_parts (nat_lt (length row.0) LONG_WORD) (list_all (λ r. nat_lt (length r.0) LONG_WORD) rows) short in
    by_test (bytes_eq row.0 text) refl s.0 (found_short rows text a s.1) found
  where
    by_test : (t : Bool) → bytes_eq row.0 text ≡ t → nat_lt (length row.0) LONG_WORD ≡ true → (meaning_of rows text ≡ Some a → length text < LONG_WORD)
        → option_map (λ r. r.1) (if t then Some row else find (λ r. bytes_eq r.0 text) rows) ≡ Some a → length text < LONG_WORD
    by_test true same lt later here = omega (arith, ltb-true _ _ lt, ap length ((bytes_eq-Decides row.0 text).0 same))
    by_test false other lt later there = later there

pub edit_in_front : (front : Word) (line : List ℕ) (o : Option EditWord) → IsFront front (first_word (uncommented line)) → o ≡ meaning_of edit_words front.text
    → edit_in line ≡ where_found o (λ word. edit_from word (end_of front) line) (edit_from Add 0 line)
unfolding edit_in
edit_in_front front line o is means = rw (sym (same_meaning front (first_word (uncommented line)) is edit_words refl), ← means) (by_word o means)
  where
    by_word : (o : Option EditWord) → o ≡ meaning_of edit_words front.text
        → where_found o (λ word. edit_from word (end_of (first_word (uncommented line))) line) (edit_from Add 0 line) ≡ where_found o (λ word. edit_from word (end_of front) line) (edit_from Add 0 line)
    by_word None means = refl
    by_word (Some word) means = ap (λ (w : Word). edit_from word (end_of w) line) (sym (is.short (found_short edit_words front.text word refl (sym means))))
