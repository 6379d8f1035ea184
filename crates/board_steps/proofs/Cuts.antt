-- Texts are cut again where they were joined: at the spaces between words, and at the line feeds after lines.
use Rattle.std.proofs.Common.{◌≡◌, ℕ, ◌<◌, Bool, true, false, List, [], ◌∷◌, ◌++◌, refl, ap, ◌∙◌, append_assoc, arith}
use Rattle.std.specs.Prelude.{codes, nat_eq, nat_lt, All}
use Rattle.std.specs.List.{flat_map, list_all, slice_split}
use Rattle.std.proofs.lemmas.Bool.{and_parts, and_from, lt-ltb, ltb-true, ne_eqb}
use Rattle.std.proofs.lemmas.List.{append-nil}
use Rattle.std.proofs.lemmas.List.Elements.{All-weaker}
use Rattle.std.proofs.lemmas.List.Folds.{list_all-append}
use Rattle.std.proofs.lemmas.List.Splits.{slice_split_none, slice_split_at}
use Rattle.std.proofs.lemmas.List.Sums.{AllPass-from_list_all}
use Rattle.spec_board.specs.Texts.{line_of}

abbrev pub is_space : ℕ → Bool
is_space c = nat_eq c 32

abbrev pub is_feed : ℕ → Bool
is_feed c = nat_eq c 10

-- a text without spaces and line feeds
abbrev pub is_word : List ℕ → Bool
is_word word = list_all (nat_lt 32) word

-- a text without line feeds
abbrev pub is_line : List ℕ → Bool
is_line line = list_all (nat_lt 10) line

-- a word, and words after spaces
abbrev pub with_spaces : List ℕ → List (List ℕ) → List ℕ
with_spaces word words = word ++ flat_map (λ next. codes " " ++ next) words

not_below : (most c : ℕ) → nat_lt most c ≡ true → nat_eq c most ≡ false
not_below most c above = ne_eqb c most (λ e. omega (arith, ltb-true most c above))

-- none of the codes of such a text is the last that it can't have
none_in : (most : ℕ) (text : List ℕ) → list_all (nat_lt most) text ≡ true → All (λ c. nat_eq c most ≡ false) text
none_in most text above =
    All-weaker (λ c. nat_lt most c ≡ true) (λ c. nat_eq c most ≡ false) (not_below most) text
    (AllPass-from_list_all (nat_lt most) text above)

pub split_words : (word : List ℕ) (words : List (List ℕ)) → is_word word ≡ true → list_all is_word words ≡ true
    → slice_split is_space (with_spaces word words) ≡ word ∷ words
split_words word [] first others =
    ap (slice_split is_space) (append-nil word) ∙ slice_split_none is_space word (none_in 32 word first)
split_words word (next ∷ words) first others =
    let parts = and_parts (is_word next) (list_all is_word words) others in
    slice_split_at is_space word 32 (with_spaces next words) (none_in 32 word first) refl
    ∙ ap (λ (rest : List (List ℕ)). word ∷ rest) (split_words next words parts.0 parts.1)

pub split_lines : (lines : List (List ℕ)) → list_all is_line lines ≡ true
    → slice_split is_feed (flat_map line_of lines) ≡ lines ++ [] ∷ []
split_lines [] all = refl
split_lines (line ∷ lines) all =
    let parts = and_parts (is_line line) (list_all is_line lines) all in
    ap (slice_split is_feed) (append_assoc line (10 ∷ []) (flat_map line_of lines))
    ∙ slice_split_at is_feed line 10 (flat_map line_of lines) (none_in 10 line parts.0) refl
    ∙ ap (λ (rest : List (List ℕ)). line ∷ rest) (split_lines lines parts.1)

word_is_line : (word : List ℕ) → is_word word ≡ true → is_line word ≡ true
word_is_line [] all = refl
word_is_line (c ∷ word) all =
    let parts = and_parts (nat_lt 32 c) (is_word word) all in
    let above : 10 < c = omega (arith, ltb-true 32 c parts.0) in
    and_from (nat_lt 10 c) (is_line word) (lt-ltb 10 c above) (word_is_line word parts.1)

-- words with spaces have no line feed
pub words_are_line : (word : List ℕ) (words : List (List ℕ)) → is_word word ≡ true → list_all is_word words ≡ true
    → is_line (with_spaces word words) ≡ true
words_are_line word [] first others = ap is_line (append-nil word) ∙ word_is_line word first
words_are_line word (next ∷ words) first others =
    let parts = and_parts (is_word next) (list_all is_word words) others in
    list_all-append (nat_lt 10) word (32 ∷ with_spaces next words)
    ∙ and_from (is_line word) (is_line (with_spaces next words)) (word_is_line word first)
    (words_are_line next words parts.0 parts.1)
