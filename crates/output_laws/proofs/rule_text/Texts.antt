-- Texts of one line without a comment: visible ASCII and spaces, and no number sign.
use Rattle.std.proofs.Common.{◌≡◌, ℕ, Bool, true, false, List, [], ◌∷◌, ◌++◌, refl, ◌∙◌, arith, None}
use Rattle.std.specs.Prelude.{not, ◌==◌, ◌&&◌, ◌||◌, position}
use Rattle.std.specs.List.{list_all}
use Rattle.std.specs.Char.{is_ascii, is_ascii_graphic}
use Rattle.std.proofs.lemmas.Bool.{and_parts, and_from}
use Rattle.std.proofs.lemmas.Bool.Decides.{nat_tests}
use Rattle.std.proofs.lemmas.List.Folds.{list_all-append}
use Rattle.spec_flow_text.specs.Characters.{space, line_feed, number_sign}
use Rattle.spec_flow_text.specs.Matches.{uncommented}
use Rattle.text_laws.specs.Texts.{is_plain, is_plain_character}
use Rattle.text_laws.proofs.Cuts.{position-cons, take_while-all}
use Rattle.text_laws.proofs.PlainValues.{IsPlain}

abbrev is_text_character : ℕ → Bool
is_text_character c = (is_ascii_graphic c || (c == space)) && not (c == number_sign)

abbrev pub IsText : List ℕ → Type 0
IsText text = list_all is_text_character text ≡ true

pub text_append : (xs ys : List ℕ) → IsText xs → IsText ys → IsText (xs ++ ys)
text_append xs ys h k = rw (list_all-append is_text_character xs ys) (and_from (list_all is_text_character xs) (list_all is_text_character ys) h k)

plain_character : (c : ℕ) → is_plain_character c ≡ true → is_text_character c ≡ true
plain_character c h = grind (arith, nat_tests)

pub plain_text : (text : List ℕ) → IsPlain text → IsText text
plain_text [] h = refl
plain_text (c ∷ cs) h =
    let p = and_parts (is_plain_character c) (is_plain cs) h in
    and_from (is_text_character c) (list_all is_text_character cs) (plain_character c p.0) (plain_text cs p.1)

text_character_ascii : (c : ℕ) → is_text_character c ≡ true → is_ascii c ≡ true
text_character_ascii c h = grind (arith, nat_tests)

text_character_unsigned : (c : ℕ) → is_text_character c ≡ true → not (c == number_sign) ≡ true
text_character_unsigned c h = (and_parts (is_ascii_graphic c || (c == space)) (not (c == number_sign)) h).1

text_character_unfed : (c : ℕ) → is_text_character c ≡ true → (c == line_feed) ≡ false
text_character_unfed c h = grind (arith, nat_tests)

ascii_all : (text : List ℕ) → IsText text → position (λ c. not (is_ascii c)) text ≡ None
ascii_all [] h = refl
ascii_all (c ∷ cs) h =
    let p = and_parts (is_text_character c) (list_all is_text_character cs) h in
    position-cons (λ x. not (is_ascii x)) c cs ∙ (rw (text_character_ascii c p.0, ascii_all cs p.1) refl)

no_sign : (text : List ℕ) → IsText text → list_all (λ c. not (c == number_sign)) text ≡ true
no_sign [] h = refl
no_sign (c ∷ cs) h =
    let p = and_parts (is_text_character c) (list_all is_text_character cs) h in
    and_from (not (c == number_sign)) (list_all (λ x. not (x == number_sign)) cs) (text_character_unsigned c p.0) (no_sign cs p.1)

pub text_uncommented : (text : List ℕ) → IsText text → uncommented text ≡ text
text_uncommented text h = take_while-all (λ c. not (c == number_sign)) text (no_sign text h)

pub text_ascii : (text : List ℕ) → IsText text → position (λ c. not (is_ascii c)) text ≡ None
text_ascii text h = ascii_all text h

-- a text without a line feed
abbrev pub IsFeedless : List ℕ → Type 0
IsFeedless text = list_all (λ c. not (c == line_feed)) text ≡ true

pub text_feedless : (text : List ℕ) → IsText text → IsFeedless text
text_feedless [] h = refl
text_feedless (c ∷ cs) h =
    let p = and_parts (is_text_character c) (list_all is_text_character cs) h in
    rw (text_character_unfed c p.0) (text_feedless cs p.1)

pub feedless_append : (xs ys : List ℕ) → IsFeedless xs → IsFeedless ys → IsFeedless (xs ++ ys)
feedless_append xs ys h k =
    rw (list_all-append (λ c. not (c == line_feed)) xs ys) (and_from (list_all (λ c. not (c == line_feed)) xs) (list_all (λ c. not (c == line_feed)) ys) h k)
