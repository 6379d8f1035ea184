-- Printed values and names have plain characters alone.
use Rattle.std.proofs.Common.{◌≡◌, ℕ, zero, suc, ◌/◌, ◌%◌, ◌<◌, ◌^◌, Bool, true, false, cond, List, [], ◌∷◌, ◌++◌, refl, arith, Option, Some, None, decimal}
use Rattle.std.specs.Prelude.{◌==◌, codes, find}
use Rattle.std.specs.List.{list_all, join_with_byte}
use Rattle.std.specs.Option.{option_map_or}
use Rattle.std.specs.Fmt.{digits, digits_onto, digit_glyph}
use Rattle.std.proofs.lemmas.List.Folds.{list_all-append}
use Rattle.std.proofs.lemmas.Bool.{and_from, and_parts}
use Rattle.std.proofs.lemmas.Bool.Decides.{nat_tests}
use Rattle.spec_base.specs.Bits.{all_bits}
use Rattle.spec_keys.specs.Fields.{Form, Decimal, Hexadecimal, FourDigits, Mac, Ipv4, Ipv6, Fragment}
use Rattle.spec_actions.specs.declared.named_field.NamedField.{NamedField}
use Rattle.spec_actions.specs.declared.named_field.NamedField.TheVariants.{InPort, DlType, VlanTci, VlanTpid, VlanTci2, VlanTpid2}
use Rattle.spec_actions.specs.Named.{named}
use Rattle.spec_flow_text.specs.Characters.{comma, slash, is_value_character}
use Rattle.spec_flow_text.specs.NumbersPrinted.{hexadecimal, hexadecimal4, mac_text, ipv4_text, ipv6_text, ipv4_mask_text, ipv6_mask_text}
use Rattle.spec_flow_text.specs.Names.{name_of}
use Rattle.spec_flow_text.specs.Values.{Bits, fragment_words}
use Rattle.spec_flow_text.specs.Printed.{printed_form, is_fragment_word, fragment_word, value_text, masked_text, mask_text, value_and_mask, word_or_value, value_of_form, value_in_text}
use Rattle.text_laws.specs.Texts.{is_plain_character, is_plain}

abbrev pub HasValueCharacters : List ℕ → Type 0
HasValueCharacters text = list_all is_value_character text ≡ true

-- what is known of printed values
pub record ValueTexts : Type 0 where
  pub four_digits : (n : ℕ) → n < 2 ^ 16 → HasValueCharacters (hexadecimal4 n)
  pub macs : (n : ℕ) → HasValueCharacters (mac_text n)
  pub ipv4s : (n : ℕ) → HasValueCharacters (ipv4_text n)
  pub ipv6s : (n : ℕ) → HasValueCharacters (ipv6_text n)
  pub ipv4_masks : (n : ℕ) → HasValueCharacters (ipv4_mask_text n)
  pub ipv6_masks : (n : ℕ) → HasValueCharacters (ipv6_mask_text n)

abbrev pub IsPlain : List ℕ → Type 0
IsPlain text = is_plain text ≡ true

value_character_plain : (c : ℕ) → is_value_character c ≡ true → is_plain_character c ≡ true
value_character_plain c h = grind (arith, nat_tests)

pub value_plain : (text : List ℕ) → HasValueCharacters text → IsPlain text
value_plain [] h = refl
value_plain (c ∷ cs) h =
    let p = and_parts (is_value_character c) (list_all is_value_character cs) h in
    and_from (is_plain_character c) (is_plain cs) (value_character_plain c p.0) (value_plain cs p.1)

pub plain_append : (xs ys : List ℕ) → IsPlain xs → IsPlain ys → IsPlain (xs ++ ys)
plain_append xs ys h k = rw (list_all-append is_plain_character xs ys) (and_from (is_plain xs) (is_plain ys) h k)

-- ---- numbers

glyph_plain : (d : ℕ) → d < 16 → is_plain_character (digit_glyph false d) ≡ true
glyph_plain d lt = grind (arith, nat_tests)

digits_onto_plain : (k base n : ℕ) (rest : List ℕ) → ((m : ℕ) → m % base < 16) → IsPlain rest → IsPlain (digits_onto k base false n rest)
digits_onto_plain zero base n rest digit h = h
digits_onto_plain (suc k) base n rest digit h =
    let longer : IsPlain (digit_glyph false (n % base) ∷ rest) = and_from (is_plain_character (digit_glyph false (n % base))) (is_plain rest) (glyph_plain (n % base) (digit n)) h in
    by_test (n / base == 0) (digit_glyph false (n % base) ∷ rest) (digits_onto k base false (n / base) (digit_glyph false (n % base) ∷ rest)) longer (digits_onto_plain k base (n / base) (digit_glyph false (n % base) ∷ rest) digit longer)
  where
    by_test : (t : Bool) (short long : List ℕ) → IsPlain short → IsPlain long → IsPlain (cond t short long)
    by_test true short long h k = h
    by_test false short long h k = k

pub decimal_plain : (n : ℕ) → IsPlain (decimal n)
unfolding digits
decimal_plain n = digits_onto_plain 64 10 n [] (λ m. omega arith) refl

hexadecimal_plain : (n : ℕ) → IsPlain (hexadecimal n)
unfolding hexadecimal digits
hexadecimal_plain n = plain_append (codes "0x") (digits_onto 64 16 false n []) refl (digits_onto_plain 64 16 n [] (λ m. omega arith) refl)

-- ---- values

-- a number that a form has room for
abbrev pub IsWithin : Form → ℕ → Type 0
IsWithin FourDigits n = n < 2 ^ 16
IsWithin form n = Unit {0}

value_text_plain : ValueTexts → (form : Form) (n : ℕ) → IsWithin form n → IsPlain (value_text form n)
value_text_plain v Decimal n h = decimal_plain n
value_text_plain v Hexadecimal n h = hexadecimal_plain n
value_text_plain v FourDigits n h = value_plain (hexadecimal4 n) (v.four_digits n h)
value_text_plain v Mac n h = value_plain (mac_text n) (v.macs n)
value_text_plain v Ipv4 n h = value_plain (ipv4_text n) (v.ipv4s n)
value_text_plain v Ipv6 n h = value_plain (ipv6_text n) (v.ipv6s n)
value_text_plain v Fragment n h = hexadecimal_plain n

masked_text_plain : ValueTexts → (form : Form) (n : ℕ) → IsWithin form n → IsPlain (masked_text form n)
masked_text_plain v Decimal n h = hexadecimal_plain n
masked_text_plain v form n h = value_text_plain v form n h

mask_text_plain : ValueTexts → (form : Form) (n : ℕ) → IsWithin form n → IsPlain (mask_text form n)
mask_text_plain v Ipv4 n h = value_plain (ipv4_mask_text n) (v.ipv4_masks n)
mask_text_plain v Ipv6 n h = value_plain (ipv6_mask_text n) (v.ipv6_masks n)
mask_text_plain v form n h = masked_text_plain v form n h

-- bits that a form has room for
abbrev pub AreWithin : Form → Bits → Type 0
AreWithin form b = IsWithin form b.value × IsWithin form b.mask

value_and_mask_plain : ValueTexts → (form : Form) (full : ℕ) (b : Bits) → AreWithin form b → IsPlain (value_and_mask form full b)
value_and_mask_plain v form full b h = by_test (b.mask == full)
  where
    by_test : (t : Bool) → IsPlain (cond t (value_text form b.value) (masked_text form b.value ++ (slash ∷ mask_text form b.mask)))
    by_test true = value_text_plain v form b.value h.0
    by_test false = plain_append (masked_text form b.value) (slash ∷ mask_text form b.mask) (masked_text_plain v form b.value h.0) (mask_text_plain v form b.mask h.1)

-- a word that is found in a table is plain where the words of the table are
abbrev IsPlainWord : Option (List ℕ) → Type 0
IsPlainWord None = Unit {0}
IsPlainWord (Some word) = IsPlain word

found_plain : (p : List ℕ × Bits → Bool) (rows : List (List ℕ × Bits)) → list_all (λ row. is_plain row.0) rows ≡ true → IsPlainWord (option_map_or (λ row. Some row.0) (find p rows) None)
found_plain p [] h = tt
found_plain p (r ∷ rs) h =
    let k = and_parts (is_plain r.0) (list_all (λ row. is_plain row.0) rs) h in
    by_test (p r) (find p rs) k.0 (found_plain p rs k.1)
  where
    by_test : (t : Bool) (o : Option (List ℕ × Bits)) → IsPlain r.0 → IsPlainWord (option_map_or (λ row. Some row.0) o None) → IsPlainWord (option_map_or (λ row. Some row.0) (cond t (Some r) o) None)
    by_test true o h k = h
    by_test false o h k = k

word_or_value_plain : ValueTexts → (full : ℕ) (b : Bits) (o : Option (List ℕ)) → IsPlainWord o → IsPlain (word_or_value Fragment full b o)
word_or_value_plain v full b None h = value_and_mask_plain v Fragment full b (tt, tt)
word_or_value_plain v full b (Some word) h = h

pub value_of_form_plain : ValueTexts → (form : Form) (full : ℕ) (b : Bits) → AreWithin form b → IsPlain (value_of_form form full b)
value_of_form_plain v Fragment full b h = word_or_value_plain v full b (fragment_word b) (found_plain (is_fragment_word b) fragment_words refl)
value_of_form_plain v form full b h = value_and_mask_plain v form full b h

pub value_in_text_plain : ValueTexts → (f : NamedField) (b : Bits) → AreWithin (printed_form f) b → IsPlain (value_in_text f b)
unfolding value_in_text
value_in_text_plain v f b h = value_of_form_plain v (printed_form f) (all_bits (named f).bits) b h

-- ---- names

pub name_plain : (f : NamedField) → IsPlain (name_of f)
name_plain InPort = refl
name_plain f = refl

-- the printed form of a named field has room for its numbers
pub named_within : (f : NamedField) (n : ℕ) → n < 2 ^ (named f).bits → IsWithin (printed_form f) n
named_within DlType n h = h
named_within VlanTci n h = h
named_within VlanTpid n h = h
named_within VlanTci2 n h = h
named_within VlanTpid2 n h = h
named_within f n h = tt

-- ---- lists

pub joined_plain : (texts : List (List ℕ)) → list_all is_plain texts ≡ true → IsPlain (join_with_byte comma texts)
joined_plain [] h = refl
joined_plain (t ∷ []) h = (and_parts (is_plain t) true h).0
joined_plain (t ∷ u ∷ texts) h =
    let p = and_parts (is_plain t) (list_all is_plain (u ∷ texts)) h in
    plain_append t (comma ∷ join_with_byte comma (u ∷ texts)) p.0 (joined_plain (u ∷ texts) p.1)
