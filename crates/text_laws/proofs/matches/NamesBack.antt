-- Printed bits that a named field can state are read as those bits.
use Rattle.std.proofs.Common.{◌≡◌, ℕ, ◌<◌, ◌≤◌, ◌^◌, ◌-◌, Bool, true, false, cond, List, [], ◌∷◌, ◌++◌, length, refl, sym, subst, ap, ◌∙◌, arith, Some, None, decimal, pow_pos, eqb-true}
use Rattle.std.specs.Prelude.{◌&&◌, ◌||◌, ◌==◌, not, nat_lt, nat_le, is_some, codes}
use Rattle.std.specs.List.{list_all}
use Rattle.std.specs.Option.{option_map_or}
use Rattle.std.proofs.lemmas.Bool.{and_from, and_parts, both_ways, leb-true, ltb-true}
use Rattle.std.proofs.lemmas.Bool.Decides.{nat_tests}
use Rattle.spec_base.specs.Bits.{all_bits}
use Rattle.spec_actions.specs.declared.named_field.NamedField.{NamedField}
use Rattle.spec_actions.specs.declared.named_field.NamedField.TheVariants as field
use Rattle.spec_actions.specs.Named.{named, is_printed_alone}
use Rattle.spec_flow_text.specs.Characters.{slash, equals_sign, is_value_character}
use Rattle.spec_flow_text.specs.Numbers.{last_port}
use Rattle.spec_flow_text.specs.declared.shorthand.Shorthand.{Shorthand}
use Rattle.spec_flow_text.specs.declared.shorthand.Shorthand.TheVariants as short
use Rattle.spec_flow_text.specs.Names.{name_of, word_of}
use Rattle.spec_flow_text.specs.Values.{Bits, bits, form_of, most_of, value_in, whole_value, value_of, bits_stated}
use Rattle.spec_flow_text.specs.Items.{is_separator}
use Rattle.spec_flow_text.specs.Printed.{printed_form, fragment_word, value_in_text, Short, Value}
use Rattle.text_laws.proofs.Cuts.{lacks_by, split_once-lacks}
use Rattle.text_laws.specs.Texts.{is_plain_character}
use Rattle.text_laws.proofs.PlainValues.{IsPlain, plain_append, name_plain}
use Rattle.text_laws.proofs.ItemTexts.{IsInText, IsQuiet, is_quiet_character, name_quiet, decimal_quiet, decimal_there}
use Rattle.text_laws.proofs.ValuesBack.{ReadValues, AreAlike, IsSpelled, bits_back}
use Rattle.text_laws.proofs.ActionsBack.{fits_written, value_quiet, value_there}
use Rattle.text_laws.specs.SpelledMatches.{is_in_range, can_state}
use Rattle.text_laws.proofs.matches.ItemsBack.{short_states, value_states, short_no_list, value_no_list}
use Rattle.text_laws.proofs.matches.WordsBack.{IsWhole, IsReadable}

-- the text of bits is read as these bits
pub record IsBack (f : NamedField) (b : Bits) : Type 0 where
  pub in_text : IsInText f
  pub back : value_of f (value_in_text f b) ≡ Some b
  pub quiet : IsQuiet (value_in_text f b)
  pub there : (length (value_in_text f b) == 0) ≡ false

-- ---- bits in the range of a field

under : (w n : ℕ) → n ≤ 2 ^ w - 1 → n < 2 ^ w
under w n le = omega (arith, pow_pos w)

pub most_room : (f : NamedField) (n : ℕ) → n ≤ most_of f → n ≤ all_bits (named f).bits
most_room field.InPort n le = le
most_room field.IcmpType n le = omega arith
most_room field.IcmpCode n le = omega arith
most_room field.Icmpv6Type n le = omega arith
most_room field.Icmpv6Code n le = omega arith
most_room f n le = le

room_most : (f : NamedField) (n : ℕ) → (named f).maskable ≡ true → n ≤ all_bits (named f).bits → n ≤ most_of f
room_most field.InPort n h le = le
room_most field.IcmpType n h le = absurd (both_ways false refl h)
room_most field.IcmpCode n h le = absurd (both_ways false refl h)
room_most field.Icmpv6Type n h le = absurd (both_ways false refl h)
room_most field.Icmpv6Code n h le = absurd (both_ways false refl h)
room_most f n h le = le

spelled : (f : NamedField) (b : Bits) → AreAlike (form_of f) (printed_form f) → is_in_range f b ≡ true → IsSpelled f b
spelled f b alike h =
    let p = and_parts ((named f).maskable || (b.mask == all_bits (named f).bits)) (nat_le b.value (most_of f) && nat_le b.mask (all_bits (named f).bits)) h in
    let q = and_parts (nat_le b.value (most_of f)) (nat_le b.mask (all_bits (named f).bits)) p.1 in
    let value = leb-true b.value (most_of f) q.0 in
    let mask = leb-true b.mask (all_bits (named f).bits) q.1 in
    record {
      alike = alike;
      value_most = value;
      mask_most = λ maskable. room_most f b.mask maskable mask;
      value_fits = fits_written f b.value (under (named f).bits b.value (most_room f b.value value));
      mask_fits = fits_written f b.mask (under (named f).bits b.mask mask);
      maskable = p.0;
    }

pub in_range_back : ReadValues → (f : NamedField) (b : Bits) → AreAlike (form_of f) (printed_form f) → IsInText f → is_in_range f b ≡ true → IsBack f b
in_range_back r f b alike in_text h =
    let s = spelled f b alike h in
    record { in_text = in_text; back = bits_back r f b s; quiet = value_quiet r f b s; there = value_there f b alike (value_in_text f b) (bits_back r f b s) }

-- ---- ports

port_text : (v : ℕ) → value_in_text field.InPort (bits v (all_bits 16)) ≡ decimal v
unfolding value_in_text
port_text v = refl

port_value : ReadValues → (v : ℕ) → 0 < v → v ≤ last_port → value_of field.InPort (decimal v) ≡ Some (bits v (all_bits 16))
unfolding value_of whole_value value_in
port_value r v some le =
    let small : v < 2 ^ 128 = omega arith in
    let there : (v == 0) ≡ false = grind (arith, nat_tests) in
    rw (split_once-lacks slash (decimal v) (lacks_by is_value_character slash (decimal v) refl (r.decimal_characters v small)), r.decimals last_port v le small, there) refl

port_back : ReadValues → (v : ℕ) → 0 < v → v ≤ last_port → IsBack field.InPort (bits v (all_bits 16))
port_back r v some le = record {
  in_text = refl;
  back = ap (value_of field.InPort) (port_text v) ∙ port_value r v some le;
  quiet = ap (list_all is_quiet_character) (port_text v) ∙ decimal_quiet v;
  there = ap (λ text. length text == 0) (port_text v) ∙ decimal_there v;
}

-- ---- fragments

pub fragment_bits : (P : Bits → Type 0) → P (bits 0 3) → P (bits 1 3) → P (bits 3 3) → P (bits 1 1) → P (bits 0 2) → (v m : ℕ) → is_some (fragment_word (bits v m)) ≡ true → P (bits v m)
fragment_bits P no_fragment first later fragment not_later v m h =
    by_tests ((0 == v) && (3 == m)) ((1 == v) && (3 == m)) ((3 == v) && (3 == m)) ((1 == v) && (1 == m)) ((0 == v) && (2 == m)) refl refl refl refl refl h
  where
    these : (a b : ℕ) → ((a == v) && (b == m)) ≡ true → P (bits a b) → P (bits v m)
    these a b e p =
        let k = and_parts (a == v) (b == m) e in
        subst (λ x. P (bits x m)) (eqb-true a v k.0) (subst (λ y. P (bits a y)) (eqb-true b m k.1) p)

    by_tests : (t1 t2 t3 t4 t5 : Bool) → ((0 == v) && (3 == m)) ≡ t1 → ((1 == v) && (3 == m)) ≡ t2 → ((3 == v) && (3 == m)) ≡ t3 → ((1 == v) && (1 == m)) ≡ t4 → ((0 == v) && (2 == m)) ≡ t5
        → is_some (option_map_or (λ (row : List ℕ × Bits). Some row.0) (cond t1 (Some (codes "no", bits 0 3)) (cond t2 (Some (codes "first", bits 1 3)) (cond t3 (Some (codes "later", bits 3 3)) (cond t4 (Some (codes "yes", bits 1 1)) (cond t5 (Some (codes "not_later", bits 0 2)) None))))) None) ≡ true
        → P (bits v m)
    by_tests true t2 t3 t4 t5 e1 e2 e3 e4 e5 h = these 0 3 e1 no_fragment
    by_tests false true t3 t4 t5 e1 e2 e3 e4 e5 h = these 1 3 e2 first
    by_tests false false true t4 t5 e1 e2 e3 e4 e5 h = these 3 3 e3 later
    by_tests false false false true t5 e1 e2 e3 e4 e5 h = these 1 1 e4 fragment
    by_tests false false false false true e1 e2 e3 e4 e5 h = these 0 2 e5 not_later
    by_tests false false false false false e1 e2 e3 e4 e5 h = absurd (both_ways false refl h)

fragment_back : (v m : ℕ) → is_some (fragment_word (bits v m)) ≡ true → IsBack field.IpFrag (bits v m)
unfolding value_of value_in_text
fragment_back v m h =
    fragment_bits (IsBack field.IpFrag)
    (record { in_text = refl; back = refl; quiet = refl; there = refl })
    (record { in_text = refl; back = refl; quiet = refl; there = refl })
    (record { in_text = refl; back = refl; quiet = refl; there = refl })
    (record { in_text = refl; back = refl; quiet = refl; there = refl })
    (record { in_text = refl; back = refl; quiet = refl; there = refl })
    v m h

-- ---- all names but the two parts of a service

abbrev pub IsNoService : NamedField → Type 0
IsNoService field.NwTos = ⊥
IsNoService f = Unit {0}

pub name_back : ReadValues → (f : NamedField) → IsNoService f → (v m : ℕ) → can_state f (bits v m) ≡ true → IsBack f (bits v m)
name_back r field.InPort other v m h =
    let p = and_parts (m == all_bits 16) (nat_lt 0 v && nat_le v last_port) h in
    let q = and_parts (nat_lt 0 v) (nat_le v last_port) p.1 in
    subst (λ mask. IsBack field.InPort (bits v mask)) (sym (eqb-true m (all_bits 16) p.0)) (port_back r v (ltb-true 0 v q.0) (leb-true v last_port q.1))
name_back r field.IpFrag other v m h = fragment_back v m h
name_back r field.NwTos other v m h = absurd other
name_back r f other v m h =
    let p = and_parts (not (is_printed_alone f)) (is_in_range f (bits v m)) h in
    in_range_back r f (bits v m) tt p.0 p.1

-- ---- items

quiet_whole : (text : List ℕ) → IsQuiet text → IsWhole text
quiet_whole [] h = refl
quiet_whole (c ∷ cs) h =
    let p = and_parts (is_quiet_character c) (list_all is_quiet_character cs) h in
    and_from (not (is_separator c)) (list_all (λ x. not (is_separator x)) cs) (quiet_no_separator c p.0) (quiet_whole cs p.1)
  where
    quiet_no_separator : (c : ℕ) → is_quiet_character c ≡ true → not (is_separator c) ≡ true
    quiet_no_separator c h = grind (arith, nat_tests)

whole_append : (xs ys : List ℕ) → IsWhole xs → IsWhole ys → IsWhole (xs ++ ys)
whole_append [] ys h k = k
whole_append (x ∷ xs) ys h k =
    let p = and_parts (not (is_separator x)) (list_all (λ c. not (is_separator c)) xs) h in
    and_from (not (is_separator x)) (list_all (λ c. not (is_separator c)) (xs ++ ys)) p.0 (whole_append xs ys p.1 k)

quiet_plain : (text : List ℕ) → IsQuiet text → IsPlain text
quiet_plain [] h = refl
quiet_plain (c ∷ cs) h =
    let p = and_parts (is_quiet_character c) (list_all is_quiet_character cs) h in
    and_from (is_plain_character c) (list_all is_plain_character cs) (plain_character c p.0) (quiet_plain cs p.1)
  where
    plain_character : (c : ℕ) → is_quiet_character c ≡ true → is_plain_character c ≡ true
    plain_character c h = grind (arith, nat_tests)

item_there : (xs ys : List ℕ) → (length (xs ++ equals_sign ∷ ys) == 0) ≡ false
item_there [] ys = grind (arith, nat_tests)
item_there (x ∷ xs) ys = grind (arith, nat_tests)

pub value_readable : (f : NamedField) (b s : Bits) → IsBack f b → bits_stated f b ≡ Some s → IsReadable (Value f b)
value_readable f b s back stated = record {
  there = item_there (name_of f) (value_in_text f b);
  whole = whole_append (name_of f) (equals_sign ∷ value_in_text f b) (quiet_whole (name_of f) (name_quiet f)) (quiet_whole (value_in_text f b) back.quiet);
  plain = plain_append (name_of f) (equals_sign ∷ value_in_text f b) (name_plain f) (quiet_plain (value_in_text f b) back.quiet);
  states = rw stated (value_states f b s back.in_text back.there back.back stated);
  no_list = λ at. value_no_list at f (equals_sign ∷ value_in_text f b);
}

short_there : (h : Shorthand) → (length (word_of h) == 0) ≡ false
short_there short.Ip = refl
short_there h = refl

short_whole : (h : Shorthand) → IsWhole (word_of h)
short_whole short.Ip = refl
short_whole h = refl

short_plain : (h : Shorthand) → IsPlain (word_of h)
short_plain short.Ip = refl
short_plain h = refl

pub short_readable : (h : Shorthand) → IsReadable (Short h)
short_readable h = record { there = short_there h; whole = short_whole h; plain = short_plain h; states = short_states h; no_list = λ at. short_no_list at h }
