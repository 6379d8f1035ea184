-- One printed action is read as that action.
use Rattle.std.proofs.Common.{◌≡◌, ℕ, zero, suc, ◌+◌, ◌-◌, ◌/◌, ◌%◌, ◌<◌, ◌≤◌, ◌^◌, Bool, true, false, cond, List, [], ◌∷◌, ◌++◌, length, take, drop, refl, sym, ap, ◌∙◌, arith, Some, None, Ok, decimal, eqb-true, append_assoc, append-nil, length-append, eq-eqb}
use Rattle.std.specs.Prelude.{not, ◌||◌, ◌==◌, codes, nat_eq}
use Rattle.std.specs.List.{list_all, fold, slice_split, onto_first, take_while}
use Rattle.std.specs.Option.{option_map}
use Rattle.std.proofs.Math.Seq.{take-append_seam, drop-append_seam, drop-append-add}
use Rattle.std.proofs.lemmas.List.Splits.{slice_split-cons_yes, slice_split-cons_no}
use Rattle.std.specs.Fmt.{digits, digits_onto, digit_glyph}
use Rattle.std.specs.Char.{is_ascii_digit}
use Rattle.std.proofs.lemmas.Bool.{and_from, and_parts, both_ways, not-true}
use Rattle.std.proofs.lemmas.Bool.Decides.{nat_tests}
use Rattle.spec_actions.specs.declared.named_field.NamedField.{NamedField}
use Rattle.spec_actions.specs.declared.named_field.NamedField.TheVariants as field
use Rattle.spec_actions.specs.declared.action.Slice.{Slice}
use Rattle.spec_actions.specs.declared.action.OfAction.{OfAction}
use Rattle.spec_actions.specs.declared.action.OfAction.TheVariants.{Output, OutputField, InPort, All, Flood, Resubmit, Goto, Move, DecTtl, PushVlan, PopVlan, SetVid, SetPcp}
use Rattle.spec_actions.specs.Sound.{is_sound, is_written, is_sound_slice, last_table, last_vid, last_pcp}
use Rattle.spec_actions.specs.Named.{is_printed_alone}
use Rattle.spec_keys.specs.Protocols.{is_tag_type}
use Rattle.spec_flow_text.specs.NumbersPrinted.{hexadecimal4}
use Rattle.spec_flow_text.specs.Characters.{dot, hyphen, greater_than, slash, comma, left_parenthesis, right_parenthesis, left_bracket, right_bracket, is_value_character}
use Rattle.spec_flow_text.specs.Numbers.{where_found, split_once, digits_upto, number_upto, last_port}
use Rattle.spec_flow_text.specs.declared.names.ActionName.TheVariants as action
use Rattle.spec_flow_text.specs.Names.{name_of, field_named, action_named, reserved_port_named, begins_with_digit}
use Rattle.spec_flow_text.specs.Items.{◌>>=◌, Word}
use Rattle.spec_flow_text.specs.Actions.{field_in, written_field, output_field, output_to, arrow_place, ends_of_arrow, arrow_argument, move, greatest_number, slice, bit_number, bits_between, bits_in, slice_name, slice_after, slice_of, value_or_fault, skipping, table_of_arguments, open_after, is_closed, argument_of, port_of, output, number_argument, goto_item, push_vlan, resubmit, inside_brackets, actions_of_item}
use Rattle.spec_flow_text.specs.Printed.{slice_text, action_text}
use Rattle.text_laws.proofs.TagTypes.{of_each_type}
use Rattle.text_laws.proofs.Cuts.{lacks, lacks_by, split_once-front, take_while-front}

-- what is known of printed numbers
pub record NumberTexts : Type 0 where
  pub characters : (n : ℕ) → n < 2 ^ 128 → list_all is_value_character (decimal n) ≡ true
  pub back : (most n : ℕ) → n ≤ most → n < 2 ^ 128 → number_upto most (decimal n) ≡ Some n

-- ---- brackets

-- characters of values and names
abbrev pub is_quiet_character : ℕ → Bool
is_quiet_character c = is_value_character c || ((c == slash) || (c == 95))

abbrev pub IsQuiet : List ℕ → Type 0
IsQuiet text = list_all is_quiet_character text ≡ true

value_quiet : (c : ℕ) → is_value_character c ≡ true → is_quiet_character c ≡ true
value_quiet c h = grind (arith, nat_tests)

pub quiet : (text : List ℕ) → list_all is_value_character text ≡ true → IsQuiet text
quiet [] h = refl
quiet (c ∷ cs) h =
    let p = and_parts (is_value_character c) (list_all is_value_character cs) h in
    and_from (is_quiet_character c) (list_all is_quiet_character cs) (value_quiet c p.0) (quiet cs p.1)

apart : (c other : ℕ) → is_quiet_character other ≡ false → is_quiet_character c ≡ true → (c == other) ≡ false
apart c other e h = by_test (c == other) refl
  where
    none : {b : Bool} → b ≡ false → b ≡ true → (c == other) ≡ false
    none f t = cc

    by_test : (t : Bool) → (c == other) ≡ t → (c == other) ≡ false
    by_test false is = is
    by_test true is = none (rw (eqb-true c other is) e) h

abbrev pub AreClosing : List ℕ → Type 0
AreClosing brackets = list_all (λ b. (b == right_parenthesis) || (b == right_bracket)) brackets ≡ true

closing_apart : (c close : ℕ) → ((close == right_parenthesis) || (close == right_bracket)) ≡ true → is_quiet_character c ≡ true → (c == close) ≡ false
closing_apart c close h q = grind (arith, nat_tests)

pub quiet_after : (brackets : List ℕ) (c : ℕ) → AreClosing brackets → is_quiet_character c ≡ true → open_after brackets c ≡ brackets
quiet_after [] c h q = rw (apart c left_parenthesis refl q, apart c left_bracket refl q) refl
quiet_after (close ∷ outer) c h q =
    rw (closing_apart c close (and_parts ((close == right_parenthesis) || (close == right_bracket)) _ h).0 q, apart c left_parenthesis refl q, apart c left_bracket refl q) refl

-- quiet characters open and close no bracket
pub quiet_over : (brackets text rest : List ℕ) → AreClosing brackets → IsQuiet text → fold open_after brackets (text ++ rest) ≡ fold open_after brackets rest
quiet_over brackets [] rest h q = refl
quiet_over brackets (c ∷ cs) rest h q =
    let p = and_parts (is_quiet_character c) (list_all is_quiet_character cs) q in
    ap (λ bs. fold open_after bs (cs ++ rest)) (quiet_after brackets c h p.0) ∙ quiet_over brackets cs rest h p.1

pub quiet_end : (text : List ℕ) → IsQuiet text → fold open_after [] text ≡ []
quiet_end [] q = refl
quiet_end (c ∷ cs) q =
    let p = and_parts (is_quiet_character c) (list_all is_quiet_character cs) q in
    rw (quiet_after [] c refl p.0) (quiet_end cs p.1)

-- ---- numbers

glyph_digit : (n : ℕ) → is_ascii_digit (digit_glyph false (n % 10)) ≡ true
glyph_digit n = let less : n % 10 < 10 = omega arith in at_digit (n % 10) less
  where
    at_digit : (d : ℕ) → d < 10 → is_ascii_digit (digit_glyph false d) ≡ true
    at_digit d less = grind (arith, nat_tests)

begins_onto : (k n : ℕ) (rest : List ℕ) → begins_with_digit rest ≡ true → begins_with_digit (digits_onto k 10 false n rest) ≡ true
begins_onto zero n rest h = h
begins_onto (suc k) n rest h = by_test (n / 10 == 0) (digits_onto k 10 false (n / 10) (digit_glyph false (n % 10) ∷ rest)) (begins_onto k (n / 10) (digit_glyph false (n % 10) ∷ rest) (glyph_digit n))
  where
    by_test : (t : Bool) (long : List ℕ) → begins_with_digit long ≡ true → begins_with_digit (cond t (digit_glyph false (n % 10) ∷ rest) long) ≡ true
    by_test true long k = glyph_digit n
    by_test false long k = k

begins_first : (k n : ℕ) → begins_with_digit (digits_onto (suc k) 10 false n []) ≡ true
begins_first k n = by_test (n / 10 == 0) (digits_onto k 10 false (n / 10) (digit_glyph false (n % 10) ∷ [])) (begins_onto k (n / 10) (digit_glyph false (n % 10) ∷ []) (glyph_digit n))
  where
    by_test : (t : Bool) (long : List ℕ) → begins_with_digit long ≡ true → begins_with_digit (cond t (digit_glyph false (n % 10) ∷ []) long) ≡ true
    by_test true long k = glyph_digit n
    by_test false long k = k

pub decimal_begins : (n : ℕ) → begins_with_digit (decimal n) ≡ true
unfolding digits
decimal_begins n = begins_first 63 n

pub some_there : (text : List ℕ) → begins_with_digit text ≡ true → (length text == 0) ≡ false
some_there [] h = cc
some_there (c ∷ cs) h = grind (arith, nat_tests)

pub decimal_there : (n : ℕ) → (length (decimal n) == 0) ≡ false
decimal_there n = some_there (decimal n) (decimal_begins n)

-- ---- actions

abbrev pub item_at : ℕ → List ℕ → Word
item_at at text = record { at = at; text = text }

abbrev pub IsReadBack : Bool → Bool → OfAction → Type 0
IsReadBack only last a = (at : ℕ) → actions_of_item only last (item_at at (action_text a)) ≡ Ok (a ∷ [])

named_output : action_named (codes "output") ≡ Some action.Output
unfolding action_named reserved_port_named
named_output = refl

within : (n : ℕ) → n ≤ last_port → n < 2 ^ 128
within n h = omega arith

pub output_back : NumberTexts → (only last : Bool) (port : ℕ) → 0 < port → port ≤ last_port → IsReadBack only last (Output port)
unfolding actions_of_item is_closed output argument_of port_of
output_back v only last port some most at =
    let nonzero : (port == 0) ≡ false = grind (arith, nat_tests) in
    rw (
      named_output,
      quiet_end (decimal port) (quiet (decimal port) (v.characters port (within port most))),
      decimal_there port,
      decimal_begins port,
      v.back last_port port most (within port most),
      nonzero,
    ) refl

pub in_port_back : (only last : Bool) → IsReadBack only last InPort
unfolding actions_of_item action_named reserved_port_named is_closed
in_port_back only last at = refl

pub all_back : (only last : Bool) → IsReadBack only last All
unfolding actions_of_item action_named reserved_port_named is_closed
all_back only last at = refl

pub flood_back : (only last : Bool) → IsReadBack only last Flood
unfolding actions_of_item action_named reserved_port_named is_closed
flood_back only last at = refl

pub dec_ttl_back : (only last : Bool) → IsReadBack only last DecTtl
unfolding actions_of_item action_named reserved_port_named is_closed
dec_ttl_back only last at = refl

pub pop_vlan_back : (only last : Bool) → IsReadBack only last PopVlan
unfolding actions_of_item action_named reserved_port_named is_closed
pop_vlan_back only last at = refl

pub push_vlan_back : (only last : Bool) (tpid : ℕ) → is_tag_type tpid ≡ true → IsReadBack only last (PushVlan tpid)
unfolding actions_of_item action_named reserved_port_named is_closed push_vlan argument_of number_upto digits_upto hexadecimal4
push_vlan_back only last tpid h = of_each_type (λ n. IsReadBack only last (PushVlan n)) (λ at. refl) (λ at. refl) tpid h

-- a number that is a value
number_there : NumberTexts → (n : ℕ) → n ≤ last_vid → fold open_after [] (decimal n) ≡ []
number_there v n le = quiet_end (decimal n) (quiet (decimal n) (v.characters n (omega arith)))

named_goto : action_named (codes "goto_table") ≡ Some action.GotoTable
unfolding action_named reserved_port_named
named_goto = refl

named_vid : action_named (codes "mod_vlan_vid") ≡ Some action.ModVlanVid
unfolding action_named reserved_port_named
named_vid = refl

named_pcp : action_named (codes "mod_vlan_pcp") ≡ Some action.ModVlanPcp
unfolding action_named reserved_port_named
named_pcp = refl

pub goto_back : NumberTexts → (only : Bool) (table : ℕ) → table ≤ last_table → IsReadBack only true (Goto table)
unfolding actions_of_item is_closed goto_item number_argument argument_of
goto_back v only table le at =
    let few : table ≤ last_vid = omega arith in
    let small : table < 2 ^ 128 = omega arith in
    rw (named_goto, number_there v table few, decimal_there table, v.back last_table table le small) refl

pub set_vid_back : NumberTexts → (only last : Bool) (vid : ℕ) → vid ≤ last_vid → IsReadBack only last (SetVid vid)
unfolding actions_of_item is_closed number_argument argument_of
set_vid_back v only last vid le at =
    let small : vid < 2 ^ 128 = omega arith in
    rw (named_vid, number_there v vid le, decimal_there vid, v.back last_vid vid le small) refl

pub set_pcp_back : NumberTexts → (only last : Bool) (pcp : ℕ) → pcp ≤ last_pcp → IsReadBack only last (SetPcp pcp)
unfolding actions_of_item is_closed number_argument argument_of
set_pcp_back v only last pcp le at =
    let few : pcp ≤ last_vid = omega arith in
    let small : pcp < 2 ^ 128 = omega arith in
    rw (named_pcp, number_there v pcp few, decimal_there pcp, v.back last_pcp pcp le small) refl

-- ---- digits

digits_onto_digits : (k n : ℕ) (rest : List ℕ) → list_all is_ascii_digit rest ≡ true → list_all is_ascii_digit (digits_onto k 10 false n rest) ≡ true
digits_onto_digits zero n rest h = h
digits_onto_digits (suc k) n rest h =
    let longer : list_all is_ascii_digit (digit_glyph false (n % 10) ∷ rest) ≡ true = and_from (is_ascii_digit (digit_glyph false (n % 10))) (list_all is_ascii_digit rest) (glyph_digit n) h in
    by_test (n / 10 == 0) (digit_glyph false (n % 10) ∷ rest) (digits_onto k 10 false (n / 10) (digit_glyph false (n % 10) ∷ rest)) longer (digits_onto_digits k (n / 10) (digit_glyph false (n % 10) ∷ rest) longer)
  where
    by_test : (t : Bool) (short long : List ℕ) → list_all is_ascii_digit short ≡ true → list_all is_ascii_digit long ≡ true → list_all is_ascii_digit (cond t short long) ≡ true
    by_test true short long h k = h
    by_test false short long h k = k

decimal_digits : (n : ℕ) → list_all is_ascii_digit (decimal n) ≡ true
unfolding digits
decimal_digits n = digits_onto_digits 64 n [] refl

digit_quiet : (c : ℕ) → is_ascii_digit c ≡ true → is_quiet_character c ≡ true
digit_quiet c h = grind (arith, nat_tests)

digits_quiet : (text : List ℕ) → list_all is_ascii_digit text ≡ true → IsQuiet text
digits_quiet [] h = refl
digits_quiet (c ∷ cs) h =
    let p = and_parts (is_ascii_digit c) (list_all is_ascii_digit cs) h in
    and_from (is_quiet_character c) (list_all is_quiet_character cs) (digit_quiet c p.0) (digits_quiet cs p.1)

pub decimal_quiet : (n : ℕ) → IsQuiet (decimal n)
decimal_quiet n = digits_quiet (decimal n) (decimal_digits n)

decimal_lacks : (byte n : ℕ) → is_ascii_digit byte ≡ false → lacks byte (decimal n) ≡ true
decimal_lacks byte n e = lacks_by is_ascii_digit byte (decimal n) e (decimal_digits n)

-- ---- resubmit

named_resubmit : action_named (codes "resubmit") ≡ Some action.Resubmit
unfolding action_named reserved_port_named
named_resubmit = refl

one_part : (byte : ℕ) (text : List ℕ) → lacks byte text ≡ true → slice_split (λ c. c == byte) text ≡ text ∷ []
one_part byte [] h = refl
one_part byte (c ∷ cs) h =
    let p = and_parts (not (c == byte)) (lacks byte cs) h in
    slice_split-cons_no (λ x. x == byte) c cs (not-true (c == byte) p.0) ∙ ap (onto_first c) (one_part byte cs p.1)

two_arguments : (n : ℕ) → slice_split (λ c. c == comma) (comma ∷ decimal n) ≡ [] ∷ decimal n ∷ []
two_arguments n = slice_split-cons_yes (λ c. c == comma) comma (decimal n) refl ∙ ap (λ ts. [] ∷ ts) (one_part comma (decimal n) (decimal_lacks comma n refl))

one_table : (w inside : Word) (text : List ℕ) → (length text == 0) ≡ false
    → table_of_arguments w inside ([] ∷ text ∷ []) ≡ value_or_fault (skipping 1 inside) (option_map (λ n. Resubmit n) (number_upto last_table text))
one_table w inside [] h = cc
one_table w inside (c ∷ cs) h = refl

pub resubmit_back : NumberTexts → (only last : Bool) (table : ℕ) → table ≤ last_table → IsReadBack only last (Resubmit table)
unfolding actions_of_item is_closed resubmit inside_brackets
resubmit_back v only last table le at =
    let small : table < 2 ^ 128 = omega arith in
    let cut = split_once-front right_parenthesis (comma ∷ decimal table) [] (decimal_lacks right_parenthesis table refl) in
    let w = item_at at (codes "resubmit(," ++ (decimal table ++ right_parenthesis ∷ [])) in
    rw (
      named_resubmit,
      quiet_over (right_parenthesis ∷ []) (decimal table) (right_parenthesis ∷ []) refl (decimal_quiet table),
      cut,
      two_arguments table,
      one_table w (item_at (at + 8 + 1) (comma ∷ decimal table)) (decimal table) (decimal_there table),
      v.back last_table table le small,
    ) refl

-- ---- slices

abbrev inner_text : Slice → List ℕ
inner_text s = decimal s.low ++ (dot ∷ dot ∷ decimal s.high)

abbrev after_bracket : Slice → List ℕ
after_bracket s = decimal s.low ++ (dot ∷ dot ∷ (decimal s.high ++ right_bracket ∷ []))

pub quiet_append : (xs ys : List ℕ) → IsQuiet xs → IsQuiet ys → IsQuiet (xs ++ ys)
quiet_append [] ys h k = k
quiet_append (x ∷ xs) ys h k =
    let p = and_parts (is_quiet_character x) (list_all is_quiet_character xs) h in
    and_from (is_quiet_character x) (list_all is_quiet_character (xs ++ ys)) p.0 (quiet_append xs ys p.1 k)

inner_quiet : (s : Slice) → IsQuiet (inner_text s)
inner_quiet s = quiet_append (decimal s.low) (dot ∷ dot ∷ decimal s.high) (decimal_quiet s.low) (decimal_quiet s.high)

inner_end : (s : Slice) → after_bracket s ≡ inner_text s ++ right_bracket ∷ []
inner_end s = sym (append_assoc (decimal s.low) (dot ∷ dot ∷ decimal s.high) (right_bracket ∷ []))

bracket_cut : (s : Slice) → split_once right_bracket (after_bracket s) ≡ Some (inner_text s, [])
bracket_cut s = ap (split_once right_bracket) (inner_end s) ∙ split_once-front right_bracket (inner_text s) [] (lacks_by is_quiet_character right_bracket (inner_text s) refl (inner_quiet s))

dot_cut : (s : Slice) → split_once dot (inner_text s) ≡ Some (decimal s.low, dot ∷ decimal s.high)
dot_cut s = split_once-front dot (decimal s.low) (dot ∷ decimal s.high) (decimal_lacks dot s.low refl)

-- bits within the widest field
abbrev pub IsWideEnough : Slice → Type 0
IsWideEnough s = (s.low < 2 ^ 128) × (s.high < 2 ^ 128)

greatest : (n : ℕ) → n < 2 ^ 128 → n ≤ greatest_number
greatest n h = omega arith

between_back : NumberTexts → (s : Slice) → IsWideEnough s → bits_between s.name (decimal s.low, dot ∷ decimal s.high) ≡ Some s
unfolding bits_between
between_back v s h =
    rw (v.back greatest_number s.low (greatest s.low h.0) h.0, v.back greatest_number s.high (greatest s.high h.1) h.1) refl

some_bits : (f : NamedField) (text : List ℕ) → (length text == 0) ≡ false → bits_in f text ≡ where_found (split_once dot text) (bits_between f) (option_map (λ n. slice f n n) (bit_number text))
unfolding bits_in
some_bits f [] h = cc
some_bits f (c ∷ cs) h = refl

inner_there : (s : Slice) → (length (inner_text s) == 0) ≡ false
inner_there s = let e = length-append (decimal s.low) (dot ∷ dot ∷ decimal s.high) in rw e (grind (arith, nat_tests))

bits_back : NumberTexts → (s : Slice) → IsWideEnough s → bits_in s.name (inner_text s) ≡ Some s
bits_back v s h = some_bits s.name (inner_text s) (inner_there s) ∙ (rw (dot_cut s) (between_back v s h))

slice_after_back : NumberTexts → (s : Slice) → IsWideEnough s → is_sound_slice s ≡ true → slice_after s.name (left_bracket ∷ after_bracket s) ≡ Some s
unfolding slice_after
slice_after_back v s h sound = rw (bracket_cut s, bits_back v s h, sound) refl

pub name_quiet : (f : NamedField) → IsQuiet (name_of f)
name_quiet field.InPort = refl
name_quiet f = refl

pub name_there : (f : NamedField) → (length (name_of f) == 0) ≡ false
name_there field.InPort = refl
name_there f = refl

-- a name that flow text has
abbrev pub IsInText : NamedField → Type 0
IsInText f = not (is_printed_alone f) ≡ true

pub sound_in_text : (s : Slice) → is_sound_slice s ≡ true → IsInText s.name
sound_in_text s sound = (and_parts (not (is_printed_alone s.name)) _ sound).0

written_in_text : (f : NamedField) → is_written f ≡ true → IsInText f
written_in_text field.VlanTpid h = h
written_in_text field.VlanTci2 h = h
written_in_text field.VlanTpid2 h = h
written_in_text f h = refl

field_back : (f : NamedField) → IsInText f → field_named (name_of f) ≡ Some f
unfolding field_named
field_back field.VlanTpid h = absurd (both_ways false refl h)
field_back field.VlanTci2 h = absurd (both_ways false refl h)
field_back field.VlanTpid2 h = absurd (both_ways false refl h)
field_back f h = refl

-- the name of a slice, and what stands behind it
front_of_slice : (s : Slice) → take_while (λ c. not (c == left_bracket)) (slice_text s) ≡ name_of s.name
front_of_slice s = take_while-front left_bracket (name_of s.name) (after_bracket s) (lacks_by is_quiet_character left_bracket (name_of s.name) refl (name_quiet s.name))

slice_name_back : (at : ℕ) (s : Slice) → slice_name (item_at at (slice_text s)) ≡ item_at at (name_of s.name)
slice_name_back at s =
    ap (λ front. item_at at (take (length front) (slice_text s))) (front_of_slice s) ∙ ap (item_at at) (take-append_seam (name_of s.name) (left_bracket ∷ after_bracket s))

slice_of_back : NumberTexts → (at : ℕ) (s : Slice) → IsWideEnough s → is_sound_slice s ≡ true → slice_of s.name (item_at at (slice_text s)) ≡ Ok s
unfolding slice_of
slice_of_back v at s h sound =
    ap (λ (name : Word). value_or_fault (item_at at (slice_text s)) (slice_after s.name (drop (length name.text) (slice_text s)))) (slice_name_back at s)
    ∙ ap (λ rest. value_or_fault (item_at at (slice_text s)) (slice_after s.name rest)) (drop-append_seam (name_of s.name) (left_bracket ∷ after_bracket s))
    ∙ ap (value_or_fault (item_at at (slice_text s))) (slice_after_back v s h sound)

-- a slice closes its brackets
pub slice_and_more : (s : Slice) (rest : List ℕ) → slice_text s ++ rest ≡ name_of s.name ++ (left_bracket ∷ (decimal s.low ++ (dot ∷ dot ∷ (decimal s.high ++ (right_bracket ∷ rest)))))
slice_and_more s rest =
    append_assoc (name_of s.name) (left_bracket ∷ after_bracket s) rest
    ∙ ap (λ t. name_of s.name ++ (left_bracket ∷ t)) (append_assoc (decimal s.low) (dot ∷ dot ∷ (decimal s.high ++ right_bracket ∷ [])) rest)
    ∙ ap (λ t. name_of s.name ++ (left_bracket ∷ (decimal s.low ++ (dot ∷ dot ∷ t)))) (append_assoc (decimal s.high) (right_bracket ∷ []) rest)

slice_over : (s : Slice) (rest : List ℕ) → fold open_after [] (slice_text s ++ rest) ≡ fold open_after [] rest
slice_over s rest =
    ap (fold open_after []) (slice_and_more s rest)
    ∙ quiet_over [] (name_of s.name) (left_bracket ∷ (decimal s.low ++ (dot ∷ dot ∷ (decimal s.high ++ (right_bracket ∷ rest))))) refl (name_quiet s.name)
    ∙ quiet_over (right_bracket ∷ []) (decimal s.low) (dot ∷ dot ∷ (decimal s.high ++ (right_bracket ∷ rest))) refl (decimal_quiet s.low)
    ∙ quiet_over (right_bracket ∷ []) (decimal s.high) (right_bracket ∷ rest) refl (decimal_quiet s.high)

slice_end : (s : Slice) → fold open_after [] (slice_text s) ≡ []
slice_end s = ap (fold open_after []) (sym (append-nil (slice_text s))) ∙ slice_over s []

more_there : (xs ys : List ℕ) → (length xs == 0) ≡ false → (length (xs ++ ys) == 0) ≡ false
more_there [] ys h = cc
more_there (x ∷ xs) ys h = grind (arith, nat_tests)

slice_there : (s : Slice) → (length (slice_text s) == 0) ≡ false
slice_there s = more_there (name_of s.name) (left_bracket ∷ after_bracket s) (name_there s.name)

-- ---- output to a field

name_no_digit : (f : NamedField) (rest : List ℕ) → begins_with_digit (name_of f ++ rest) ≡ false
name_no_digit field.InPort rest = refl
name_no_digit f rest = refl

name_not_reserved : (f : NamedField) (rest : List ℕ) → reserved_port_named (name_of f ++ left_bracket ∷ rest) ≡ None
unfolding reserved_port_named
name_not_reserved field.InPort rest = refl
name_not_reserved f rest = refl

field_in_back : (w : Word) (at : ℕ) (f : NamedField) → IsInText f → field_in w (item_at at (name_of f)) ≡ Ok f
unfolding field_in
field_in_back w at f h = rw (field_back f h) refl

output_field_at : NumberTexts → (w : Word) (at : ℕ) (s : Slice) → IsWideEnough s → is_sound_slice s ≡ true → output_field w (item_at at (slice_text s)) ≡ Ok (OutputField s)
output_field_at v w at s h sound =
    ap (λ name. field_in w name >>= (λ f. slice_of f (item_at at (slice_text s)) >>= (λ x. Ok (OutputField x)))) (slice_name_back at s)
    ∙ (rw (field_in_back w at s.name (sound_in_text s sound), slice_of_back v at s h sound) refl)

output_to_slice : NumberTexts → (w : Word) (at : ℕ) (s : Slice) → IsWideEnough s → is_sound_slice s ≡ true → output_to w (item_at at (slice_text s)) ≡ Ok (OutputField s)
output_to_slice v w at s h sound =
    rw (name_no_digit s.name (left_bracket ∷ after_bracket s), name_not_reserved s.name (after_bracket s)) (output_field_at v w at s h sound)

pub output_field_back : NumberTexts → (only last : Bool) (s : Slice) → IsWideEnough s → is_sound_slice s ≡ true → IsReadBack only last (OutputField s)
unfolding actions_of_item is_closed output argument_of
output_field_back v only last s h sound at =
    rw (named_output, slice_end s, slice_there s, output_to_slice v (item_at at (action_text (OutputField s))) (at + 6 + 1) s h sound) refl

-- ---- arrows

arrow_apart : (c : ℕ) → (c == hyphen) ≡ false → nat_eq hyphen c ≡ false
arrow_apart c h = grind (arith, nat_tests)

arrow_front : (front rest : List ℕ) → lacks hyphen front ≡ true → arrow_place (front ++ hyphen ∷ greater_than ∷ rest) ≡ Some (length front)
unfolding arrow_place
arrow_front [] rest h = refl
arrow_front (c ∷ cs) rest h =
    let p = and_parts (not (c == hyphen)) (lacks hyphen cs) h in
    let one : length cs + 1 ≡ length (c ∷ cs) = omega arith in
    rw (arrow_apart c (not-true (c == hyphen) p.0), arrow_front cs rest p.1) (ap Some one)

pub ends_back : (at : ℕ) (front back : List ℕ) → lacks hyphen front ≡ true → (length front == 0) ≡ false → (length back == 0) ≡ false
    → ends_of_arrow (item_at at (front ++ hyphen ∷ greater_than ∷ back)) ≡ Some (item_at at front, item_at (at + (length front + 2)) back)
unfolding ends_of_arrow
ends_back at front back h some more =
    rw (
      arrow_front front back h,
      take-append_seam front (hyphen ∷ greater_than ∷ back),
      drop-append-add front (hyphen ∷ greater_than ∷ back) 2,
      some,
      more,
    ) refl

pub arrow_argument-from : (w a : Word) (ends : Word × Word) → argument_of w ≡ Some a → ends_of_arrow a ≡ Some ends → arrow_argument w ≡ Ok ends
unfolding arrow_argument
arrow_argument-from w a ends h k = rw (h, k) refl

-- ---- move

named_move : action_named (codes "move") ≡ Some action.Move
unfolding action_named reserved_port_named
named_move = refl

lacks_append : (byte : ℕ) (xs ys : List ℕ) → lacks byte xs ≡ true → lacks byte ys ≡ true → lacks byte (xs ++ ys) ≡ true
lacks_append byte [] ys h k = k
lacks_append byte (x ∷ xs) ys h k =
    let p = and_parts (not (x == byte)) (lacks byte xs) h in
    and_from (not (x == byte)) (lacks byte (xs ++ ys)) p.0 (lacks_append byte xs ys p.1 k)

pub quiet_lacks : (byte : ℕ) (text : List ℕ) → is_quiet_character byte ≡ false → IsQuiet text → lacks byte text ≡ true
quiet_lacks byte text e q = lacks_by is_quiet_character byte text e q

slice_lacks : (s : Slice) → lacks hyphen (slice_text s) ≡ true
slice_lacks s =
    lacks_append hyphen (name_of s.name) (left_bracket ∷ after_bracket s) (quiet_lacks hyphen (name_of s.name) refl (name_quiet s.name)) (
    lacks_append hyphen (decimal s.low) (dot ∷ dot ∷ (decimal s.high ++ right_bracket ∷ [])) (decimal_lacks hyphen s.low refl) (lacks_append hyphen (decimal s.high) (right_bracket ∷ []) (decimal_lacks hyphen s.high refl) refl)
    )

pub arrow_there : (front back : List ℕ) → (length (front ++ hyphen ∷ greater_than ∷ back) == 0) ≡ false
arrow_there [] back = grind (arith, nat_tests)
arrow_there (c ∷ cs) back = grind (arith, nat_tests)

move_argument : (at : ℕ) (text : List ℕ) → (length text == 0) ≡ false → argument_of (item_at at (codes "move:" ++ text)) ≡ Some (item_at (at + 4 + 1) text)
unfolding argument_of
move_argument at text h = rw h refl

pub written_back : (w : Word) (at : ℕ) (f : NamedField) → is_written f ≡ true → written_field w (item_at at (name_of f)) ≡ Ok f
unfolding written_field
written_back w at f h = rw (field_in_back w at f (written_in_text f h), h) refl

same_width : (a b c d : ℕ) → (a - b == c - d) ≡ true → (a - b + 1 == c - d + 1) ≡ true
same_width a b c d h = let e = eqb-true (a - b) (c - d) h in rw e (eq-eqb (c - d + 1) (c - d + 1) refl)

pub move_back : NumberTexts → (only last : Bool) (source target : Slice) → IsWideEnough source → IsWideEnough target → is_sound (Move source target) ≡ true → IsReadBack only last (Move source target)
unfolding actions_of_item is_closed move
move_back v only last source target h k sound at =
    let p = and_parts (is_sound_slice source) _ sound in
    let q = and_parts (is_sound_slice target) _ p.1 in
    let r = and_parts (is_written target.name) (source.high - source.low == target.high - target.low) q.1 in
    let w = item_at at (action_text (Move source target)) in
    let back = at + 4 + 1 + (length (slice_text source) + 2) in
    let closed = slice_over source (hyphen ∷ greater_than ∷ slice_text target) ∙ slice_end target in
    let ends = arrow_argument-from w (item_at (at + 4 + 1) (slice_text source ++ hyphen ∷ greater_than ∷ slice_text target)) (item_at (at + 4 + 1) (slice_text source), item_at back (slice_text target)) (move_argument at (slice_text source ++ hyphen ∷ greater_than ∷ slice_text target) (arrow_there (slice_text source) (slice_text target))) (ends_back (at + 4 + 1) (slice_text source) (slice_text target) (slice_lacks source) (slice_there source) (slice_there target)) in
    rw (
      named_move,
      closed,
      ends,
      slice_name_back (at + 4 + 1) source,
      slice_name_back back target,
      field_in_back w (at + 4 + 1) source.name (sound_in_text source p.0),
      written_back w back target.name r.0,
      slice_of_back v (at + 4 + 1) source h p.0,
      slice_of_back v back target k q.0,
      same_width source.high source.low target.high target.low r.1,
    ) refl
