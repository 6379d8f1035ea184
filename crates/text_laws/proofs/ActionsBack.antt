-- A printed action is read as that action, of whatever kind.
use Rattle.std.proofs.Common.{Ok, ◌≡◌, ℕ, ◌+◌, ◌-◌, ◌<◌, ◌≤◌, ◌^◌, Bool, true, false, cond, List, [], ◌∷◌, ◌++◌, length, refl, sym, subst, ap, ◌∙◌, arith, Some, None, eqb-true}
use Rattle.std.specs.Prelude.{not, ◌&&◌, ◌||◌, ◌==◌, codes, nat_lt, nat_le, bit_and}
use Rattle.std.specs.List.{list_all, fold}
use Rattle.std.proofs.lemmas.Bool.{and_parts, both_ways, ltb-true, leb-true}
use Rattle.std.proofs.lemmas.Bool.Decides.{nat_tests}
use Rattle.spec_base.specs.Bits.{all_bits}
use Rattle.spec_actions.specs.declared.named_field.NamedField.{NamedField}
use Rattle.spec_actions.specs.declared.named_field.NamedField.TheVariants as field
use Rattle.spec_actions.specs.declared.action.Slice.{Slice}
use Rattle.spec_actions.specs.declared.action.OfAction.{OfAction}
use Rattle.spec_actions.specs.declared.action.OfAction.TheVariants.{Output, OutputField, InPort, All, Flood, Resubmit, Goto, Set, Move, DecTtl, PushVlan, PopVlan, SetVid, SetPcp}
use Rattle.spec_actions.specs.Named.{named, is_printed_alone}
use Rattle.spec_actions.specs.Sound.{is_written, fits_name, is_sound, is_sound_slice, last_table, last_vid, last_pcp}
use Rattle.spec_flow_text.specs.Characters.{hyphen, greater_than, slash}
use Rattle.spec_flow_text.specs.Numbers.{digits_upto, decimal_upto, number_upto, last_port, mac, octet_before_colon}
use Rattle.spec_flow_text.specs.Addresses.{ipv4, ipv6, decimal_octet_before_dot, eight_groups, groups, last_groups, group, groups_of_ipv4, elided_groups, split_at_elision}
use Rattle.spec_flow_text.specs.declared.names.ActionName.TheVariants as action
use Rattle.spec_flow_text.specs.Names.{name_of, action_named, reserved_port_named}
use Rattle.spec_flow_text.specs.Values.{Bits, bits, form_of, most_of, value_in, whole_value, value_of}
use Rattle.spec_flow_text.specs.Actions.{open_after, is_closed, argument_of, set_field, has_tag_bit, is_respellable, actions_of_item}
use Rattle.spec_flow_text.specs.Printed.{printed_form, value_text, masked_text, mask_text, value_in_text}
use Rattle.text_laws.specs.Spelled.{is_spellable, is_goto}
use Rattle.text_laws.proofs.ValuesBack.{ReadValues, AreAlike, Fits, IsSpelled, value_has, masked_has, mask_has, no_word, read_as_value, bits_back}
use Rattle.text_laws.proofs.ItemTexts.{NumberTexts, IsQuiet, quiet, quiet_append, quiet_lacks, quiet_over, quiet_end, item_at, IsReadBack, IsWideEnough, name_quiet, name_there, arrow_there, ends_back, arrow_argument-from, written_back, output_back, output_field_back, in_port_back, all_back, flood_back, resubmit_back, goto_back, move_back, dec_ttl_back, push_vlan_back, pop_vlan_back, set_vid_back, set_pcp_back}

-- ---- writes

alike_written : (f : NamedField) → is_written f ≡ true → AreAlike (form_of f) (printed_form f)
alike_written field.InPort h = absurd (both_ways false refl h)
alike_written field.IpFrag h = absurd (both_ways false refl h)
alike_written f h = tt

below : (w n : ℕ) → n < 2 ^ w → n ≤ 2 ^ w - 1
below w n lt = omega arith

most_written : (f : NamedField) → is_written f ≡ true → (n : ℕ) → n < 2 ^ (named f).bits → n ≤ most_of f
most_written field.IcmpType h n lt = absurd (both_ways false refl h)
most_written field.IcmpCode h n lt = absurd (both_ways false refl h)
most_written field.Icmpv6Type h n lt = absurd (both_ways false refl h)
most_written field.Icmpv6Code h n lt = absurd (both_ways false refl h)
most_written f h n lt = below (named f).bits n lt

pub fits_written : (f : NamedField) (n : ℕ) → n < 2 ^ (named f).bits → Fits (printed_form f) n
fits_written field.IpFrag n lt = omega arith
fits_written f n lt = omega arith

pub value_quiet : ReadValues → (f : NamedField) (b : Bits) → IsSpelled f b → IsQuiet (value_in_text f b)
unfolding value_in_text
value_quiet r f b h = ap (list_all _) (no_word (form_of f) (printed_form f) h.alike (all_bits (named f).bits) b) ∙ by_test (b.mask == all_bits (named f).bits)
  where
    by_test : (t : Bool) → IsQuiet (cond t (value_text (printed_form f) b.value) (masked_text (printed_form f) b.value ++ (slash ∷ mask_text (printed_form f) b.mask)))
    by_test true = quiet (value_text (printed_form f) b.value) (value_has r (form_of f) (printed_form f) h.alike b.value h.value_fits)
    by_test false =
        quiet_append (masked_text (printed_form f) b.value) (slash ∷ mask_text (printed_form f) b.mask)
        (quiet (masked_text (printed_form f) b.value) (masked_has r (form_of f) (printed_form f) h.alike b.value h.value_fits))
        (quiet (mask_text (printed_form f) b.mask) (mask_has r (form_of f) (printed_form f) h.alike b.mask h.mask_fits))

-- an empty text is no value
no_value : (f : NamedField) (most : ℕ) → value_in (form_of f) most [] ≡ None
unfolding value_in number_upto decimal_upto digits_upto mac octet_before_colon ipv4 decimal_octet_before_dot ipv6 eight_groups groups last_groups group groups_of_ipv4 elided_groups split_at_elision
no_value field.InPort most = refl
no_value f most = refl

empty_back : (f : NamedField) (b : Bits) → AreAlike (form_of f) (printed_form f) → value_of f [] ≡ Some b → ⊥
unfolding whole_value
empty_back f b alike h =
    let none : value_of f [] ≡ None = read_as_value f [] alike ∙ (rw (no_value f (most_of f)) refl) in
    cc

pub value_there : (f : NamedField) (b : Bits) → AreAlike (form_of f) (printed_form f) → (text : List ℕ) → value_of f text ≡ Some b → (length text == 0) ≡ false
value_there f b alike [] h = absurd (empty_back f b alike h)
value_there f b alike (c ∷ cs) h = grind (arith, nat_tests)

named_set : action_named (codes "set_field") ≡ Some action.SetField
unfolding action_named reserved_port_named
named_set = refl

set_argument : (at : ℕ) (text : List ℕ) → (length text == 0) ≡ false → argument_of (item_at at (codes "set_field:" ++ text)) ≡ Some (item_at (at + 9 + 1) text)
unfolding argument_of
set_argument at text h = rw h refl

set_closed : (text : List ℕ) (f : NamedField) → IsQuiet text → fold open_after [] (text ++ hyphen ∷ greater_than ∷ name_of f) ≡ []
set_closed text f q = quiet_over [] text (hyphen ∷ greater_than ∷ name_of f) refl q ∙ quiet_end (name_of f) (name_quiet f)

abbrev set_text : NamedField → Bits → List ℕ
set_text f b = codes "set_field:" ++ (value_in_text f b ++ (codes "->" ++ name_of f))

set_read : ReadValues → (only last : Bool) (f : NamedField) (b : Bits) → IsSpelled f b → is_written f ≡ true → has_tag_bit f b ≡ true → bit_and b.value b.mask ≡ b.value
    → (at : ℕ) → actions_of_item only last (item_at at (set_text f b)) ≡ Ok (Set f b.value b.mask ∷ [])
unfolding actions_of_item is_closed set_field
set_read r only last f b h written tagged inside at =
    let q = value_quiet r f b h in
    let text = value_in_text f b in
    let w = item_at at (set_text f b) in
    let back = at + 9 + 1 + (length text + 2) in
    let there = value_there f b h.alike text (bits_back r f b h) in
    let ends = arrow_argument-from w (item_at (at + 9 + 1) (text ++ hyphen ∷ greater_than ∷ name_of f)) (item_at (at + 9 + 1) text, item_at back (name_of f)) (set_argument at (text ++ hyphen ∷ greater_than ∷ name_of f) (arrow_there text (name_of f))) (ends_back (at + 9 + 1) text (name_of f) (quiet_lacks hyphen text refl q) there (name_there f)) in
    rw (
      named_set,
      set_closed text f q,
      ends,
      written_back w back f written,
      bits_back r f b h,
      tagged,
      inside,
    ) refl

set_back : ReadValues → (only last : Bool) (f : NamedField) (b : Bits) → IsSpelled f b → is_written f ≡ true → has_tag_bit f b ≡ true → bit_and b.value b.mask ≡ b.value
    → IsReadBack only last (Set f b.value b.mask)
set_back r only last f b h written tagged inside at =
    ap (λ v. actions_of_item only last (item_at at (set_text f (bits v b.mask)))) inside ∙ set_read r only last f b h written tagged inside at

-- ---- all kinds

numbers : ReadValues → NumberTexts
numbers r = record { characters = r.decimal_characters; back = r.decimals }

widest : (f : NamedField) (n : ℕ) → n < (named f).bits → n < 2 ^ 128
widest field.InPort n lt = omega arith
widest f n lt = omega arith

slice_wide : (s : Slice) → is_sound_slice s ≡ true → IsWideEnough s
slice_wide s h =
    let p = and_parts (nat_le s.low s.high) (nat_lt s.high (named s.name).bits) (and_parts (not (is_printed_alone s.name)) _ h).1 in
    let low = leb-true s.low s.high p.0 in
    let high = ltb-true s.high (named s.name).bits p.1 in
    (widest s.name s.low (omega (arith, low, high)), widest s.name s.high high)

pub set_spelled : (f : NamedField) (value mask : ℕ) → is_sound (Set f value mask) ≡ true → is_respellable (Set f value mask) ≡ true → IsSpelled f (bits value mask)
set_spelled f value mask sound again =
    let p = and_parts (is_written f) (fits_name f value && fits_name f mask) sound in
    let q = and_parts (fits_name f value) (fits_name f mask) p.1 in
    let v = ltb-true value (2 ^ (named f).bits) q.0 in
    let m = ltb-true mask (2 ^ (named f).bits) q.1 in
    record {
      alike = alike_written f p.0;
      value_most = most_written f p.0 value v;
      mask_most = λ maskable. most_written f p.0 mask m;
      value_fits = fits_written f value v;
      mask_fits = fits_written f mask m;
      maskable = (and_parts ((named f).maskable || (mask == all_bits (named f).bits)) (has_tag_bit f (bits value mask)) again).0;
    }

pub action_back : ReadValues → (only last : Bool) (a : OfAction) → is_spellable a ≡ true → (is_goto a ≡ true → last ≡ true) → IsReadBack only last a
action_back r only last (Output port) h g =
    let p = and_parts (nat_lt 0 port) (nat_le port last_port) h in
    output_back (numbers r) only last port (ltb-true 0 port p.0) (leb-true port last_port p.1)
action_back r only last (OutputField s) h g = output_field_back (numbers r) only last s (slice_wide s h) h
action_back r only last InPort h g = in_port_back only last
action_back r only last All h g = all_back only last
action_back r only last Flood h g = flood_back only last
action_back r only last (Resubmit table) h g = resubmit_back (numbers r) only last table (leb-true table last_table h)
action_back r only last (Goto table) h g = subst (λ l. IsReadBack only l (Goto table)) (sym (g refl)) (goto_back (numbers r) only table (leb-true table last_table h))
action_back r only last (Set f value mask) h g =
    let p = and_parts (is_sound (Set f value mask)) (is_respellable (Set f value mask) && (bit_and value mask == value)) h in
    let q = and_parts (is_respellable (Set f value mask)) (bit_and value mask == value) p.1 in
    set_back r only last f (bits value mask) (set_spelled f value mask p.0 q.0) (and_parts (is_written f) (fits_name f value && fits_name f mask) p.0).0 (and_parts ((named f).maskable || (mask == all_bits (named f).bits)) (has_tag_bit f (bits value mask)) q.0).1 (eqb-true (bit_and value mask) value q.1)
action_back r only last (Move source target) h g =
    let p = and_parts (is_sound_slice source) _ h in
    let q = and_parts (is_sound_slice target) _ p.1 in
    move_back (numbers r) only last source target (slice_wide source p.0) (slice_wide target q.0) h
action_back r only last DecTtl h g = dec_ttl_back only last
action_back r only last (PushVlan tpid) h g = push_vlan_back only last tpid h
action_back r only last PopVlan h g = pop_vlan_back only last
action_back r only last (SetVid vid) h g = set_vid_back (numbers r) only last vid (leb-true vid last_vid h)
action_back r only last (SetPcp pcp) h g = set_pcp_back (numbers r) only last pcp (leb-true pcp last_pcp h)
