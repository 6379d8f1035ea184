-- Worked rows: what stands first where an action has several faults, brackets, numbers of 128 bits, parts of a line and
-- of a tag.
use Rattle.std.specs.Prelude.{◌≡◌, ℕ, ◌-◌, ◌^◌, Bool, true, false, List, [], ◌∷◌, map, Option, Some, Result, Ok, Err, codes, refl}
use Rattle.std.specs.Result.{result_err}
use Rattle.spec_keys.specs.declared.field_id.FieldId.TheVariants as key
use Rattle.spec_actions.specs.declared.named_field.NamedField.TheVariants as field
use Rattle.spec_actions.specs.declared.action.OfAction.{OfAction}
use Rattle.spec_actions.specs.declared.action.OfAction.TheVariants.{Output, Resubmit, Set, DecTtl, SetVid}
use Rattle.spec_flow_text.specs.Numbers.{digits_upto, decimal_upto, number_upto, octet, octet_before_colon, mac}
use Rattle.spec_flow_text.specs.Addresses.{decimal_octet_before_dot, ipv4, group, groups_of_ipv4, last_groups, groups, eight_groups, split_at_elision, groups_round_zeros, elided_groups, ipv6, prefix_length, ipv4_mask, ipv6_mask}
use Rattle.spec_flow_text.specs.declared.fault.TextFault.{TextFault}
use Rattle.spec_flow_text.specs.declared.fault.TextFault.TheVariants.{Syntax, UnknownName, Unsupported, BadValue}
use Rattle.spec_flow_text.specs.declared.part.MatchPrerequisite.TheVariants as needs
use Rattle.spec_flow_text.specs.declared.part.Part.{Part}
use Rattle.spec_flow_text.specs.declared.part.TagPart.{TagPart}
use Rattle.spec_flow_text.specs.declared.part.TagPart.TheVariants as tag
use Rattle.spec_flow_text.specs.Names.{field_named, is_field_left_out, reserved_port_named, is_action_left_out, action_named}
use Rattle.spec_flow_text.specs.Values.{value_in, mask_in, whole_value, masked_value, value_of}
use Rattle.spec_flow_text.specs.Items.{Word, is_separator, words, repeats}
use Rattle.spec_flow_text.specs.Actions.{up_to_end, items, is_closed, argument_of, arrow_place, ends_of_arrow, arrow_argument, field_in, written_field, bits_between, bits_in, slice_after, slice_of, port_of, load, set_field, move, modify, number_argument, push_vlan, output, inside_brackets, resubmit, drop_item, goto_item, actions_of_item, table_of_arguments, read_items, read_actions, is_respellable}

-- a list of actions at the start of a line
unfoldable read : List ℕ → Result (List OfAction) TextFault
unfolding field_named is_field_left_out number_upto decimal_upto digits_upto mac octet octet_before_colon ipv4 decimal_octet_before_dot ipv4_mask prefix_length ipv6 ipv6_mask eight_groups elided_groups split_at_elision groups_round_zeros groups last_groups group groups_of_ipv4 value_in mask_in whole_value masked_value value_of reserved_port_named is_action_left_out action_named up_to_end items is_closed argument_of arrow_place ends_of_arrow arrow_argument field_in written_field bits_between bits_in slice_after slice_of port_of load set_field move modify number_argument push_vlan output inside_brackets resubmit drop_item goto_item actions_of_item read_items read_actions
read text = read_actions 0 text

abbrev fault_of : List ℕ → Option TextFault
fault_of text = result_err (read text)

-- ---- the order of tests

-- an item's name, its brackets, its parts, the names of its fields, its values: each row has two faults, of which the
-- first in this order, and of two of a kind the left one, is told
abbrev texts_and_their_first_faults : List (List ℕ × TextFault)
texts_and_their_first_faults =
    (codes "foo:(", UnknownName 1) ∷
    (codes "normal(", Unsupported 1) ∷
    (codes "load:[->foo", Syntax 1) ∷
    (codes "load:->foo[]", Syntax 1) ∷
    (codes "load:zz->in_port[]", Unsupported 1) ∷
    (codes "set_field:zz->foo", UnknownName 15) ∷
    (codes "move:foo[]->bar[]", UnknownName 6) ∷
    (codes "move:foo[]->in_port[]", UnknownName 6) ∷
    (codes "move:reg0[5..3]->bar[]", UnknownName 18) ∷
    (codes "load:zz->reg0[5..3]", BadValue 6) ∷
    (codes "load:0x100000000->reg0[5..3]", BadValue 19) ∷
    (codes "move:reg0[5..3]->reg1[9..8]", BadValue 6) ∷
    (codes "move:reg0[0..3]->reg1[9..8]", BadValue 18) ∷
    (codes "move:reg0[0..3]->reg1[0..4]", BadValue 18) ∷
    (codes "set_field:5/zz->vlan_vid", BadValue 11) ∷ []

the_first_of_two_faults_is_told :
    map (λ row. fault_of row.0) texts_and_their_first_faults ≡ map (λ row. Some row.1) texts_and_their_first_faults
unfolding read
the_first_of_two_faults_is_told = refl

-- ---- brackets

-- a closing bracket closes its own kind alone; elsewhere it is a byte like others
abbrev bracketed_texts : List (List ℕ × TextFault)
bracketed_texts =
    (codes "resubmit(],1)", Unsupported 1) ∷
    (codes "1,resubmit(,1],2", Syntax 3) ∷
    (codes "load:1->reg0[0),2", Syntax 1) ∷
    (codes "dec_ttl),2", UnknownName 1) ∷
    (codes "1],2", BadValue 1) ∷
    (codes "resubmit(,[1)", Syntax 1) ∷
    (codes "resubmit(,[1])", BadValue 11) ∷ []

a_bracket_closes_its_own_kind_alone : map (λ row. fault_of row.0) bracketed_texts ≡ map (λ row. Some row.1) bracketed_texts
unfolding read
a_bracket_closes_its_own_kind_alone = refl

-- what stands between the brackets of a resubmit, cut at its commas
abbrev arguments_and_their_meaning : List (List (List ℕ) × Result OfAction TextFault)
arguments_and_their_meaning =
    ([] ∷ [], Err (Syntax 8)) ∷
    ([] ∷ [] ∷ [], Err (Syntax 8)) ∷
    ([] ∷ codes "1" ∷ [], Ok (Resubmit 1)) ∷
    ([] ∷ codes "255" ∷ [], Err (BadValue 18)) ∷
    (codes "1" ∷ [], Err (Unsupported 8)) ∷
    (codes "1" ∷ [] ∷ [], Err (Unsupported 8)) ∷
    (codes "1" ∷ codes "2" ∷ [], Err (Unsupported 8)) ∷
    ([] ∷ codes "1" ∷ codes "ct" ∷ [], Err (Unsupported 8)) ∷
    ([] ∷ [] ∷ [] ∷ [], Err (Unsupported 8)) ∷ []

-- of an item at column 8, with its arguments from column 17 on
a_resubmit_has_no_port_and_a_table :
    map (λ row. table_of_arguments (record { at = 7; text = [] }) (record { at = 16; text = [] }) row.0) arguments_and_their_meaning
    ≡ map (λ row. row.1) arguments_and_their_meaning
unfolding number_upto decimal_upto digits_upto
a_resubmit_has_no_port_and_a_table = refl

-- ---- writes

abbrev texts_and_their_writes : List (List ℕ × OfAction)
texts_and_their_writes =
    (codes "set_field:0x1005/0xfff->vlan_vid", Set field.VlanVid 5 0xfff) ∷
    (codes "set_field:0x1005->vlan_vid", Set field.VlanVid 0x1005 0x1fff) ∷
    (codes "load:5->vlan_vid[0..11]", Set field.VlanVid 5 0xfff) ∷
    (codes "load:0x10000000000000000->ipv6_src[]", Set field.Ipv6Src (2 ^ 64) (2 ^ 128 - 1)) ∷
    (codes "load:0xffffffffffffffffffffffffffffffff->ipv6_dst[]", Set field.Ipv6Dst (2 ^ 128 - 1) (2 ^ 128 - 1)) ∷
    (codes "load:1->ipv6_src[127]", Set field.Ipv6Src (2 ^ 127) (2 ^ 127)) ∷
    (codes "load:3->reg0[4..5]", Set field.Reg0 0x30 0x30) ∷ []

writes_are_read : map (λ row. read row.0) texts_and_their_writes ≡ map (λ row. Ok (row.1 ∷ [])) texts_and_their_writes
unfolding read
writes_are_read = refl

a_number_has_128_bits : fault_of (codes "load:0x100000000000000000000000000000000->ipv6_src[]") ≡ Some (BadValue 6)
unfolding read
a_number_has_128_bits = refl

-- a write that can't be spelled as a value of its field: one in part where no mask may stand, and a VLAN without its tag
abbrev writes_and_whether_they_are_spelled : List (OfAction × Bool)
writes_and_whether_they_are_spelled =
    (Set field.NwTtl 5 0xff, true) ∷
    (Set field.NwTtl 5 0x0f, false) ∷
    (Set field.NwTos 0xb8 0xff, true) ∷
    (Set field.NwTos 0xb8 0xfc, false) ∷
    (Set field.VlanPcp 3 7, true) ∷
    (Set field.VlanPcp 3 3, false) ∷
    (Set field.Reg0 5 0xffffffff, true) ∷
    (Set field.Reg0 5 0x0f, true) ∷
    (Set field.VlanVid 0x1005 0x1fff, true) ∷
    (Set field.VlanVid 0x1000 0x1000, true) ∷
    (Set field.VlanVid 5 0x1fff, false) ∷
    (Set field.VlanVid 5 0xfff, false) ∷
    (Set field.VlanTci 5 0xffff, true) ∷
    (Output 1, true) ∷ (SetVid 5, true) ∷ (DecTtl, true) ∷ []

a_write_in_part_needs_a_mask_and_a_vlan_its_tag :
    map (λ row. is_respellable row.0) writes_and_whether_they_are_spelled ≡ map (λ row. row.1) writes_and_whether_they_are_spelled
a_write_in_part_needs_a_mask_and_a_vlan_its_tag = refl

-- ---- parts of a line

abbrev word : ℕ → List ℕ → Word
word at text = record { at = at; text = text }

-- a word begins at the first byte, unless that one goes on with a word, and behind each separator
words_begin_behind_separators :
    (words is_separator true 4 (codes "ab, c\t\t,d") ≡ word 4 (codes "ab") ∷ word 8 (codes "c") ∷ word 12 (codes "d") ∷ [])
    × ((words is_separator false 4 (codes "ab, c") ≡ word 8 (codes "c") ∷ [])
    × ((words is_separator true 0 (codes " ,") ≡ []) × (words is_separator true 0 (codes "a(b c)") ≡ word 0 (codes "a(b") ∷ word 4 (codes "c)") ∷ [])))
unfolding words
words_begin_behind_separators = (refl, (refl, (refl, refl)))

-- and an item behind each that stands outside of brackets
items_begin_behind_separators_outside_of_brackets :
    (items [] true 4 (codes "ab, c\t\t,d") ≡ word 4 (codes "ab") ∷ word 8 (codes "c") ∷ word 12 (codes "d") ∷ [])
    × ((items [] false 4 (codes "ab, c") ≡ word 8 (codes "c") ∷ [])
    × ((items [] true 0 (codes " ,") ≡ []) × ((items [] true 0 (codes "a(b c),d") ≡ word 0 (codes "a(b c)") ∷ word 7 (codes "d") ∷ [])
    × ((items [] true 0 (codes "a(b[,),],c") ≡ word 0 (codes "a(b[,),],c") ∷ [])
    × (items [] true 0 (codes "a(b[,]),c") ≡ word 0 (codes "a(b[,])") ∷ word 8 (codes "c") ∷ [])))))
unfolding up_to_end items
items_begin_behind_separators_outside_of_brackets = (refl, (refl, (refl, (refl, (refl, refl)))))

-- ---- parts of a tag

abbrev of_tag : TagPart → ℕ → ℕ → Part
of_tag about value mask = record { field = key.VlanTci; value = value; mask = mask; needs = needs.Nothing; tag = about }

-- `dl_vlan=5`, `vlan_vid=5` and `dl_vlan=0xffff`
abbrev vlan_5 : Part
vlan_5 = of_tag tag.Identifier 0x1005 0x1fff

abbrev vlan_5_without_a_tag : Part
vlan_5_without_a_tag = of_tag tag.Identifier 0x0005 0x1fff

abbrev no_tag : Part
no_tag = of_tag tag.Identifier 0 0xffff

-- `vlan_pcp=3`, `vlan_tci=0x1000/0x1000` and `vlan_vid=5/0xfff`
abbrev priority_3 : Part
priority_3 = of_tag tag.Priority 0x7000 0xf000

abbrev any_tag : Part
any_tag = of_tag tag.Neither 0x1000 0x1000

abbrev low_bits : Part
low_bits = of_tag tag.Identifier 0x0005 0x0fff

-- an identifier and a priority may both say that there is a tag, and no other items state a bit both
abbrev parts_and_whether_they_repeat : List ((Part × Part) × Bool)
parts_and_whether_they_repeat =
    ((vlan_5, priority_3), false) ∷
    ((priority_3, vlan_5), false) ∷
    ((vlan_5_without_a_tag, priority_3), true) ∷
    ((priority_3, vlan_5_without_a_tag), true) ∷
    ((no_tag, priority_3), true) ∷
    ((priority_3, no_tag), true) ∷
    ((any_tag, priority_3), true) ∷
    ((vlan_5, any_tag), true) ∷
    ((of_tag tag.Identifier 0x7005 0xffff, priority_3), true) ∷
    ((vlan_5, vlan_5), true) ∷
    ((priority_3, priority_3), true) ∷
    ((low_bits, priority_3), false) ∷
    ((low_bits, any_tag), false) ∷
    ((low_bits, vlan_5), true) ∷
    ((record vlan_5 { field = key.DlType }, vlan_5), false) ∷ []

an_identifier_and_a_priority_may_both_say_that_there_is_a_tag :
    map (λ row. repeats row.0.0 row.0.1) parts_and_whether_they_repeat ≡ map (λ row. row.1) parts_and_whether_they_repeat
an_identifier_and_a_priority_may_both_say_that_there_is_a_tag = refl
