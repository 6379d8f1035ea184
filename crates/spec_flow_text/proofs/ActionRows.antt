-- Worked rows: lists of actions and what they say.
use Rattle.std.specs.Prelude.{◌≡◌, ℕ, List, [], ◌∷◌, ◌++◌, replicate, map, Option, Some, Result, Ok, Err, codes, refl}
use Rattle.std.specs.List.{concat}
use Rattle.std.specs.Result.{result_err}
use Rattle.spec_actions.specs.declared.action.OfAction.TheVariants.{Output}
use Rattle.spec_flow_text.specs.Numbers.{digits_upto, decimal_upto, number_upto, octet, octet_before_colon, mac}
use Rattle.spec_flow_text.specs.Addresses.{decimal_octet_before_dot, ipv4, group, groups_of_ipv4, last_groups, groups, eight_groups, split_at_elision, groups_round_zeros, elided_groups, ipv6, prefix_length, ipv4_mask, ipv6_mask}
use Rattle.spec_flow_text.specs.NumbersPrinted.{hexadecimal, hexadecimal4, mac_text, ipv4_text, ipv6_text, prefix_length_up_to, ipv4_mask_text, ipv6_mask_text}
use Rattle.std.specs.Fmt.{digits}
use Rattle.spec_flow_text.specs.declared.fault.TextFault.{TextFault}
use Rattle.spec_flow_text.specs.declared.fault.TextFault.TheVariants.{Syntax, UnknownName, Unsupported, BadValue, TooManyActions}
use Rattle.spec_flow_text.specs.Names.{field_named, is_field_left_out, reserved_port_named, is_action_left_out, action_named}
use Rattle.spec_flow_text.specs.Values.{value_in, mask_in, whole_value, masked_value, value_of}
use Rattle.spec_flow_text.specs.Items.{◌>>=◌}
use Rattle.spec_flow_text.specs.Actions.{up_to_end, items, is_closed, argument_of, arrow_place, ends_of_arrow, arrow_argument, field_in, written_field, bits_between, bits_in, slice_after, slice_of, port_of, load, set_field, move, modify, number_argument, push_vlan, output, inside_brackets, resubmit, drop_item, goto_item, actions_of_item, read_items, read_actions}
use Rattle.spec_flow_text.specs.Printed.{value_in_text, actions_printed}

-- the actions of a text as they are printed
abbrev printed : List ℕ → Result (List ℕ) TextFault
printed text = read_actions 0 text >>= (λ actions. Ok (actions_printed actions))

abbrev fault_of : List ℕ → Option TextFault
fault_of text = result_err (read_actions 0 text)

abbrev texts_and_their_actions : List (List ℕ × List ℕ)
texts_and_their_actions =
    (codes "", codes "drop") ∷
    (codes "drop", codes "drop") ∷
    (codes "2,output:0x3", codes "output:2,output:3") ∷
    (codes "in_port ALL,output:flood,output:IN_PORT", codes "in_port,all,flood,in_port") ∷
    (codes "output:reg1[0..15],output:in_port[],output:NXM_NX_REG2", codes "output:reg1[0..15],output:in_port[0..15],output:reg2[0..31]") ∷
    (codes "resubmit(,1),goto_table:254", codes "resubmit(,1),goto_table:254") ∷
    (codes "load:5->reg0[4..7],load:0xffff->NXM_OF_IP_SRC[0..15]", codes "set_field:0x50/0xf0->reg0,set_field:0.0.255.255/0.0.255.255->nw_src") ∷
    (codes "load:1->reg0[]", codes "set_field:0x1->reg0") ∷
    (codes "set_field:5/3->reg0,set_field:10.1.2.3/8->nw_dst", codes "set_field:0x1/0x3->reg0,set_field:10.0.0.0/8->nw_dst") ∷
    (codes "set_field:4101->vlan_vid,set_field:80->tcp_dst,set_field:7->vlan_pcp", codes "set_field:4101->vlan_vid,set_field:80->tcp_dst,set_field:7->vlan_pcp") ∷
    (codes "set_field:0x1005/0x1000->vlan_vid", codes "set_field:0x1000/0x1000->vlan_vid") ∷
    (codes "mod_dl_src:2:0:0:0:0:1,mod_nw_tos:184,mod_nw_ttl:64,mod_tp_dst:80", codes "set_field:02:00:00:00:00:01->dl_src,set_field:184->nw_tos,set_field:64->nw_ttl,set_field:80->tp_dst") ∷
    (codes "move:NXM_OF_ETH_SRC[]->dl_dst[],move:reg0[0..7]->reg1[8..15]", codes "move:dl_src[0..47]->dl_dst[0..47],move:reg0[0..7]->reg1[8..15]") ∷
    (codes "move:reg0[3]->reg1[4]", codes "move:reg0[3..3]->reg1[4..4]") ∷
    (codes "dec_ttl,push_vlan:33024,push_vlan:0x88a8,strip_vlan,pop_vlan,mod_vlan_vid:5,mod_vlan_pcp:7", codes "dec_ttl,push_vlan:0x8100,push_vlan:0x88a8,pop_vlan,pop_vlan,mod_vlan_vid:5,mod_vlan_pcp:7") ∷
    (codes " 1 ,, 2 # 3", codes "output:1,output:2") ∷ []

actions_are_read_and_printed : map (λ row. printed row.0) texts_and_their_actions ≡ map (λ row. Ok row.1) texts_and_their_actions
unfolding field_named is_field_left_out number_upto decimal_upto digits_upto mac octet octet_before_colon ipv4 decimal_octet_before_dot ipv4_mask prefix_length ipv6 ipv6_mask eight_groups elided_groups split_at_elision groups_round_zeros groups last_groups group groups_of_ipv4 value_in mask_in whole_value masked_value value_of reserved_port_named is_action_left_out action_named up_to_end items is_closed argument_of arrow_place ends_of_arrow arrow_argument field_in written_field bits_between bits_in slice_after slice_of port_of load set_field move modify number_argument push_vlan output inside_brackets resubmit drop_item goto_item actions_of_item read_items read_actions value_in_text actions_printed hexadecimal hexadecimal4 mac_text ipv4_text ipv6_text prefix_length_up_to ipv4_mask_text ipv6_mask_text digits
actions_are_read_and_printed = refl

abbrev texts_and_their_faults : List (List ℕ × TextFault)
texts_and_their_faults =
    (codes "foo", UnknownName 1) ∷
    (codes "1,DROP", UnknownName 3) ∷
    (codes ":1", UnknownName 1) ∷
    (codes "In_Port", UnknownName 1) ∷
    (codes "load:zz->foo[]", UnknownName 10) ∷
    (codes "set_field:1->reg0[0..3]", UnknownName 14) ∷
    (codes "output:dl_vlan", UnknownName 8) ∷
    (codes "move:foo[]->tun_id[]", UnknownName 6) ∷
    (codes "ct(commit", Unsupported 1) ∷
    (codes "1,CONTROLLER", Unsupported 3) ∷
    (codes "normal", Unsupported 1) ∷
    (codes "set_field:1->in_port", Unsupported 1) ∷
    (codes "load:1->ct_mark[]", Unsupported 1) ∷
    (codes "output:local", Unsupported 1) ∷
    (codes "resubmit:1", Unsupported 1) ∷
    (codes "resubmit(1)", Unsupported 1) ∷
    (codes "resubmit(1,2)", Unsupported 1) ∷
    (codes "resubmit(,1,ct)", Unsupported 1) ∷
    (codes "0", BadValue 1) ∷
    (codes "02", BadValue 1) ∷
    (codes "2x", BadValue 1) ∷
    (codes "70000", BadValue 1) ∷
    (codes "output:0", BadValue 8) ∷
    (codes "resubmit(, 1)", BadValue 11) ∷
    (codes "resubmit(,255)", BadValue 11) ∷
    (codes "goto_table:999,2", BadValue 12) ∷
    (codes "load:zz->reg0[]", BadValue 6) ∷
    (codes "load:2->reg0[0]", BadValue 6) ∷
    (codes "load:1->reg0[5..3]", BadValue 9) ∷
    (codes "load:1->reg0[0..32]", BadValue 9) ∷
    (codes "set_field:1/zz->reg0", BadValue 11) ∷
    (codes "set_field:1/1->nw_ttl", BadValue 11) ∷
    (codes "set_field:5->vlan_vid", BadValue 11) ∷
    (codes "move:reg0[]->reg1[0..3]", BadValue 14) ∷
    (codes "mod_nw_ttl:256", BadValue 12) ∷
    (codes "mod_vlan_vid:4096", BadValue 14) ∷
    (codes "mod_vlan_pcp:8", BadValue 14) ∷
    (codes "push_vlan:0x9100", BadValue 11) ∷
    (codes "mod_nw_src:10.0.0.1/8", BadValue 12) ∷
    (codes "output", Syntax 1) ∷
    (codes "output:", Syntax 1) ∷
    (codes "resubmit", Syntax 1) ∷
    (codes "resubmit()", Syntax 1) ∷
    (codes "resubmit(,)", Syntax 1) ∷
    (codes "resubmit(,1))", Syntax 1) ∷
    (codes "resubmit(,1)x", Syntax 1) ∷
    (codes "resubmit(,,)", Unsupported 1) ∷
    (codes "output:drop", UnknownName 8) ∷
    (codes "dec_ttl(1)", Syntax 1) ∷
    (codes "drop:1", Syntax 1) ∷
    (codes "flood:", Syntax 1) ∷
    (codes "load:1", Syntax 1) ∷
    (codes "load:->reg0", Syntax 1) ∷
    (codes "set_field:1->", Syntax 1) ∷
    (codes "1,drop", Syntax 3) ∷
    (codes "drop,1", Syntax 1) ∷
    (codes "goto_table:1,2", Syntax 1) ∷
    (codes "1,resubmit(,1", Syntax 3) ∷
    (codes "load:1->reg0[0", Syntax 1) ∷ []

the_first_fault_is_told : map (λ row. fault_of row.0) texts_and_their_faults ≡ map (λ row. Some row.1) texts_and_their_faults
unfolding field_named is_field_left_out number_upto decimal_upto digits_upto mac octet octet_before_colon ipv4 decimal_octet_before_dot ipv4_mask prefix_length ipv6 ipv6_mask eight_groups elided_groups split_at_elision groups_round_zeros groups last_groups group groups_of_ipv4 value_in mask_in whole_value masked_value value_of reserved_port_named is_action_left_out action_named up_to_end items is_closed argument_of arrow_place ends_of_arrow arrow_argument field_in written_field bits_between bits_in slice_after slice_of port_of load set_field move modify number_argument push_vlan output inside_brackets resubmit drop_item goto_item actions_of_item read_items read_actions
the_first_fault_is_told = refl

-- ---- limits

abbrev outputs : ℕ → List ℕ
outputs n = concat (replicate n (codes "1,"))

a_list_has_at_most_64_actions :
    (read_actions 0 (outputs 64) ≡ Ok (replicate 64 (Output 1))) × ((read_actions 0 (outputs 65) ≡ Err TooManyActions)
    × ((fault_of (outputs 64 ++ codes "foo") ≡ Some TooManyActions) × (fault_of (outputs 63 ++ codes "goto_table:1,2") ≡ Some (Syntax 127))))
unfolding field_named is_field_left_out number_upto decimal_upto digits_upto mac octet octet_before_colon ipv4 decimal_octet_before_dot ipv4_mask prefix_length ipv6 ipv6_mask eight_groups elided_groups split_at_elision groups_round_zeros groups last_groups group groups_of_ipv4 value_in mask_in whole_value masked_value value_of reserved_port_named is_action_left_out action_named up_to_end items is_closed argument_of arrow_place ends_of_arrow arrow_argument field_in written_field bits_between bits_in slice_after slice_of port_of load set_field move modify number_argument push_vlan output inside_brackets resubmit drop_item goto_item actions_of_item read_items read_actions
a_list_has_at_most_64_actions = (refl, (refl, (refl, refl)))
