-- Worked rows: lists of datapath actions and their texts.
use Rattle.std.specs.Prelude.{◌≡◌, ℕ, true, false, List, [], ◌∷◌, map, codes, refl}
use Rattle.std.specs.Fmt.{digits}
use Rattle.spec_keys.specs.declared.field_id.FieldId.TheVariants.{DlDst, Ipv6Src, NwSrc, NwTtl, TpDst}
use Rattle.spec_actions.specs.declared.action.DpAction.{DpAction}
use Rattle.spec_actions.specs.declared.action.DpAction.TheVariants.{Output, PopVlan, PushVlan, Set}
use Rattle.spec_flow_text.specs.NumbersPrinted.{hexadecimal, hexadecimal4, mac_text, ipv4_text, ipv6_text, prefix_length_up_to, ipv4_mask_text, ipv6_mask_text}
use Rattle.spec_flow_text.specs.Printed.{value_in_text}
use Rattle.spec_flow_text.specs.DpTextPrinted.{dp_action_text, dp_actions_printed}
use Rattle.spec_flow_text.specs.Within.{is_within_field}

abbrev actions_and_their_texts : List (DpAction × List ℕ)
actions_and_their_texts =
    (Output 2, codes "2") ∷
    (Output 65279, codes "65279") ∷
    (PopVlan, codes "pop_vlan") ∷
    (PushVlan 0x8100 0x1005, codes "push_vlan(vid=5,pcp=0)") ∷
    (PushVlan 0x8100 0x5fff, codes "push_vlan(vid=4095,pcp=2)") ∷
    (PushVlan 0x8100 0xf000, codes "push_vlan(vid=0,pcp=7)") ∷
    (PushVlan 0x88a8 0x1064, codes "push_vlan(tpid=0x88a8,vid=100,pcp=0)") ∷
    (Set NwTtl 255 0xff, codes "set(nw_ttl=255)") ∷
    (Set NwTtl 0x3f 0x7f, codes "set(nw_ttl=0x3f/0x7f)") ∷
    (Set NwTtl 5 3, codes "set(nw_ttl=0x1/0x3)") ∷
    (Set TpDst 0 0x10, codes "set(tp_dst=0x0/0x10)") ∷
    (Set DlDst 0 5, codes "set(dl_dst=00:00:00:00:00:00/00:00:00:00:00:05)") ∷
    (Set DlDst 0x0200_0000_000a 0xffff_ffff_ffff, codes "set(dl_dst=02:00:00:00:00:0a)") ∷
    (Set NwSrc 8 8, codes "set(nw_src=0.0.0.8/0.0.0.8)") ∷
    (Set NwSrc 0x0a00_0000 0xff00_0000, codes "set(nw_src=10.0.0.0/8)") ∷
    (Set NwSrc 0x0a01_0203 0xff00_0000, codes "set(nw_src=10.0.0.0/8)") ∷
    (Set Ipv6Src 1 1, codes "set(ipv6_src=0:0:0:0:0:0:0:1/0:0:0:0:0:0:0:1)") ∷ []

each_action_has_its_text : map (λ row. dp_action_text row.0) actions_and_their_texts ≡ map (λ row. row.1) actions_and_their_texts
unfolding value_in_text hexadecimal hexadecimal4 mac_text ipv4_text ipv6_text prefix_length_up_to ipv4_mask_text ipv6_mask_text digits
each_action_has_its_text = refl

abbrev lists_and_their_texts : List (List DpAction × List ℕ)
lists_and_their_texts =
    ([], codes "drop") ∷
    (Output 2 ∷ [], codes "2") ∷
    (Set NwSrc 8 8 ∷ Output 2 ∷ [], codes "set(nw_src=0.0.0.8/0.0.0.8),2") ∷
    (PushVlan 0x8100 0x1005 ∷ Output 2 ∷ [], codes "push_vlan(vid=5,pcp=0),2") ∷
    (Output 1 ∷ PopVlan ∷ Output 3 ∷ [], codes "1,pop_vlan,3") ∷ []

lists_have_commas_between_actions : map (λ row. dp_actions_printed row.0) lists_and_their_texts ≡ map (λ row. row.1) lists_and_their_texts
unfolding dp_actions_printed value_in_text hexadecimal mac_text ipv4_text ipv6_text prefix_length_up_to ipv4_mask_text ipv6_mask_text digits
lists_have_commas_between_actions = refl

values_and_masks_are_below_the_width_of_their_field :
    map is_within_field (Set NwTtl 255 0xff ∷ Set NwTtl 256 0xff ∷ Set NwTtl 255 0x100 ∷ Set DlDst 256 0x100 ∷ Output 2 ∷ PushVlan 0x8100 0x1005 ∷ [])
    ≡ true ∷ false ∷ false ∷ true ∷ true ∷ true ∷ []
values_and_masks_are_below_the_width_of_their_field = refl
