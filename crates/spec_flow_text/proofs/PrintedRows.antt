-- Worked rows: matches and writes as they are printed, those that no text says among them.
use Rattle.std.specs.Prelude.{◌≡◌, ℕ, List, [], ◌∷◌, map, codes, refl}
use Rattle.std.specs.Fmt.{digits}
use Rattle.spec_keys.specs.declared.field_id.FieldId.{FieldId}
use Rattle.spec_keys.specs.declared.field_id.FieldId.TheVariants as key
use Rattle.spec_keys.specs.Fields.{place_of}
use Rattle.spec_keys.specs.Keys.{joined, only_at}
use Rattle.spec_keys.specs.Protocols.{ipv4_type, ipv6_type, arp_type}
use Rattle.spec_actions.specs.declared.named_field.NamedField.TheVariants as name
use Rattle.spec_actions.specs.declared.action.OfAction.{OfAction}
use Rattle.spec_actions.specs.declared.action.OfAction.TheVariants.{Output, Set}
use Rattle.spec_tables.specs.Rules.{Match}
use Rattle.spec_flow_text.specs.NumbersPrinted.{hexadecimal, hexadecimal4, mac_text, ipv4_text, ipv6_text, prefix_length_up_to, ipv4_mask_text, ipv6_mask_text}
use Rattle.spec_flow_text.specs.Printed.{value_in_text, shorthand_of, shown, match_printed, actions_printed}

-- the numbers of one field, and those of more of them
abbrev stating : FieldId → ℕ → ℕ → Match
stating f value mask = record { key = only_at (place_of f) value; mask = only_at (place_of f) mask }

abbrev beside : Match → Match → Match
beside m n = record { key = joined m.key n.key; mask = joined m.mask n.mask }

-- a packet's type, and bits of its protocol
abbrev of_protocol : ℕ → ℕ → ℕ → Match
of_protocol kind value mask = beside (stating key.DlType kind 0xffff) (stating key.NwProto value mask)

abbrev matches_of_a_field : List (Match × List ℕ)
matches_of_a_field =
    (stating key.InPort 1 0xffff, codes "in_port=1") ∷
    (stating key.Metadata 1 1, codes "metadata=0x1/0x1") ∷
    (stating key.Reg0 1 1, codes "reg0=0x1/0x1") ∷
    (stating key.Reg1 1 1, codes "reg1=0x1/0x1") ∷
    (stating key.Reg2 1 1, codes "reg2=0x1/0x1") ∷
    (stating key.Reg3 1 1, codes "reg3=0x1/0x1") ∷
    (stating key.Reg4 1 1, codes "reg4=0x1/0x1") ∷
    (stating key.Reg5 1 1, codes "reg5=0x1/0x1") ∷
    (stating key.Reg6 1 1, codes "reg6=0x1/0x1") ∷
    (stating key.Reg7 1 1, codes "reg7=0x1/0x1") ∷
    (stating key.Reg8 1 1, codes "reg8=0x1/0x1") ∷
    (stating key.Reg9 1 1, codes "reg9=0x1/0x1") ∷
    (stating key.Reg10 1 1, codes "reg10=0x1/0x1") ∷
    (stating key.Reg11 1 1, codes "reg11=0x1/0x1") ∷
    (stating key.Reg12 1 1, codes "reg12=0x1/0x1") ∷
    (stating key.Reg13 1 1, codes "reg13=0x1/0x1") ∷
    (stating key.Reg14 1 1, codes "reg14=0x1/0x1") ∷
    (stating key.Reg15 1 1, codes "reg15=0x1/0x1") ∷
    (stating key.DlSrc 1 0xffff_ffff_ffff, codes "dl_src=00:00:00:00:00:01") ∷
    (stating key.DlDst 1 0xffff_ffff_ffff, codes "dl_dst=00:00:00:00:00:01") ∷
    (stating key.DlType 1 0xffff, codes "dl_type=0x0001") ∷
    (stating key.VlanTci 1 0xffff, codes "vlan_tci=0x0001") ∷
    (stating key.NwSrc 1 0xffff_ffff, codes "nw_src=0.0.0.1") ∷
    (stating key.NwDst 1 0xffff_ffff, codes "nw_dst=0.0.0.1") ∷
    (stating key.Ipv6Src 1 1, codes "ipv6_src=0:0:0:0:0:0:0:1/0:0:0:0:0:0:0:1") ∷
    (stating key.Ipv6Dst 1 1, codes "ipv6_dst=0:0:0:0:0:0:0:1/0:0:0:0:0:0:0:1") ∷
    (stating key.NwProto 1 0xff, codes "nw_proto=1") ∷
    (stating key.NwTos 0x10 0xf0, codes "nw_tos=0x10/0xf0") ∷
    (stating key.NwTtl 1 0xff, codes "nw_ttl=1") ∷
    (stating key.IpFrag 3 3, codes "ip_frag=later") ∷
    (stating key.IpFrag 2 2, codes "ip_frag=0x2/0x2") ∷
    (stating key.ArpSha 1 0xffff_ffff_ffff, codes "arp_sha=00:00:00:00:00:01") ∷
    (stating key.ArpTha 1 0xffff_ffff_ffff, codes "arp_tha=00:00:00:00:00:01") ∷
    (stating key.TpSrc 1 0xffff, codes "tp_src=1") ∷
    (stating key.TpDst 1 0xffff, codes "tp_dst=1") ∷ []

each_field_has_its_own_name : map (λ row. match_printed row.0) matches_of_a_field ≡ map (λ row. row.1) matches_of_a_field
unfolding only_at value_in_text shorthand_of shown match_printed hexadecimal hexadecimal4 mac_text ipv4_text ipv6_text prefix_length_up_to ipv4_mask_text ipv6_mask_text digits
each_field_has_its_own_name = refl

abbrev matches_of_a_protocol : List (Match × List ℕ)
matches_of_a_protocol =
    (of_protocol ipv4_type 1 0xff, codes "icmp") ∷
    (of_protocol ipv4_type 6 0xff, codes "tcp") ∷
    (of_protocol ipv4_type 17 0xff, codes "udp") ∷
    (of_protocol ipv4_type 58 0xff, codes "ip,nw_proto=58") ∷
    (of_protocol ipv4_type 1 0x7f, codes "ip,nw_proto=0x1/0x7f") ∷
    (of_protocol ipv4_type 6 0x7f, codes "ip,nw_proto=0x6/0x7f") ∷
    (of_protocol ipv4_type 17 0x7f, codes "ip,nw_proto=0x11/0x7f") ∷
    (of_protocol ipv4_type 6 0, codes "ip") ∷
    (of_protocol ipv6_type 58 0xff, codes "icmp6") ∷
    (of_protocol ipv6_type 6 0xff, codes "tcp6") ∷
    (of_protocol ipv6_type 17 0xff, codes "udp6") ∷
    (of_protocol ipv6_type 1 0xff, codes "ipv6,nw_proto=1") ∷
    (of_protocol ipv6_type 58 0x7f, codes "ipv6,nw_proto=0x3a/0x7f") ∷
    (of_protocol ipv6_type 6 0x7f, codes "ipv6,nw_proto=0x6/0x7f") ∷
    (of_protocol ipv6_type 17 0x7f, codes "ipv6,nw_proto=0x11/0x7f") ∷
    (of_protocol arp_type 6 0xff, codes "arp,arp_op=6") ∷
    (beside (of_protocol ipv4_type 6 0xff) (stating key.TpDst 80 0xffff), codes "tcp,tp_dst=80") ∷
    (beside (of_protocol ipv4_type 1 0x7f) (stating key.TpSrc 8 0xffff), codes "ip,nw_proto=0x1/0x7f,tp_src=8") ∷ []

a_protocol_has_a_shorthand_where_it_is_stated_as_a_whole :
    map (λ row. match_printed row.0) matches_of_a_protocol ≡ map (λ row. row.1) matches_of_a_protocol
unfolding only_at joined value_in_text shorthand_of shown match_printed hexadecimal digits
a_protocol_has_a_shorthand_where_it_is_stated_as_a_whole = refl

-- ---- bits outside a mask

abbrev matches_with_bits_outside : List (Match × List ℕ)
matches_with_bits_outside =
    (stating key.Reg0 5 3, codes "reg0=0x1/0x3") ∷
    (stating key.Reg0 5 0, codes "") ∷
    (stating key.DlType 0x08ff 0xff00, codes "dl_type=0x0800/0xff00") ∷
    (stating key.NwDst 0x0a01_0203 0xff00_0000, codes "nw_dst=10.0.0.0/8") ∷
    (stating key.NwTos 0xb9 0xfc, codes "nw_tos=184") ∷
    (stating key.NwTos 0xb9 3, codes "nw_ecn=1") ∷
    (stating key.IpFrag 3 1, codes "ip_frag=yes") ∷ []

bits_of_a_match_outside_its_mask_are_0 :
    map (λ row. match_printed row.0) matches_with_bits_outside ≡ map (λ row. row.1) matches_with_bits_outside
unfolding only_at value_in_text shorthand_of shown match_printed hexadecimal hexadecimal4 ipv4_text prefix_length_up_to ipv4_mask_text digits
bits_of_a_match_outside_its_mask_are_0 = refl

abbrev writes_and_their_texts : List (List OfAction × List ℕ)
writes_and_their_texts =
    (Set name.Reg0 5 3 ∷ [], codes "set_field:0x1/0x3->reg0") ∷
    (Set name.Reg0 5 0xffff_ffff ∷ [], codes "set_field:0x5->reg0") ∷
    (Set name.NwDst 0x0a01_0203 0xff00_0000 ∷ [], codes "set_field:10.0.0.0/8->nw_dst") ∷
    (Set name.DlSrc 0x0200_0000_0001 0xff00_0000_0000 ∷ [], codes "set_field:02:00:00:00:00:00/ff:00:00:00:00:00->dl_src") ∷
    (Set name.VlanVid 0x1005 0x1000 ∷ Output 1 ∷ [], codes "set_field:0x1000/0x1000->vlan_vid,output:1") ∷ []

bits_of_a_write_outside_its_mask_are_0 :
    map (λ row. actions_printed row.0) writes_and_their_texts ≡ map (λ row. row.1) writes_and_their_texts
unfolding actions_printed value_in_text hexadecimal mac_text ipv4_text prefix_length_up_to ipv4_mask_text digits
bits_of_a_write_outside_its_mask_are_0 = refl
