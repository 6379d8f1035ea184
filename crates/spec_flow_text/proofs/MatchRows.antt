-- Worked rows: flows and what they say.
use Rattle.std.specs.Prelude.{◌≡◌, ℕ, List, [], ◌∷◌, map, Option, Some, Result, Ok, codes, refl}
use Rattle.std.specs.Result.{result_err}
use Rattle.spec_tables.specs.declared.edit_word.EditWord.{EditWord}
use Rattle.spec_tables.specs.declared.edit_word.EditWord.TheVariants.{Add}
use Rattle.spec_flow_text.specs.Numbers.{digits_upto, decimal_upto, number_upto, octet, octet_before_colon, mac}
use Rattle.spec_flow_text.specs.Addresses.{decimal_octet_before_dot, ipv4, group, groups_of_ipv4, last_groups, groups, eight_groups, split_at_elision, groups_round_zeros, elided_groups, ipv6, prefix_length, ipv4_mask, ipv6_mask}
use Rattle.spec_flow_text.specs.NumbersPrinted.{hexadecimal, hexadecimal4, mac_text, ipv4_text, ipv6_text, prefix_length_up_to, ipv4_mask_text, ipv6_mask_text}
use Rattle.std.specs.Fmt.{digits}
use Rattle.spec_flow_text.specs.declared.fault.TextFault.{TextFault}
use Rattle.spec_flow_text.specs.declared.fault.TextFault.TheVariants.{Syntax, UnknownName, Unsupported, BadValue, Repeated}
use Rattle.spec_flow_text.specs.Names.{field_named, is_field_left_out, shorthand_named, keyword_named, item_named}
use Rattle.spec_flow_text.specs.Values.{value_in, mask_in, whole_value, masked_value, value_of, bits_stated, field_stated, vlan_stated}
use Rattle.spec_flow_text.specs.Items.{◌>>=◌, words, with_part, with_shorthand, number_once, with_valued, with_bare, with_item, read_items}
use Rattle.spec_flow_text.specs.Matches.{kept, match_of, read_match}
use Rattle.spec_flow_text.specs.Printed.{value_in_text, shorthand_of, shown, match_printed}
use Rattle.spec_keys.specs.Keys.{none, joined, only_at}

-- the match of a flow as it is printed
abbrev printed : List ℕ → Result (List ℕ) TextFault
printed line = read_match Add 0 line >>= (λ m. Ok (match_printed m.matching))

abbrev fault_of : EditWord → List ℕ → Option TextFault
fault_of word line = result_err (read_match word 0 line)

abbrev flows_and_their_matches : List (List ℕ × List ℕ)
flows_and_their_matches =
    (codes "actions=", codes "") ∷
    (codes "in_port=1,actions=", codes "in_port=1") ∷
    (codes "ip,nw_src=10.0.0.1,nw_dst=10.0.0.0/8,actions=", codes "ip,nw_src=10.0.0.1,nw_dst=10.0.0.0/8") ∷
    (codes "ip,nw_dst=10.0.1.0/255.0.255.0,actions=", codes "ip,nw_dst=10.0.1.0/255.0.255.0") ∷
    (codes "vlan_pcp=3,dl_vlan=7,arp,nw_src=10.0.0.1,nw_proto=1,actions=", codes "arp,vlan_tci=0x7007,arp_spa=10.0.0.1,arp_op=1") ∷
    (codes "dl_vlan=0xffff,actions=", codes "vlan_tci=0x0000") ∷
    (codes "vlan_vid=5,actions=", codes "vlan_tci=0x0005/0x1fff") ∷
    (codes "vlan_vid=0x1000/0x1000,vlan_pcp=2,actions=", codes "vlan_tci=0x5000/0xf000") ∷
    (codes "dl_type=0x88b5,dl_src=2:0:0:0:0:a/ff:ff:0:0:0:0,actions=", codes "dl_src=02:00:00:00:00:00/ff:ff:00:00:00:00,dl_type=0x88b5") ∷
    (codes "tcp,tp_dst=0x50/0xfff0,actions=", codes "tcp,tp_dst=0x50/0xfff0") ∷
    (codes "udp6,ipv6_src=2001:db8::/32,udp_dst=53,actions=", codes "udp6,ipv6_src=2001:db8:0:0:0:0:0:0/32,tp_dst=53") ∷
    (codes "ip,nw_tos=184,nw_ecn=1,nw_ttl=64,ip_frag=not_later,actions=", codes "ip,nw_tos=184,nw_ecn=1,nw_ttl=64,ip_frag=not_later") ∷
    (codes "icmp6,icmp_type=135,icmpv6_code=0,actions=", codes "icmp6,icmp_type=135,icmp_code=0") ∷
    (codes "ip,ip_dscp=46,ip_frag=yes,actions=", codes "ip,nw_tos=184,ip_frag=yes") ∷
    (codes "reg0=0x10/0xf0,metadata=7,actions=", codes "metadata=0x7,reg0=0x10/0xf0") ∷
    (codes "nw_proto=6,dl_type=0x86dd,tcp_dst=80,actions=", codes "tcp6,tp_dst=80") ∷
    (codes "ip,nw_proto=47,actions=", codes "ip,nw_proto=47") ∷
    (codes "arp,arp_sha=00:00:00:00:00:01,actions=", codes "arp,arp_sha=00:00:00:00:00:01") ∷
    (codes "nw_src=10.0.0.1,actions=", codes "") ∷
    (codes "ip,arp_op=6,tp_dst=80,actions=", codes "ip") ∷
    (codes "tcp,udp_dst=53,actions=", codes "tcp") ∷
    (codes "ipv6,nw_src=10.0.0.1,icmp_type=8,actions=", codes "ipv6") ∷
    (codes "dl_type=0x88b5,nw_ttl=1,ip_frag=no,actions=", codes "dl_type=0x88b5") ∷
    (codes "icmp,icmpv6_type=8,actions=", codes "icmp") ∷
    (codes "arp,nw_proto=17,udp_dst=53,actions=", codes "arp,arp_op=17") ∷
    (codes "ip,nw_src=1.2.3.4/0,actions=", codes "ip") ∷
    (codes "duration=1s,n_packets=x,n_bytes=0,idle_age=1,hard_age=2,in_port=1,actions=", codes "in_port=1") ∷
    (codes " ,ip,, nw_ttl=1\t,actions=", codes "ip,nw_ttl=1") ∷ []

matches_are_normalised_and_printed : map (λ row. printed row.0) flows_and_their_matches ≡ map (λ row. Ok row.1) flows_and_their_matches
unfolding number_upto decimal_upto digits_upto mac octet octet_before_colon ipv4 decimal_octet_before_dot ipv4_mask prefix_length ipv6 ipv6_mask eight_groups elided_groups split_at_elision groups_round_zeros groups last_groups group groups_of_ipv4 field_named is_field_left_out shorthand_named keyword_named item_named value_in mask_in whole_value masked_value value_of bits_stated field_stated vlan_stated words with_part with_shorthand number_once with_valued with_bare with_item read_items kept match_of read_match value_in_text shorthand_of shown match_printed hexadecimal hexadecimal4 mac_text ipv4_text ipv6_text prefix_length_up_to ipv4_mask_text ipv6_mask_text digits none joined only_at
matches_are_normalised_and_printed = refl

abbrev flows_and_their_faults : List (List ℕ × TextFault)
flows_and_their_faults =
    (codes "foo=1,actions=", UnknownName 1) ∷
    (codes "in_port=1,=5,actions=", UnknownName 11) ∷
    (codes "ip,dl_vlan_id,actions=", UnknownName 4) ∷
    (codes "add,in_port=1,actions=", UnknownName 1) ∷
    (codes "tun_id=5,actions=", Unsupported 1) ∷
    (codes "in_port=1,tcp_flags=+syn,actions=", Unsupported 11) ∷
    (codes "cookie=1/0xff,actions=", Unsupported 1) ∷
    (codes "cookie=1,cookie=1/1,actions=", Unsupported 10) ∷
    (codes "in_port=1,in_port=1,actions=", Repeated 11) ∷
    (codes "in_port=1,in_port=2,actions=", Repeated 11) ∷
    (codes "ip,tcp,actions=", Repeated 4) ∷
    (codes "arp,nw_src=10.0.0.1,arp_spa=10.0.0.1,actions=", Repeated 21) ∷
    (codes "dl_vlan=1,vlan_vid=0x1001,actions=", Repeated 11) ∷
    (codes "vlan_pcp=3,vlan_vid=5,actions=", Repeated 12) ∷
    (codes "vlan_pcp=3,dl_vlan=0xffff,actions=", Repeated 12) ∷
    (codes "vlan_pcp=3,vlan_tci=0x1000/0x1000,actions=", Repeated 12) ∷
    (codes "priority=1,priority=x,actions=", Repeated 12) ∷
    (codes "table=1,table,actions=", Repeated 9) ∷
    (codes "in_port=0,actions=", BadValue 9) ∷
    (codes "in_port=65280,actions=", BadValue 9) ∷
    (codes "in_port=01,actions=", BadValue 9) ∷
    (codes "in_port=1/1,actions=", BadValue 9) ∷
    (codes "in_port=x,in_port=1,actions=", BadValue 9) ∷
    (codes "table=255,actions=", BadValue 7) ∷
    (codes "priority=65536,actions=", BadValue 10) ∷
    (codes "cookie=0x10000000000000000,actions=", BadValue 8) ∷
    (codes "vlan_pcp=8,actions=", BadValue 10) ∷
    (codes "dl_vlan=4096,actions=", BadValue 9) ∷
    (codes "icmp,icmp_type=256,actions=", BadValue 16) ∷
    (codes "ip,nw_tos=185,actions=", BadValue 11) ∷
    (codes "ip,ip_frag=3,actions=", BadValue 12) ∷
    (codes "ip,nw_dst=10.0.0.0/33,actions=", BadValue 11) ∷
    (codes "ip,nw_ttl=1/1,actions=", BadValue 11) ∷
    (codes "dl_src=1:2:3:4:5,actions=", BadValue 8) ∷
    (codes "in_port,actions=", Syntax 1) ∷
    (codes "in_port=,actions=", Syntax 1) ∷
    (codes "in_port=1,ip=1,actions=", Syntax 11) ∷
    (codes "n_packets,actions=", Syntax 1) ∷
    (codes "in_port=1,actions", Syntax 11) ∷
    (codes "in_port=1", Syntax 10) ∷
    (codes "in_port=1 # actions=2", Syntax 11) ∷ []

the_first_fault_is_told : map (λ row. fault_of Add row.0) flows_and_their_faults ≡ map (λ row. Some row.1) flows_and_their_faults
unfolding number_upto decimal_upto digits_upto mac octet octet_before_colon ipv4 decimal_octet_before_dot ipv4_mask prefix_length ipv6 ipv6_mask eight_groups elided_groups split_at_elision groups_round_zeros groups last_groups group groups_of_ipv4 field_named is_field_left_out shorthand_named keyword_named item_named value_in mask_in whole_value masked_value value_of bits_stated field_stated vlan_stated words with_part with_shorthand number_once with_valued with_bare with_item read_items kept match_of read_match
the_first_fault_is_told = refl
