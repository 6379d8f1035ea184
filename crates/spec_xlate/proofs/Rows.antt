-- Rows: what a translation makes of a packet, and which bits it consults.
use Rattle.std.proofs.Common.{◌≡◌, ℕ, zero, suc, ◌*◌, ◌^◌, List, [], ◌∷◌, ◌++◌, filter, replicate, refl}
use Rattle.std.specs.List.{range_with_len}
use Rattle.spec_keys.specs.declared.field_id.FieldId.TheVariants as field
use Rattle.spec_actions.specs.declared.named_field.NamedField.{NamedField}
use Rattle.spec_actions.specs.declared.named_field.NamedField.TheVariants as name
use Rattle.spec_actions.specs.declared.named_field.Prerequisite.{Prerequisite}
use Rattle.spec_actions.specs.declared.named_field.Prerequisite.TheVariants as needs
use Rattle.spec_actions.specs.declared.action.OfAction.{OfAction}
use Rattle.spec_actions.specs.declared.action.OfAction.TheVariants.{Output, OutputField, InPort, All, Flood, Resubmit, Goto, Set, Move, DecTtl, PushVlan, PopVlan, SetVid, SetPcp}
use Rattle.spec_actions.specs.declared.action.DpAction.TheVariants as datapath
use Rattle.spec_tables.specs.Rules.{Rule}
use Rattle.spec_tables.proofs.Packets.{Stated, is, begins, has, key_of}
use Rattle.spec_xlate.specs.Needs.{is_met}
use Rattle.spec_xlate.specs.Commit.{commit}
use Rattle.spec_xlate.specs.Lookup.{common_length, deciding}
use Rattle.spec_xlate.proofs.Shown.{shown, gives, rule}

-- ---- packets

-- an Ethernet frame of no known type at port 1
abbrev frame : List Stated
frame = is field.InPort 1 ∷ is field.DlSrc 1 ∷ is field.DlDst 2 ∷ is field.DlType 0x88b5 ∷ []

-- a UDP packet at port 1, from 10.0.0.1 to 192.168.0.1, with TTL 64
abbrev udp : List Stated
udp = is field.InPort 1 ∷ is field.DlType 0x0800 ∷ is field.NwSrc 0x0a000001 ∷ is field.NwDst 0xc0a80001
    ∷ is field.NwProto 17 ∷ is field.NwTtl 64 ∷ is field.TpSrc 1000 ∷ is field.TpDst 53 ∷ []

-- a TCP packet at port 1, from 2001:db8::1 to 2001:db8::2, with hop limit 64
abbrev tcp6 : List Stated
tcp6 = is field.InPort 1 ∷ is field.DlType 0x86dd ∷ is field.Ipv6Src 0x20010db8000000000000000000000001
    ∷ is field.Ipv6Dst 0x20010db8000000000000000000000002 ∷ is field.NwProto 6 ∷ is field.NwTtl 64 ∷ is field.TpSrc 40000
    ∷ is field.TpDst 80 ∷ []

-- a packet's outer tag, of a customer's type; its lack of an inner one, and of both
abbrev customer : ℕ → List Stated
customer tci = is field.VlanTci tci ∷ is field.VlanTpid 0x8100 ∷ []

abbrev without_inner_tag : List Stated
without_inner_tag = is field.VlanTci2 0 ∷ is field.VlanTpid2 0 ∷ []

abbrev untagged : List Stated
untagged = is field.VlanTci 0 ∷ is field.VlanTpid 0 ∷ without_inner_tag

-- table 0 has this rule alone, which every packet matches
abbrev always : List OfAction → List Rule
always actions = rule 1 0 0 [] actions ∷ []

-- ARP at port 1, and ICMP for either version of IP
abbrev arp : List Stated
arp = is field.InPort 1 ∷ is field.DlType 0x0806 ∷ is field.NwProto 1 ∷ []

abbrev icmp : List Stated
icmp = is field.InPort 1 ∷ is field.DlType 0x0800 ∷ is field.NwProto 1 ∷ is field.NwTtl 1 ∷ []

abbrev icmp6 : List Stated
icmp6 = is field.InPort 1 ∷ is field.DlType 0x86dd ∷ is field.NwProto 58 ∷ is field.NwTtl 255 ∷ []

-- what every translation consults: the match of a frame of no known type, and of one of IPv4 and of IPv6
abbrev plain_match : List Stated
plain_match = is field.InPort 1 ∷ is field.DlType 0x88b5 ∷ []

abbrev ipv4_match : List Stated
ipv4_match = is field.InPort 1 ∷ is field.DlType 0x0800 ∷ is field.IpFrag 0 ∷ []

abbrev ipv6_match : List Stated
ipv6_match = is field.InPort 1 ∷ is field.DlType 0x86dd ∷ is field.IpFrag 0 ∷ []

abbrev ports : List ℕ
ports = 3 ∷ 1 ∷ 2 ∷ []

-- ---- lookups

masks_of_the_winners_own_priority_are_consulted :
    shown
    (rule 1 0 5 (is field.InPort 1 ∷ []) (Output 2 ∷ [])
    ∷ rule 2 0 5 (is field.DlDst 9 ∷ []) (Output 3 ∷ []) ∷ [])
    ports frame
    ≡ gives (datapath.Output 2 ∷ []) (1 ∷ []) (is field.InPort 1 ∷ is field.DlDst 2 ∷ is field.DlType 0x88b5 ∷ [])
unfolding shown
masks_of_the_winners_own_priority_are_consulted = refl

masks_of_less_priority_are_not :
    shown
    (rule 1 0 5 (is field.InPort 1 ∷ []) (Output 2 ∷ [])
    ∷ rule 2 0 4 (is field.DlDst 9 ∷ []) (Output 3 ∷ []) ∷ [])
    ports frame
    ≡ gives (datapath.Output 2 ∷ []) (1 ∷ []) plain_match
unfolding shown
masks_of_less_priority_are_not = refl

a_mask_ends_at_the_stage_on_which_no_rule_agrees :
    shown (rule 1 0 5 (is field.InPort 2 ∷ is field.DlDst 2 ∷ []) (Output 3 ∷ []) ∷ []) ports frame
    ≡ gives [] [] plain_match
unfolding shown
a_mask_ends_at_the_stage_on_which_no_rule_agrees = refl

-- 10.0.0.0/8 and 192.168.0.1 differ in their first bit
one_bit_more_than_is_common_decides_against_a_prefix :
    shown (rule 1 0 0 (is field.DlType 0x0800 ∷ begins field.NwDst 0x0a000000 8 ∷ []) (Output 2 ∷ []) ∷ []) ports udp
    ≡ gives [] [] (begins field.NwDst 0x80000000 1 ∷ ipv4_match)
unfolding shown
one_bit_more_than_is_common_decides_against_a_prefix = refl

-- 10.2.0.1 is in 10.0.0.0/8, and has 14 bits in common with 10.1.0.0/16
the_deciding_length_is_the_greatest_over_all_prefixes :
    (deciding 32 0x0a020001 (record { value = 0x0a000000; length = 8 } ∷ record { value = 0x0a010000; length = 16 }
    ∷ record { value = 0xc0a80000; length = 24 } ∷ []) ≡ 15) × (deciding 32 0x0a020001 [] ≡ 0)
unfolding deciding common_length
the_deciding_length_is_the_greatest_over_all_prefixes = (refl, refl)

-- a rule of the mask has the packet's port, and another its address
a_stage_is_tested_with_those_before_it :
    shown
    (rule 1 0 5 (is field.InPort 1 ∷ is field.DlDst 9 ∷ is field.NwProto 17 ∷ []) (Output 3 ∷ [])
    ∷ rule 2 0 5 (is field.InPort 2 ∷ is field.DlDst 0 ∷ is field.NwProto 17 ∷ []) (Output 3 ∷ []) ∷ [])
    ports udp
    ≡ gives [] [] (is field.DlDst 0 ∷ ipv4_match)
unfolding shown
a_stage_is_tested_with_those_before_it = refl

a_prefix_that_does_not_match_ends_its_mask :
    shown (rule 1 0 0 (is field.DlType 0x0800 ∷ begins field.NwDst 0x0a000000 8 ∷ is field.NwProto 6 ∷ []) (Output 3 ∷ [])
    ∷ []) ports udp
    ≡ gives [] [] (begins field.NwDst 0x80000000 1 ∷ ipv4_match)
unfolding shown
a_prefix_that_does_not_match_ends_its_mask = refl

a_prefix_that_matches_leads_on_to_the_protocol :
    shown (rule 1 0 0 (is field.DlType 0x0800 ∷ begins field.NwDst 0xc0a80000 24 ∷ is field.NwProto 6 ∷ []) (Output 3 ∷ [])
    ∷ []) ports udp
    ≡ gives [] [] (begins field.NwDst 0xc0a80000 24 ∷ is field.NwProto 17 ∷ ipv4_match)
unfolding shown
a_prefix_that_matches_leads_on_to_the_protocol = refl

-- one rule of table 0, which no packet here matches
abbrev never : List Stated → List Rule
never stated = rule 1 0 0 stated (Output 3 ∷ []) ∷ []

a_prefix_is_tested_after_the_ethernet_stage :
    shown (never (is field.DlDst 9 ∷ is field.DlType 0x0800 ∷ begins field.NwDst 0x0a000000 8 ∷ [])) ports udp
    ≡ gives [] [] (is field.DlDst 0 ∷ ipv4_match)
unfolding shown
a_prefix_is_tested_after_the_ethernet_stage = refl

a_port_is_read_where_a_rule_has_the_protocol_alone :
    shown (never (is field.DlType 0x0800 ∷ is field.NwProto 6 ∷ is field.TpDst 80 ∷ [])) ports udp
    ≡ gives [] [] (is field.NwProto 17 ∷ ipv4_match)
unfolding shown
a_port_is_read_where_a_rule_has_the_protocol_alone = refl

-- the packet is outside of both prefixes, and the first bit of the source tells it
the_source_is_tested_before_the_destination :
    (shown (never (is field.DlType 0x0800 ∷ begins field.NwSrc 0xc0000000 8 ∷ begins field.NwDst 0x0a000000 8 ∷ [])) ports udp
    ≡ gives [] [] (begins field.NwSrc 0 1 ∷ ipv4_match))
    × (shown (never (is field.DlType 0x86dd ∷ begins field.Ipv6Src (0xfe80 * 2 ^ 112) 16 ∷ begins field.Ipv6Dst (0xff * 2 ^ 120) 8 ∷ [])) ports tcp6
    ≡ gives [] [] (begins field.Ipv6Src 0 1 ∷ ipv6_match))
unfolding shown
the_source_is_tested_before_the_destination = (refl, refl)

bits_that_are_no_prefix_are_read_with_the_protocol :
    shown (never (is field.DlType 0x0800 ∷ has field.NwDst 0x0a000001 0xff0000ff ∷ is field.NwProto 6 ∷ [])) ports udp
    ≡ gives [] [] (has field.NwDst 0xc0000001 0xff0000ff ∷ is field.NwProto 17 ∷ ipv4_match)
unfolding shown
bits_that_are_no_prefix_are_read_with_the_protocol = refl

-- Rule 1 wins. Rule 2 is above it, of one prefix of nw_dst, and rule 3 below it, of another; its mask is never reached.
abbrev two_prefixes : Stated → Stated → List Rule
two_prefixes above below =
    rule 1 0 5 [] (Output 2 ∷ []) ∷ rule 2 0 9 (is field.DlType 0x0800 ∷ above ∷ is field.NwProto 6 ∷ []) (Output 3 ∷ [])
    ∷ rule 3 0 1 (is field.DlType 0x0800 ∷ below ∷ []) (Output 3 ∷ []) ∷ []

-- 192.168.0.1 and 10.1.0.0 differ in their first bit, but eight bits tell that it is in 192.0.0.0/8
the_prefixes_of_all_rules_of_the_table_decide :
    shown (two_prefixes (begins field.NwDst 0x0a010000 16) (begins field.NwDst 0xc0000000 8)) ports udp
    ≡ gives (datapath.Output 2 ∷ []) (1 ∷ []) (begins field.NwDst 0xc0000000 8 ∷ ipv4_match)
unfolding shown
the_prefixes_of_all_rules_of_the_table_decide = refl

-- and 24 that it is in 192.168.0.0/24; another address after the prefix of a rule makes no difference
no_more_bits_decide_than_the_mask_has :
    shown (two_prefixes (begins field.NwDst 0x0a000000 8) (begins field.NwDst 0xc0a80007 24)) ports udp
    ≡ gives (datapath.Output 2 ∷ []) (1 ∷ []) (begins field.NwDst 0xc0000000 8 ∷ ipv4_match)
unfolding shown
no_more_bits_decide_than_the_mask_has = refl

-- rule 3 has the packet's port, and so the address is read for rule 2, which is above the winner and of the same mask
rules_below_the_winner_count_within_their_mask :
    shown
    (rule 1 0 5 [] (Output 2 ∷ []) ∷ rule 2 0 9 (is field.InPort 2 ∷ is field.DlDst 9 ∷ []) (Output 3 ∷ [])
    ∷ rule 3 0 1 (is field.InPort 1 ∷ is field.DlDst 9 ∷ []) (Output 3 ∷ []) ∷ [])
    ports frame
    ≡ gives (datapath.Output 2 ∷ []) (1 ∷ []) (is field.DlDst 2 ∷ plain_match)
unfolding shown
rules_below_the_winner_count_within_their_mask = refl

an_ip_packet_consults_ip_frag_in_either_version :
    (shown (always (Output 2 ∷ [])) ports udp ≡ gives (datapath.Output 2 ∷ []) (1 ∷ []) ipv4_match)
    × (shown (always (Output 2 ∷ [])) ports tcp6 ≡ gives (datapath.Output 2 ∷ []) (1 ∷ []) ipv6_match)
unfolding shown
an_ip_packet_consults_ip_frag_in_either_version = (refl, refl)

-- ---- writes

a_write_to_part_of_the_tag_consults_it_whole :
    shown (always (Set name.VlanTci 0x1005 0x1fff ∷ Output 2 ∷ [])) ports frame
    ≡ gives (datapath.PushVlan 0x8100 0x1005 ∷ datapath.Output 2 ∷ []) (1 ∷ []) (untagged ++ plain_match)
unfolding shown
a_write_to_part_of_the_tag_consults_it_whole = refl

a_write_to_a_tcp_port_consults_the_protocol :
    shown (always (Set name.TcpDst 80 0xffff ∷ Output 2 ∷ [])) ports udp
    ≡ gives (datapath.Output 2 ∷ []) (1 ∷ []) (is field.NwProto 17 ∷ ipv4_match)
unfolding shown
a_write_to_a_tcp_port_consults_the_protocol = refl

-- from 10.0.0.1 to 10.0.0.9
commit_writes_the_bits_that_differ :
    shown (always (Set name.NwSrc 0x0a000009 0xffffffff ∷ Output 2 ∷ [])) ports udp
    ≡ gives (datapath.Set field.NwSrc 8 8 ∷ datapath.Output 2 ∷ []) (1 ∷ []) (is field.NwSrc 0x0a000001 ∷ ipv4_match)
unfolding shown
commit_writes_the_bits_that_differ = refl

-- the rule states each register
no_register_is_in_the_mask :
    shown
    (rule 1 0 0 (is field.Metadata 0 ∷ is field.Reg0 0 ∷ is field.Reg1 0 ∷ is field.Reg2 0 ∷ is field.Reg3 0 ∷ is field.Reg4 0 ∷ is field.Reg5 0
    ∷ is field.Reg6 0 ∷ is field.Reg7 0 ∷ is field.Reg8 0 ∷ is field.Reg9 0 ∷ is field.Reg10 0 ∷ is field.Reg11 0 ∷ is field.Reg12 0
    ∷ is field.Reg13 0 ∷ is field.Reg14 0 ∷ is field.Reg15 0 ∷ []) (Output 2 ∷ []) ∷ [])
    ports frame
    ≡ gives (datapath.Output 2 ∷ []) (1 ∷ []) plain_match
unfolding shown
no_register_is_in_the_mask = refl

registers_are_not_in_the_mask :
    shown
    (rule 1 0 0 [] (Set name.Reg0 7 0xffffffff ∷ Resubmit 1 ∷ [])
    ∷ rule 2 1 0 (is field.Reg0 7 ∷ []) (Output 2 ∷ []) ∷ [])
    ports frame
    ≡ gives (datapath.Output 2 ∷ []) (1 ∷ 2 ∷ []) plain_match
unfolding shown
registers_are_not_in_the_mask = refl

-- no frame has this vlan_tci, which a write would make 0
a_set_of_no_bits_is_no_write :
    shown
    (rule 1 0 0 [] (Set name.VlanTci 0 0 ∷ Goto 1 ∷ [])
    ∷ rule 2 1 0 (is field.VlanTci 4 ∷ []) (Output 2 ∷ []) ∷ [])
    ports (is field.VlanTci 4 ∷ frame)
    ≡ gives (datapath.Output 2 ∷ []) (1 ∷ 2 ∷ []) (is field.VlanTci 4 ∷ plain_match)
unfolding shown
a_set_of_no_bits_is_no_write = refl

a_set_of_no_bits_consults_its_prerequisite_alone :
    shown (always (Set name.NwTos 0xff 0x03 ∷ Output 2 ∷ [])) ports udp
    ≡ gives (datapath.Output 2 ∷ []) (1 ∷ []) ipv4_match
unfolding shown
a_set_of_no_bits_consults_its_prerequisite_alone = refl

a_set_of_no_bits_of_the_tag_consults_nothing :
    shown (always (Set name.VlanTci 0 0 ∷ Output 2 ∷ [])) ports frame
    ≡ gives (datapath.Output 2 ∷ []) (1 ∷ []) plain_match
unfolding shown
a_set_of_no_bits_of_the_tag_consults_nothing = refl

-- A write to this name leaves the packet as it is, and consults these bits.
abbrev Leaves : NamedField → List Stated → List Stated → Type 0
Leaves written packet match =
    shown (always (Set written 80 0xffff ∷ Output 2 ∷ [])) ports packet ≡ gives (datapath.Output 2 ∷ []) (1 ∷ []) match

-- of protocol p: 1 is that of a first fragment, 3 that of a later one
abbrev fragment : ℕ → ℕ → List Stated
fragment p frag = is field.InPort 1 ∷ is field.DlType 0x0800 ∷ is field.NwProto p ∷ is field.IpFrag frag ∷ []

a_write_to_a_port_of_a_fragment_does_nothing :
    Leaves name.UdpDst (fragment 17 1) (fragment 17 1) × (Leaves name.UdpSrc (fragment 17 3) (fragment 17 3)
    × (Leaves name.TcpDst (fragment 6 1) (fragment 6 1) × (Leaves name.TcpSrc (fragment 6 3) (fragment 6 3)
    × (Leaves name.TpDst (fragment 6 1) (fragment 6 1) × Leaves name.TpSrc (fragment 17 3) (fragment 17 3)))))
unfolding shown
a_write_to_a_port_of_a_fragment_does_nothing = (refl, (refl, (refl, (refl, (refl, refl)))))

a_write_consults_what_it_needs_where_the_type_alone_tells :
    Leaves name.UdpDst frame (is field.NwProto 0 ∷ is field.IpFrag 0 ∷ plain_match)
    × (Leaves name.TcpDst frame (is field.NwProto 0 ∷ is field.IpFrag 0 ∷ plain_match)
    × (Leaves name.TpDst frame (is field.NwProto 0 ∷ is field.IpFrag 0 ∷ plain_match)
    × Leaves name.NwSrc frame plain_match))
unfolding shown
a_write_consults_what_it_needs_where_the_type_alone_tells = (refl, (refl, (refl, refl)))

-- those of these packets that are what a write needs
abbrev suited : Prerequisite → List (List Stated)
suited need = filter (λ packet. is_met need (key_of packet)) (frame ∷ arp ∷ udp ∷ fragment 17 1 ∷ tcp6 ∷ icmp ∷ icmp6 ∷ [])

which_packets_suit_a_write :
    (suited needs.Nothing ≡ frame ∷ arp ∷ udp ∷ fragment 17 1 ∷ tcp6 ∷ icmp ∷ icmp6 ∷ [])
    × ((suited needs.Ip ≡ udp ∷ fragment 17 1 ∷ tcp6 ∷ icmp ∷ icmp6 ∷ []) × ((suited needs.Ipv4 ≡ udp ∷ fragment 17 1 ∷ icmp ∷ []) × ((suited needs.Ipv6 ≡ tcp6 ∷ icmp6 ∷ []) × ((suited needs.Arp ≡ arp ∷ [])
    × ((suited needs.Tcp ≡ tcp6 ∷ []) × ((suited needs.Udp ≡ udp ∷ []) × ((suited needs.TcpOrUdp ≡ udp ∷ tcp6 ∷ [])
    × ((suited needs.Icmp ≡ icmp ∷ []) × ((suited needs.Icmp6 ≡ icmp6 ∷ []) × (suited needs.Tag ≡ []))))))))))
unfolding shown
which_packets_suit_a_write = (refl, (refl, (refl, (refl, (refl, (refl, (refl, (refl, (refl, (refl, refl))))))))))

-- from the Ethernet source to an IPv4 address that the frame lacks
a_move_that_is_not_made_does_not_consult_its_source :
    shown (always (Move (record { name = name.DlSrc; low = 0; high = 31 }) (record { name = name.NwSrc; low = 0; high = 31 })
    ∷ Output 2 ∷ [])) ports frame
    ≡ gives (datapath.Output 2 ∷ []) (1 ∷ []) plain_match
unfolding shown
a_move_that_is_not_made_does_not_consult_its_source = refl

-- the lower half of metadata to that of the source, 1 to 0x10001, and from there to the destination
a_move_consults_the_bits_that_it_reads_and_writes :
    shown (always (Set name.Metadata 0x10000 0xffff0000
    ∷ Move (record { name = name.Metadata; low = 16; high = 23 }) (record { name = name.DlSrc; low = 16; high = 23 })
    ∷ Move (record { name = name.DlSrc; low = 0; high = 31 }) (record { name = name.DlDst; low = 16; high = 47 }) ∷ Output 2 ∷ [])) ports frame
    ≡ gives (datapath.Set field.DlSrc 0x10000 0x10000 ∷ datapath.Set field.DlDst 0x100010000 0x100010000 ∷ datapath.Output 2 ∷ []) (1 ∷ [])
    (has field.DlSrc 1 0xffffffff ∷ has field.DlDst 0 0xffffffff0000 ∷ plain_match)
unfolding shown
a_move_consults_the_bits_that_it_reads_and_writes = refl

a_value_is_cut_to_its_mask :
    shown (always (Set name.DlDst 0xff 0x0c ∷ Output 2 ∷ [])) ports frame
    ≡ gives (datapath.Set field.DlDst 0x0c 0x0c ∷ datapath.Output 2 ∷ []) (1 ∷ []) (has field.DlDst 0 0x0c ∷ plain_match)
unfolding shown
a_value_is_cut_to_its_mask = refl

-- no frame has such a vlan_tci
a_tag_is_set_beside_bits_without_a_tag :
    (shown (always (SetVid 5 ∷ Output 2 ∷ [])) ports (is field.VlanTci 0x2004 ∷ frame)
    ≡ gives (datapath.PushVlan 0x8100 0x3005 ∷ datapath.Output 2 ∷ []) (1 ∷ []) (is field.VlanTci 0x2004 ∷ is field.VlanTpid 0 ∷ without_inner_tag ++ plain_match))
    × (shown (always (SetPcp 3 ∷ Output 2 ∷ [])) ports (is field.VlanTci 0x2004 ∷ frame)
    ≡ gives (datapath.PushVlan 0x8100 0x7004 ∷ datapath.Output 2 ∷ []) (1 ∷ []) (is field.VlanTci 0x2004 ∷ is field.VlanTpid 0 ∷ without_inner_tag ++ plain_match))
unfolding shown
a_tag_is_set_beside_bits_without_a_tag = (refl, refl)

commit_goes_by_the_order_of_the_fields :
    shown (always (Set name.UdpDst 52 0xffff ∷ Set name.NwSrc 0x0a000002 0xffffffff ∷ SetVid 5 ∷ Set name.DlDst 1 1
    ∷ Output 2 ∷ Output 3 ∷ [])) ports udp
    ≡ gives (datapath.Set field.DlDst 1 1 ∷ datapath.PushVlan 0x8100 0x1005 ∷ datapath.Set field.NwSrc 2 3
    ∷ datapath.Set field.TpDst 0 1 ∷ datapath.Output 2 ∷ datapath.Output 3 ∷ []) (1 ∷ []) (has field.DlDst 0 1
    ∷ untagged ++ (is field.NwSrc 0x0a000001 ∷ is field.NwProto 17 ∷ is field.TpDst 53 ∷ ipv4_match))
unfolding shown
commit_goes_by_the_order_of_the_fields = refl

-- from a key of zeros to one in which each of these fields is 1
commit_has_every_field_that_a_write_may_change :
    commit (key_of [])
    (key_of (is field.TpDst 1 ∷ is field.TpSrc 1 ∷ is field.ArpTha 1 ∷ is field.ArpSha 1 ∷ is field.NwTtl 1 ∷ is field.NwTos 1
    ∷ is field.Ipv6Dst 1 ∷ is field.Ipv6Src 1 ∷ is field.NwDst 1 ∷ is field.NwSrc 1 ∷ is field.VlanTci 0x1001 ∷ is field.VlanTpid 0x8100 ∷ is field.DlDst 1
    ∷ is field.DlSrc 1 ∷ []))
    ≡ datapath.Set field.DlSrc 1 1 ∷ datapath.Set field.DlDst 1 1 ∷ datapath.PushVlan 0x8100 0x1001 ∷ datapath.Set field.NwSrc 1 1
    ∷ datapath.Set field.NwDst 1 1 ∷ datapath.Set field.Ipv6Src 1 1 ∷ datapath.Set field.Ipv6Dst 1 1 ∷ datapath.Set field.NwTos 1 1
    ∷ datapath.Set field.NwTtl 1 1 ∷ datapath.Set field.ArpSha 1 1 ∷ datapath.Set field.ArpTha 1 1 ∷ datapath.Set field.TpSrc 1 1
    ∷ datapath.Set field.TpDst 1 1 ∷ []
unfolding shown
commit_has_every_field_that_a_write_may_change = refl

-- its priority goes with it
a_write_that_leaves_no_tag_bit_takes_the_tag_away :
    shown
    (rule 1 0 0 [] (Set name.VlanVid 5 0x1fff ∷ Goto 1 ∷ [])
    ∷ rule 2 1 0 (is field.VlanTci 0 ∷ []) (Output 2 ∷ []) ∷ [])
    ports (customer 0xb00a ++ frame)
    ≡ gives (datapath.PopVlan ∷ datapath.Output 2 ∷ []) (1 ∷ 2 ∷ []) (without_inner_tag ++ (customer 0xb00a ++ plain_match))
unfolding shown
a_write_that_leaves_no_tag_bit_takes_the_tag_away = refl

-- bits 2 to 3 of the register, to the priority's two upper bits
a_move_reads_and_writes_its_slices :
    shown (always (Set name.Reg0 0xc 0xff ∷ SetVid 5
    ∷ Move (record { name = name.Reg0; low = 2; high = 3 }) (record { name = name.VlanPcp; low = 1; high = 2 })
    ∷ Output 2 ∷ [])) ports frame
    ≡ gives (datapath.PushVlan 0x8100 0xd005 ∷ datapath.Output 2 ∷ []) (1 ∷ []) (untagged ++ plain_match)
unfolding shown
a_move_reads_and_writes_its_slices = refl

set_vid_and_set_pcp_keep_each_others_part :
    shown (always (SetPcp 3 ∷ SetVid 7 ∷ Output 2 ∷ [])) ports (customer 0xb80a ++ frame)
    ≡ gives (datapath.PopVlan ∷ datapath.PushVlan 0x8100 0x7007 ∷ datapath.Output 2 ∷ []) (1 ∷ []) (without_inner_tag ++ (customer 0xb80a ++ plain_match))
unfolding shown
set_vid_and_set_pcp_keep_each_others_part = refl

a_pushed_tag_is_empty_and_popped_again :
    shown (always (PushVlan 0x8100 ∷ Output 2 ∷ PopVlan ∷ Output 3 ∷ [])) ports frame
    ≡ gives (datapath.PushVlan 0x8100 0x1000 ∷ datapath.Output 2 ∷ datapath.PopVlan ∷ datapath.Output 3 ∷ []) (1 ∷ []) (untagged ++ plain_match)
unfolding shown
a_pushed_tag_is_empty_and_popped_again = refl

-- a frame that came in with a customer's tag of VLAN 10
abbrev of_customer_10 : List Stated
of_customer_10 = customer 0x100a ++ frame

a_service_tag_goes_around_a_customer_s :
    shown (always (PushVlan 0x88a8 ∷ SetVid 100 ∷ Output 2 ∷ [])) ports of_customer_10
    ≡ gives (datapath.PushVlan 0x88a8 0x1064 ∷ datapath.Output 2 ∷ []) (1 ∷ []) (without_inner_tag ++ (customer 0x100a ++ plain_match))
unfolding shown
a_service_tag_goes_around_a_customer_s = refl

-- a frame with a service tag of VLAN 100 around it
abbrev of_service_100 : List Stated
of_service_100 = is field.VlanTci 0x1064 ∷ is field.VlanTpid 0x88a8 ∷ is field.VlanTci2 0x100a ∷ is field.VlanTpid2 0x8100 ∷ []

where_the_outer_tag_is_popped_the_inner_one_comes :
    shown
    (rule 1 0 0 [] (PopVlan ∷ Goto 1 ∷ [])
    ∷ rule 2 1 0 (is field.VlanTci 0x100a ∷ []) (Output 2 ∷ []) ∷ [])
    ports (of_service_100 ++ frame)
    ≡ gives (datapath.PopVlan ∷ datapath.Output 2 ∷ []) (1 ∷ 2 ∷ []) (of_service_100 ++ plain_match)
unfolding shown
where_the_outer_tag_is_popped_the_inner_one_comes = refl

two_tags_take_no_third :
    shown (always (PushVlan 0x8100 ∷ Output 2 ∷ [])) ports (of_service_100 ++ frame)
    ≡ gives [] (1 ∷ []) (of_service_100 ++ plain_match)
unfolding shown
two_tags_take_no_third = refl

-- the outer tag alone is popped, and the new one pushed around the inner one
a_changed_outer_tag_is_popped_and_pushed :
    shown (always (SetVid 7 ∷ Output 2 ∷ [])) ports (of_service_100 ++ frame)
    ≡ gives (datapath.PopVlan ∷ datapath.PushVlan 0x88a8 0x1007 ∷ datapath.Output 2 ∷ []) (1 ∷ []) (of_service_100 ++ plain_match)
unfolding shown
a_changed_outer_tag_is_popped_and_pushed = refl

-- a tag of the same content and another type
tags_of_other_types_are_others :
    shown (always (PopVlan ∷ PushVlan 0x88a8 ∷ SetVid 10 ∷ Output 2 ∷ [])) ports of_customer_10
    ≡ gives (datapath.PopVlan ∷ datapath.PushVlan 0x88a8 0x100a ∷ datapath.Output 2 ∷ []) (1 ∷ []) (without_inner_tag ++ (customer 0x100a ++ plain_match))
unfolding shown
tags_of_other_types_are_others = refl

the_tag_of_a_match_is_the_outer_one :
    (shown (rule 1 0 0 (has field.VlanTci 0x1064 0x1fff ∷ []) (Output 2 ∷ []) ∷ []) ports (of_service_100 ++ frame)
    ≡ gives (datapath.Output 2 ∷ []) (1 ∷ []) (has field.VlanTci 0x1064 0x1fff ∷ plain_match))
    × (shown (rule 1 0 0 (has field.VlanTci 0x100a 0x1fff ∷ []) (Output 2 ∷ []) ∷ []) ports (of_service_100 ++ frame)
    ≡ gives [] [] (has field.VlanTci 0x1064 0x1fff ∷ plain_match))
unfolding shown
the_tag_of_a_match_is_the_outer_one = (refl, refl)

a_pop_consults_the_tags_whether_there_are_any_or_not :
    (shown (always (PopVlan ∷ Output 2 ∷ [])) ports frame
    ≡ gives (datapath.Output 2 ∷ []) (1 ∷ []) (untagged ++ plain_match))
    × (shown (always (PopVlan ∷ Output 2 ∷ [])) ports (customer 0xb00a ++ frame)
    ≡ gives (datapath.PopVlan ∷ datapath.Output 2 ∷ []) (1 ∷ []) (without_inner_tag ++ (customer 0xb00a ++ plain_match)))
unfolding shown
a_pop_consults_the_tags_whether_there_are_any_or_not = (refl, refl)

a_pop_leaves_no_bit_of_the_tag :
    shown
    (rule 1 0 0 [] (PopVlan ∷ Goto 1 ∷ [])
    ∷ rule 2 1 0 (is field.VlanTci 0 ∷ []) (Output 2 ∷ []) ∷ [])
    ports (customer 0xb00a ++ frame)
    ≡ gives (datapath.PopVlan ∷ datapath.Output 2 ∷ []) (1 ∷ 2 ∷ []) (without_inner_tag ++ (customer 0xb00a ++ plain_match))
unfolding shown
a_pop_leaves_no_bit_of_the_tag = refl

a_third_push_ends_the_translation :
    shown (always (PushVlan 0x88a8 ∷ Output 2 ∷ PushVlan 0x8100 ∷ Output 3 ∷ PushVlan 0x8100 ∷ [])) ports frame
    ≡ gives [] (1 ∷ []) (untagged ++ plain_match)
unfolding shown
a_third_push_ends_the_translation = refl

-- ---- output

all_goes_to_the_other_ports_in_rising_order :
    shown (always (All ∷ InPort ∷ [])) ports frame
    ≡ gives (datapath.Output 2 ∷ datapath.Output 3 ∷ datapath.Output 1 ∷ []) (1 ∷ []) plain_match
unfolding shown
all_goes_to_the_other_ports_in_rising_order = refl

output_goes_to_other_ports_of_the_switch_alone :
    shown (always (Output 1 ∷ Output 4 ∷ Set name.DlDst 9 0xffffffffffff ∷ All ∷ InPort ∷ [])) (1 ∷ []) frame
    ≡ gives (datapath.Set field.DlDst 9 11 ∷ datapath.Output 1 ∷ []) (1 ∷ []) (is field.DlDst 2 ∷ plain_match)
unfolding shown
output_goes_to_other_ports_of_the_switch_alone = refl

all_commits_once_before_its_outputs :
    shown (always (Set name.DlDst 9 0xffffffffffff ∷ All ∷ [])) ports frame
    ≡ gives (datapath.Set field.DlDst 9 11 ∷ datapath.Output 2 ∷ datapath.Output 3 ∷ []) (1 ∷ []) (is field.DlDst 2 ∷ plain_match)
unfolding shown
all_commits_once_before_its_outputs = refl

-- a write, and back
all_and_flood_commit_nothing_without_another_port :
    (shown (always (Set name.DlDst 9 0xffffffffffff ∷ All ∷ Set name.DlDst 2 0xffffffffffff ∷ InPort ∷ [])) (1 ∷ []) frame
    ≡ gives (datapath.Output 1 ∷ []) (1 ∷ []) (is field.DlDst 2 ∷ plain_match))
    × (shown (always (Set name.DlDst 9 0xffffffffffff ∷ Flood ∷ Set name.DlDst 2 0xffffffffffff ∷ InPort ∷ [])) (1 ∷ []) frame
    ≡ gives (datapath.Output 1 ∷ []) (1 ∷ []) (is field.DlDst 2 ∷ plain_match))
unfolding shown
all_and_flood_commit_nothing_without_another_port = (refl, refl)

a_part_of_the_tag_that_is_read_consults_it_whole :
    shown (always (OutputField (record { name = name.VlanVid; low = 0; high = 3 }) ∷ [])) ports (is field.VlanTci 0xb003 ∷ frame)
    ≡ gives (datapath.Output 3 ∷ []) (1 ∷ []) (is field.VlanTci 0xb003 ∷ plain_match)
unfolding shown
a_part_of_the_tag_that_is_read_consults_it_whole = refl

an_output_to_a_field_consults_the_bits_that_it_reads :
    shown (always (OutputField (record { name = name.TpDst; low = 4; high = 5 }) ∷ [])) ports udp
    ≡ gives (datapath.Output 3 ∷ []) (1 ∷ []) (has field.TpDst 0x30 0x30 ∷ ipv4_match)
unfolding shown
an_output_to_a_field_consults_the_bits_that_it_reads = refl

-- port 1 is that of the packet, and there is no port 53
an_output_to_a_field_sends_to_other_ports_of_the_switch_alone :
    (shown (always (OutputField (record { name = name.InPort; low = 0; high = 15 }) ∷ [])) ports frame ≡ gives [] (1 ∷ []) plain_match)
    × (shown (always (OutputField (record { name = name.TpDst; low = 0; high = 15 }) ∷ [])) ports udp
    ≡ gives [] (1 ∷ []) (is field.TpDst 53 ∷ ipv4_match))
unfolding shown
an_output_to_a_field_sends_to_other_ports_of_the_switch_alone = (refl, refl)

-- ---- lists that end

a_list_goes_on_after_a_goto :
    shown (rule 1 0 0 [] (Goto 1 ∷ Output 3 ∷ []) ∷ rule 2 1 0 [] (Output 2 ∷ []) ∷ []) ports frame
    ≡ gives (datapath.Output 2 ∷ datapath.Output 3 ∷ []) (1 ∷ 2 ∷ []) plain_match
unfolding shown
a_list_goes_on_after_a_goto = refl

a_packet_without_a_ttl_is_no_packet_of_ttl_0 :
    (shown (always (DecTtl ∷ Output 2 ∷ [])) ports frame ≡ gives (datapath.Output 2 ∷ []) (1 ∷ []) plain_match)
    × (shown (always (DecTtl ∷ Output 2 ∷ [])) ports (is field.InPort 1 ∷ is field.DlType 0x0800 ∷ [])
    ≡ gives [] (1 ∷ []) (is field.NwTtl 0 ∷ ipv4_match))
unfolding shown
a_packet_without_a_ttl_is_no_packet_of_ttl_0 = (refl, refl)

-- by a TTL of 1, and by a third push
what_stands_after_the_end_consults_nothing :
    (shown (always (DecTtl ∷ Set name.DlDst 9 0xffffffffffff ∷ Output 2 ∷ [])) ports icmp
    ≡ gives [] (1 ∷ []) (is field.NwTtl 1 ∷ ipv4_match))
    × (shown (always (PushVlan 0x8100 ∷ PushVlan 0x8100 ∷ PushVlan 0x8100 ∷ Set name.DlDst 9 0xffffffffffff ∷ Output 2 ∷ [])) ports frame
    ≡ gives [] (1 ∷ []) (untagged ++ plain_match))
unfolding shown
what_stands_after_the_end_consults_nothing = (refl, refl)

a_ttl_of_1_ends_the_list_and_not_the_one_that_led_to_it :
    shown
    (rule 1 0 0 [] (Resubmit 1 ∷ Output 3 ∷ [])
    ∷ rule 2 1 0 [] (DecTtl ∷ Output 2 ∷ []) ∷ [])
    ports (is field.InPort 1 ∷ is field.DlType 0x0800 ∷ is field.NwTtl 1 ∷ [])
    ≡ gives (datapath.Output 3 ∷ []) (1 ∷ 2 ∷ []) (is field.NwTtl 1 ∷ ipv4_match)
unfolding shown
a_ttl_of_1_ends_the_list_and_not_the_one_that_led_to_it = refl

a_ttl_of_2_becomes_1 :
    shown (always (DecTtl ∷ Output 2 ∷ [])) ports (is field.InPort 1 ∷ is field.DlType 0x0800 ∷ is field.NwTtl 2 ∷ [])
    ≡ gives (datapath.Set field.NwTtl 1 3 ∷ datapath.Output 2 ∷ []) (1 ∷ []) (is field.NwTtl 2 ∷ ipv4_match)
unfolding shown
a_ttl_of_2_becomes_1 = refl

-- ---- limits

-- rules of so many tables after this one and of it, each of which leads to the next, and the last to port 2
chain : ℕ → ℕ → List Rule
chain zero table = rule (suc table) table 0 [] (Output 2 ∷ []) ∷ []
chain (suc n) table = rule (suc table) table 0 [] (Resubmit (suc table) ∷ []) ∷ chain n (suc table)

a_lookup_at_depth_64_is_made :
    shown (chain 64 0) ports frame
    ≡ gives (datapath.Output 2 ∷ []) (range_with_len 1 65) plain_match
unfolding shown chain
a_lookup_at_depth_64_is_made = refl

a_lookup_at_depth_65_ends_the_translation :
    shown (chain 65 0) ports frame
    ≡ gives [] (range_with_len 1 65) plain_match
unfolding shown chain
a_lookup_at_depth_65_ends_the_translation = refl

-- 512 lookups, if table 0 does nothing more: 1 in table 0, 7 in table 1, 7 * 8 in table 2, and 7 * 8 * 8 in table 3
lookups : List OfAction → List Rule
lookups more =
    rule 1 0 0 [] (replicate 7 (Resubmit 1) ++ more) ∷ rule 2 1 0 [] (replicate 8 (Resubmit 2))
    ∷ rule 3 2 0 [] (replicate 8 (Resubmit 3)) ∷ []

the_512th_lookup_is_made : (shown (lookups (Output 2 ∷ [])) ports frame).actions ≡ datapath.Output 2 ∷ []
unfolding shown lookups
the_512th_lookup_is_made = refl

the_513th_lookup_ends_the_translation :
    (shown (lookups (Output 2 ∷ Resubmit 3 ∷ [])) ports frame).actions
    ≡ []
unfolding shown lookups
the_513th_lookup_ends_the_translation = refl

-- 128 datapath actions, if table 0 does nothing more
outputs : List OfAction → List Rule
outputs more = rule 1 0 0 [] (Resubmit 1 ∷ Resubmit 1 ∷ more) ∷ rule 2 1 0 [] (replicate 64 (Output 2)) ∷ []

the_128th_datapath_action_is_emitted :
    shown (outputs []) ports frame
    ≡ gives (replicate 128 (datapath.Output 2)) (1 ∷ 2 ∷ 2 ∷ []) plain_match
unfolding shown outputs
the_128th_datapath_action_is_emitted = refl

the_129th_datapath_action_ends_the_translation :
    shown (outputs (Output 3 ∷ [])) ports frame
    ≡ gives [] (1 ∷ 2 ∷ 2 ∷ []) plain_match
unfolding shown outputs
the_129th_datapath_action_ends_the_translation = refl
