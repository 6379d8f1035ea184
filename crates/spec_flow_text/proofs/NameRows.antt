-- Rows: the whole tables of names, and what they mean.
use Rattle.std.specs.Prelude.{◌≡◌, ℕ, ◌+◌, ◌==◌, List, [], ◌∷◌, ◌++◌, map, length, Option, Some, None, codes, refl}
use Rattle.std.specs.List.{slice_split, flat_map}
use Rattle.std.specs.Char.{to_ascii_uppercase}
use Rattle.spec_flow_text.specs.Characters.{space}
use Rattle.spec_actions.specs.declared.named_field.NamedField.{NamedField}
use Rattle.spec_actions.specs.declared.named_field.NamedField.TheVariants.{InPort, Metadata, Reg0, Reg1, Reg2, Reg3, Reg4, Reg5, Reg6, Reg7, Reg8, Reg9, Reg10, Reg11, Reg12, Reg13, Reg14, Reg15, DlSrc, DlDst, DlType, VlanTci, VlanVid, VlanPcp, NwSrc, NwDst, ArpSpa, ArpTpa, Ipv6Src, Ipv6Dst, NwProto, ArpOp, NwTos, IpDscp, NwEcn, NwTtl, IpFrag, ArpSha, ArpTha, TpSrc, TpDst, TcpSrc, TcpDst, UdpSrc, UdpDst, IcmpType, IcmpCode, Icmpv6Type, Icmpv6Code}
use Rattle.spec_flow_text.specs.declared.shorthand.Shorthand.{Shorthand}
use Rattle.spec_flow_text.specs.declared.shorthand.Shorthand.TheVariants as short
use Rattle.spec_flow_text.specs.declared.names.ItemName.{ItemName}
use Rattle.spec_flow_text.specs.declared.names.ItemName.TheVariants as item
use Rattle.spec_flow_text.specs.declared.names.ActionName.{ActionName}
use Rattle.spec_flow_text.specs.declared.names.ActionName.TheVariants as action
use Rattle.spec_flow_text.specs.Names.{named_fields, names_of, field_named, field_families_left_out, fields_left_out, is_field_left_out, shorthands, word_of, type_stated, protocol_stated, shorthand_named, keywords, keyword_named, item_named, actions_by_name, actions_left_out, reserved_port_named, is_action_left_out, action_named}

-- the words of a text
abbrev words : List ℕ → List (List ℕ)
words text = slice_split (λ c. c == space) text

abbrev upper : List ℕ → List ℕ
upper text = map to_ascii_uppercase text

-- ---- fields

-- each field and its names, the first of which is printed
abbrev fields_and_their_names : List (NamedField × List ℕ)
fields_and_their_names =
    (InPort, codes "in_port NXM_OF_IN_PORT") ∷
    (Metadata, codes "metadata OXM_OF_METADATA") ∷
    (Reg0, codes "reg0 NXM_NX_REG0") ∷
    (Reg1, codes "reg1 NXM_NX_REG1") ∷
    (Reg2, codes "reg2 NXM_NX_REG2") ∷
    (Reg3, codes "reg3 NXM_NX_REG3") ∷
    (Reg4, codes "reg4 NXM_NX_REG4") ∷
    (Reg5, codes "reg5 NXM_NX_REG5") ∷
    (Reg6, codes "reg6 NXM_NX_REG6") ∷
    (Reg7, codes "reg7 NXM_NX_REG7") ∷
    (Reg8, codes "reg8 NXM_NX_REG8") ∷
    (Reg9, codes "reg9 NXM_NX_REG9") ∷
    (Reg10, codes "reg10 NXM_NX_REG10") ∷
    (Reg11, codes "reg11 NXM_NX_REG11") ∷
    (Reg12, codes "reg12 NXM_NX_REG12") ∷
    (Reg13, codes "reg13 NXM_NX_REG13") ∷
    (Reg14, codes "reg14 NXM_NX_REG14") ∷
    (Reg15, codes "reg15 NXM_NX_REG15") ∷
    (DlSrc, codes "dl_src eth_src NXM_OF_ETH_SRC") ∷
    (DlDst, codes "dl_dst eth_dst NXM_OF_ETH_DST") ∷
    (DlType, codes "dl_type eth_type NXM_OF_ETH_TYPE") ∷
    (VlanTci, codes "vlan_tci NXM_OF_VLAN_TCI") ∷
    (VlanVid, codes "vlan_vid OXM_OF_VLAN_VID") ∷
    (VlanPcp, codes "vlan_pcp dl_vlan_pcp OXM_OF_VLAN_PCP") ∷
    (NwSrc, codes "nw_src ip_src NXM_OF_IP_SRC") ∷
    (NwDst, codes "nw_dst ip_dst NXM_OF_IP_DST") ∷
    (ArpSpa, codes "arp_spa NXM_OF_ARP_SPA") ∷
    (ArpTpa, codes "arp_tpa NXM_OF_ARP_TPA") ∷
    (Ipv6Src, codes "ipv6_src NXM_NX_IPV6_SRC") ∷
    (Ipv6Dst, codes "ipv6_dst NXM_NX_IPV6_DST") ∷
    (NwProto, codes "nw_proto ip_proto NXM_OF_IP_PROTO") ∷
    (ArpOp, codes "arp_op NXM_OF_ARP_OP") ∷
    (NwTos, codes "nw_tos NXM_OF_IP_TOS") ∷
    (IpDscp, codes "ip_dscp OXM_OF_IP_DSCP") ∷
    (NwEcn, codes "nw_ecn ip_ecn NXM_NX_IP_ECN") ∷
    (NwTtl, codes "nw_ttl NXM_NX_IP_TTL") ∷
    (IpFrag, codes "ip_frag NXM_NX_IP_FRAG") ∷
    (ArpSha, codes "arp_sha NXM_NX_ARP_SHA") ∷
    (ArpTha, codes "arp_tha NXM_NX_ARP_THA") ∷
    (TpSrc, codes "tp_src") ∷
    (TpDst, codes "tp_dst") ∷
    (TcpSrc, codes "tcp_src NXM_OF_TCP_SRC") ∷
    (TcpDst, codes "tcp_dst NXM_OF_TCP_DST") ∷
    (UdpSrc, codes "udp_src NXM_OF_UDP_SRC") ∷
    (UdpDst, codes "udp_dst NXM_OF_UDP_DST") ∷
    (IcmpType, codes "icmp_type NXM_OF_ICMP_TYPE") ∷
    (IcmpCode, codes "icmp_code NXM_OF_ICMP_CODE") ∷
    (Icmpv6Type, codes "icmpv6_type NXM_NX_ICMPV6_TYPE") ∷
    (Icmpv6Code, codes "icmpv6_code NXM_NX_ICMPV6_CODE") ∷ []

each_field_has_its_names :
    (map (λ row. names_of row.0) fields_and_their_names ≡ map (λ row. words row.1) fields_and_their_names)
    × (map (λ row. row.0) fields_and_their_names ≡ named_fields)
each_field_has_its_names = (refl, refl)

each_name_means_its_field :
    map (λ row. map item_named (words row.1)) fields_and_their_names
    ≡ map (λ row. map (λ _. Some (item.Field row.0)) (words row.1)) fields_and_their_names
unfolding field_named is_field_left_out shorthand_named keyword_named item_named
each_name_means_its_field = refl

-- ---- shorthands, with the Ethernet type and the protocol that they state

record Stated : Type 0 where
  word : List ℕ
  meaning : Shorthand
  type : ℕ
  protocol : Option ℕ

abbrev stated : List ℕ → Shorthand → ℕ → Option ℕ → Stated
stated word meaning type protocol = record { word = word; meaning = meaning; type = type; protocol = protocol }

abbrev shorthands_and_what_they_state : List Stated
shorthands_and_what_they_state =
    stated (codes "ip") short.Ip 0x0800 None ∷
    stated (codes "ipv6") short.Ipv6 0x86dd None ∷
    stated (codes "arp") short.Arp 0x0806 None ∷
    stated (codes "icmp") short.Icmp 0x0800 (Some 1) ∷
    stated (codes "tcp") short.Tcp 0x0800 (Some 6) ∷
    stated (codes "udp") short.Udp 0x0800 (Some 17) ∷
    stated (codes "icmp6") short.Icmp6 0x86dd (Some 58) ∷
    stated (codes "tcp6") short.Tcp6 0x86dd (Some 6) ∷
    stated (codes "udp6") short.Udp6 0x86dd (Some 17) ∷ []

each_shorthand_states_its_type_and_protocol :
    (map (λ row. item_named row.word) shorthands_and_what_they_state
    ≡ map (λ row. Some (item.Shorthand row.meaning)) shorthands_and_what_they_state)
    × ((map (λ row. word_of row.meaning) shorthands_and_what_they_state ≡ map (λ row. row.word) shorthands_and_what_they_state)
    × ((map (λ row. type_stated row.meaning) shorthands_and_what_they_state ≡ map (λ row. row.type) shorthands_and_what_they_state)
    × ((map (λ row. protocol_stated row.meaning) shorthands_and_what_they_state ≡ map (λ row. row.protocol) shorthands_and_what_they_state)
    × (length shorthands ≡ 9))))
unfolding field_named is_field_left_out shorthand_named keyword_named item_named
each_shorthand_states_its_type_and_protocol = (refl, (refl, (refl, (refl, refl))))

-- ---- other items of a flow

abbrev other_items : List (List ℕ × ItemName)
other_items =
    (codes "dl_vlan", item.DlVlan) ∷
    (codes "table", item.Table) ∷
    (codes "priority", item.Priority) ∷
    (codes "cookie", item.Cookie) ∷
    (codes "duration n_packets n_bytes idle_age hard_age", item.Statistic) ∷
    (codes "actions action", item.Actions) ∷ []

-- names that begin so, and these names
abbrev left_out : List ℕ
left_out =
    codes "tun_id tunnel_x mpls_label sctp_src nd_target ct_state xreg0 xxreg0 nsh_spi "
    ++ (codes "recirc_id dp_hash pkt_mark conj_id actset_output skb_priority packet_type in_port_oxm tcp_flags ipv6_label "
    ++ codes "rarp idle_timeout hard_timeout importance out_port out_group check_overlap send_flow_rem reset_counts no_packet_counts no_byte_counts")

each_other_item_has_its_meaning :
    (map (λ row. map item_named (words row.0)) other_items ≡ map (λ row. map (λ _. Some row.1) (words row.0)) other_items)
    × ((length keywords ≡ length (flat_map (λ row. words row.0) other_items))
    × ((map item_named (words left_out) ≡ map (λ _. Some item.Unsupported) (words left_out))
    × (length field_families_left_out + length fields_left_out ≡ length (words left_out))))
unfolding field_named is_field_left_out shorthand_named keyword_named item_named
each_other_item_has_its_meaning = (refl, (refl, (refl, refl)))

-- upper case, beginnings and near misses mean nothing
abbrev no_items : List ℕ
no_items =
    codes "IN_PORT Reg0 nxm_nx_reg0 reg16 NXM_NX_REG16 reg xre nsh ct nd tun dl_vlan_id vlan OXM_OF_ETH_SRC OXM_OF_TCP_DST "
    ++ codes "NXM_OF_TP_SRC nw_frag ip4 eth icmpv6 RARP timeout priorities idle n_packet output drop"

these_are_no_items : map item_named (words no_items) ≡ map (λ _. None) (words no_items)
unfolding field_named is_field_left_out shorthand_named keyword_named item_named
these_are_no_items = refl

-- ---- actions

abbrev actions_and_their_names : List (ActionName × List ℕ)
actions_and_their_names =
    (action.Port, codes "0 1 2x 02 9output") ∷
    (action.Output, codes "output") ∷
    (action.InPort, codes "in_port IN_PORT") ∷
    (action.All, codes "all ALL") ∷
    (action.Flood, codes "flood FLOOD") ∷
    (action.Drop, codes "drop") ∷
    (action.Resubmit, codes "resubmit") ∷
    (action.GotoTable, codes "goto_table") ∷
    (action.Load, codes "load") ∷
    (action.SetField, codes "set_field") ∷
    (action.Move, codes "move") ∷
    (action.Mod DlSrc, codes "mod_dl_src") ∷
    (action.Mod DlDst, codes "mod_dl_dst") ∷
    (action.Mod NwSrc, codes "mod_nw_src") ∷
    (action.Mod NwDst, codes "mod_nw_dst") ∷
    (action.Mod NwTos, codes "mod_nw_tos") ∷
    (action.Mod NwEcn, codes "mod_nw_ecn") ∷
    (action.Mod NwTtl, codes "mod_nw_ttl") ∷
    (action.Mod TpSrc, codes "mod_tp_src") ∷
    (action.Mod TpDst, codes "mod_tp_dst") ∷
    (action.ModVlanVid, codes "mod_vlan_vid") ∷
    (action.ModVlanPcp, codes "mod_vlan_pcp") ∷
    (action.DecTtl, codes "dec_ttl") ∷
    (action.PushVlan, codes "push_vlan") ∷
    (action.PopVlan, codes "strip_vlan pop_vlan") ∷ []

-- known and left out, in lower or in upper case
abbrev actions_not_built : List ℕ
actions_not_built =
    codes "normal learn ct ct_clear nat group meter controller local enqueue conjunction clone sample note push pop "
    ++ (codes "write_actions clear_actions write_metadata bundle bundle_load multipath exit fin_timeout set_queue pop_queue "
    ++ codes "set_tunnel set_vlan_vid set_vlan_pcp push_mpls pop_mpls")

each_name_means_its_action :
    (map (λ row. map action_named (words row.1)) actions_and_their_names
    ≡ map (λ row. map (λ _. Some row.0) (words row.1)) actions_and_their_names)
    × (length actions_by_name ≡ 22)
unfolding reserved_port_named is_action_left_out action_named
each_name_means_its_action = (refl, refl)

each_action_that_is_left_out_is_known :
    (map action_named (words actions_not_built) ≡ map (λ _. Some action.Unsupported) (words actions_not_built))
    × ((map (λ name. action_named (upper name)) (words actions_not_built) ≡ map (λ _. Some action.Unsupported) (words actions_not_built))
    × (length actions_left_out ≡ length (words actions_not_built)))
unfolding reserved_port_named is_action_left_out action_named
each_action_that_is_left_out_is_known = (refl, (refl, refl))

-- what is built has no name in upper case but the reserved ports, and no name has both cases
abbrev no_actions : List ℕ
no_actions =
    codes "In_Port Flood DROP OUTPUT LOAD DEC_TTL Normal Ct table set_mpls_ttl check_pkt_larger delete_field dec_nsh_ttl outputs mod_dl_type resubmi"

these_are_no_actions : map action_named (words no_actions) ≡ map (λ _. None) (words no_actions)
unfolding reserved_port_named is_action_left_out action_named
these_are_no_actions = refl
