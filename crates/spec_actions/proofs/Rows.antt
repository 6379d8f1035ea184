-- Rows: named fields, and sound lists of actions.
use Rattle.std.proofs.Common.{◌≡◌, ℕ, ◌+◌, ◌^◌, true, false, nat_le, nat_lt, List, [], ◌∷◌, refl}
use Rattle.std.specs.List.{list_all}
use Rattle.spec_keys.specs.Fields.{width_of}
use Rattle.spec_keys.specs.declared.field_id.FieldId.TheVariants as key
use Rattle.spec_actions.specs.declared.named_field.NamedField.{NamedField}
use Rattle.spec_actions.specs.declared.named_field.NamedField.TheVariants as name
use Rattle.spec_actions.specs.declared.named_field.Prerequisite.TheVariants as needs
use Rattle.spec_actions.specs.declared.action.Slice.{Slice}
use Rattle.spec_actions.specs.declared.action.OfAction.TheVariants.{Resubmit, Goto, Set, Move, OutputField, PushVlan, SetVid, SetPcp}
use Rattle.spec_actions.specs.Named.{named}
use Rattle.spec_actions.specs.Sound.{is_sound}

-- ---- the table of names

the_bits_of_every_name_lie_in_its_field :
    (n : NamedField) → nat_le ((named n).low + (named n).bits) (width_of (named n).field) ≡ true
the_bits_of_every_name_lie_in_its_field name.InPort = refl
the_bits_of_every_name_lie_in_its_field n = refl

a_write_changes_bits_of_its_name_alone : (n : NamedField) → nat_lt (named n).writable (2 ^ (named n).bits) ≡ true
a_write_changes_bits_of_its_name_alone name.InPort = refl
a_write_changes_bits_of_its_name_alone n = refl

vlan_vid_reaches_the_tag_bit_and_vlan_pcp_the_three_above :
    ((named name.VlanVid).bits ≡ 13) × ((named name.VlanPcp).low ≡ 13) × ((named name.VlanPcp).bits ≡ 3)
vlan_vid_reaches_the_tag_bit_and_vlan_pcp_the_three_above = (refl, refl, refl)

a_write_to_nw_tos_leaves_the_ecn_bits : ((named name.NwTos).bits ≡ 8) × ((named name.NwTos).writable ≡ 0xfc)
a_write_to_nw_tos_leaves_the_ecn_bits = (refl, refl)

ip_dscp_and_nw_ecn_share_the_field_of_nw_tos :
    ((named name.IpDscp).field ≡ key.NwTos) × ((named name.IpDscp).low ≡ 2) × ((named name.IpDscp).bits ≡ 6)
    × ((named name.NwEcn).field ≡ key.NwTos) × ((named name.NwEcn).bits ≡ 2)
ip_dscp_and_nw_ecn_share_the_field_of_nw_tos = (refl, refl, refl, refl, refl)

arp_addresses_stand_in_the_ip_fields_and_need_arp :
    ((named name.ArpSpa).field ≡ key.NwSrc) × ((named name.ArpSpa).write_needs ≡ needs.Arp)
    × ((named name.NwSrc).write_needs ≡ needs.Ipv4)
arp_addresses_stand_in_the_ip_fields_and_need_arp = (refl, refl, refl)

tcp_and_udp_ports_share_their_fields_and_need_their_protocol :
    ((named name.TcpDst).field ≡ key.TpDst) × ((named name.TcpDst).write_needs ≡ needs.Tcp)
    × ((named name.UdpDst).field ≡ key.TpDst) × ((named name.UdpDst).write_needs ≡ needs.Udp)
    × ((named name.TpDst).write_needs ≡ needs.TcpOrUdp)
tcp_and_udp_ports_share_their_fields_and_need_their_protocol = (refl, refl, refl, refl, refl)

abbrev unwritten : List NamedField
unwritten = name.InPort ∷ name.DlType ∷ name.NwProto ∷ name.ArpOp ∷ name.IpFrag ∷ name.IcmpType ∷ name.IcmpCode
    ∷ name.Icmpv6Type ∷ name.Icmpv6Code ∷ []

what_decides_how_a_frame_is_parsed_is_never_written : list_all (λ n. nat_le (named n).writable 0) unwritten ≡ true
what_decides_how_a_frame_is_parsed_is_never_written = refl

-- ---- soundness

abbrev whole : NamedField → ℕ → Slice
whole n high = record { name = n; low = 0; high = high }

a_slice_ends_below_the_width_of_its_name :
    (is_sound (OutputField (whole name.Reg0 31)) ≡ true) × (is_sound (OutputField (whole name.Reg0 32)) ≡ false)
a_slice_ends_below_the_width_of_its_name = (refl, refl)

a_slice_has_a_bit : is_sound (OutputField (record { name = name.Reg0; low = 5; high = 4 })) ≡ false
a_slice_has_a_bit = refl

a_move_is_between_slices_of_one_width :
    (is_sound (Move (whole name.Reg0 15) (whole name.TpSrc 15)) ≡ true)
    × (is_sound (Move (whole name.Reg0 15) (whole name.TpSrc 7)) ≡ false)
a_move_is_between_slices_of_one_width = (refl, refl)

a_move_reads_what_it_may_not_write :
    (is_sound (Move (whole name.InPort 15) (whole name.Reg0 15)) ≡ true)
    × (is_sound (Move (whole name.Reg0 15) (whole name.InPort 15)) ≡ false)
a_move_reads_what_it_may_not_write = (refl, refl)

a_name_that_is_printed_alone_is_in_no_action :
    (is_sound (OutputField (whole name.VlanTpid 15)) ≡ false)
    × (is_sound (Move (whole name.VlanTci2 15) (whole name.Reg0 15)) ≡ false)
    × (is_sound (Set name.VlanTpid2 0x8100 0xffff) ≡ false)
a_name_that_is_printed_alone_is_in_no_action = (refl, refl, refl)

a_pushed_tag_has_one_of_two_types :
    (is_sound (PushVlan 0x8100) ≡ true) × (is_sound (PushVlan 0x88a8) ≡ true) × (is_sound (PushVlan 0x9100) ≡ false)
a_pushed_tag_has_one_of_two_types = (refl, refl, refl)

a_set_is_within_its_name :
    (is_sound (Set name.VlanVid 0x1fff 0x1fff) ≡ true) × (is_sound (Set name.VlanVid 0x2000 0x1fff) ≡ false)
    × (is_sound (Set name.VlanVid 0x1fff 0x2000) ≡ false)
a_set_is_within_its_name = (refl, refl, refl)

a_set_of_a_field_that_is_never_written_is_unsound : is_sound (Set name.NwProto 6 0xff) ≡ false
a_set_of_a_field_that_is_never_written_is_unsound = refl

tables_end_at_254 :
    (is_sound (Resubmit 254) ≡ true) × (is_sound (Resubmit 255) ≡ false) × (is_sound (Goto 254) ≡ true)
    × (is_sound (Goto 255) ≡ false)
tables_end_at_254 = (refl, refl, refl, refl)

vlans_end_at_4095_and_priorities_at_7 :
    (is_sound (SetVid 4095) ≡ true) × (is_sound (SetVid 4096) ≡ false) × (is_sound (SetPcp 7) ≡ true)
    × (is_sound (SetPcp 8) ≡ false)
vlans_end_at_4095_and_priorities_at_7 = (refl, refl, refl, refl)
