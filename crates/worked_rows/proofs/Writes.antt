-- Actions that change a packet, and the datapath actions that commit them.
use Rattle.std.proofs.Common.{◌≡◌, ℕ, List, [], ◌∷◌, refl}
use Rattle.spec_keys.specs.declared.field_id.FieldId.TheVariants as field
use Rattle.spec_actions.specs.declared.named_field.NamedField.TheVariants as name
use Rattle.spec_actions.specs.declared.action.OfAction.{OfAction}
use Rattle.spec_actions.specs.declared.action.OfAction.TheVariants.{Output, Resubmit, Set, DecTtl, SetVid}
use Rattle.spec_actions.specs.declared.action.DpAction.TheVariants as datapath
use Rattle.spec_tables.specs.Rules.{Rule}
use Rattle.spec_tables.proofs.Packets.{Stated, is}
use Rattle.spec_xlate.proofs.Shown.{shown, gives, rule}

abbrev frame : ℕ → List Stated
frame d = is field.InPort 1 ∷ is field.DlSrc 1 ∷ is field.DlDst d ∷ is field.DlType 0x88b5 ∷ []

-- a UDP packet from 10.0.0.1 port 1000 to 10.0.0.2 port 53
abbrev udp : ℕ → List Stated
udp ttl =
    is field.InPort 1 ∷ is field.DlSrc 1 ∷ is field.DlDst 2 ∷ is field.DlType 0x0800 ∷ is field.NwSrc 0x0a000001
    ∷ is field.NwDst 0x0a000002 ∷ is field.NwProto 17 ∷ is field.NwTtl ttl ∷ is field.TpSrc 1000 ∷ is field.TpDst 53 ∷ []

abbrev ports : List ℕ
ports = 1 ∷ 2 ∷ 3 ∷ []

-- one rule, for packets of port 1
abbrev doing : List OfAction → List Rule
doing actions = rule 1 0 32768 (is field.InPort 1 ∷ []) actions ∷ []

abbrev at_port_1 : List Stated → List Stated
at_port_1 stated = is field.InPort 1 ∷ stated

-- ---- addresses

abbrev to_address_2 : List Rule
to_address_2 = doing (Set name.DlDst 2 0xffffffffffff ∷ Output 2 ∷ [])

a_write_of_what_is_there_commits_nothing_and_consults_it :
    shown to_address_2 ports (frame 2)
    ≡ gives (datapath.Output 2 ∷ []) (1 ∷ []) (at_port_1 (is field.DlDst 2 ∷ is field.DlType 0x88b5 ∷ []))
unfolding shown
a_write_of_what_is_there_commits_nothing_and_consults_it = refl

-- from ..:07 to ..:02
a_write_commits_the_bits_that_change :
    shown to_address_2 ports (frame 7)
    ≡ gives (datapath.Set field.DlDst 0 5 ∷ datapath.Output 2 ∷ []) (1 ∷ [])
    (at_port_1 (is field.DlDst 7 ∷ is field.DlType 0x88b5 ∷ []))
unfolding shown
a_write_commits_the_bits_that_change = refl

-- to 10.0.0.9
a_write_to_the_source_of_an_ip_packet :
    shown (doing (Set name.NwSrc 0x0a000009 0xffffffff ∷ Output 2 ∷ [])) ports (udp 64)
    ≡ gives (datapath.Set field.NwSrc 8 8 ∷ datapath.Output 2 ∷ []) (1 ∷ [])
    (at_port_1 (is field.DlType 0x0800 ∷ is field.NwSrc 0x0a000001 ∷ is field.IpFrag 0 ∷ []))
unfolding shown
a_write_to_the_source_of_an_ip_packet = refl

-- ---- what a write needs

a_write_to_a_tcp_port_leaves_a_udp_packet :
    shown (doing (Set name.TcpDst 80 0xffff ∷ Output 2 ∷ [])) ports (udp 64)
    ≡ gives (datapath.Output 2 ∷ []) (1 ∷ []) (at_port_1 (is field.DlType 0x0800 ∷ is field.NwProto 17 ∷ is field.IpFrag 0 ∷ []))
unfolding shown
a_write_to_a_tcp_port_leaves_a_udp_packet = refl

-- ---- tags

a_vlan_given_to_an_untagged_frame :
    shown (doing (SetVid 5 ∷ Output 2 ∷ [])) ports (frame 2)
    ≡ gives (datapath.PushVlan 0x8100 0x1005 ∷ datapath.Output 2 ∷ []) (1 ∷ [])
    (at_port_1 (is field.DlType 0x88b5 ∷ is field.VlanTci 0 ∷ is field.VlanTpid 0 ∷ is field.VlanTci2 0 ∷ is field.VlanTpid2 0 ∷ []))
unfolding shown
a_vlan_given_to_an_untagged_frame = refl

-- ---- time to live

a_ttl_of_64_becomes_63 :
    shown (doing (DecTtl ∷ Output 2 ∷ [])) ports (udp 64)
    ≡ gives (datapath.Set field.NwTtl 0x3f 0x7f ∷ datapath.Output 2 ∷ []) (1 ∷ [])
    (at_port_1 (is field.DlType 0x0800 ∷ is field.NwTtl 64 ∷ is field.IpFrag 0 ∷ []))
unfolding shown
a_ttl_of_64_becomes_63 = refl

what_was_sent_before_a_ttl_of_1_ends_the_list_stays_sent :
    shown (doing (Output 2 ∷ DecTtl ∷ Output 3 ∷ [])) ports (udp 1)
    ≡ gives (datapath.Output 2 ∷ []) (1 ∷ []) (at_port_1 (is field.DlType 0x0800 ∷ is field.NwTtl 1 ∷ is field.IpFrag 0 ∷ []))
unfolding shown
what_was_sent_before_a_ttl_of_1_ends_the_list_stays_sent = refl

a_resubmit_goes_on_after_a_list_that_a_ttl_of_1_ended :
    shown
    (rule 1 0 32768 (is field.InPort 1 ∷ []) (Resubmit 1 ∷ Output 3 ∷ [])
    ∷ rule 2 1 32768 [] (DecTtl ∷ Output 2 ∷ []) ∷ [])
    ports (udp 1)
    ≡ gives (datapath.Output 3 ∷ []) (1 ∷ 2 ∷ []) (at_port_1 (is field.DlType 0x0800 ∷ is field.NwTtl 1 ∷ is field.IpFrag 0 ∷ []))
unfolding shown
a_resubmit_goes_on_after_a_list_that_a_ttl_of_1_ended = refl
