-- Worked rows: the outputs of translations, and why a law asks for what it asks.
use Rattle.std.specs.Prelude.{◌≡◌, ℕ, List, [], ◌∷◌, ◌++◌, map, refl}
use Rattle.spec_base.specs.Bytes.{big_endian, big_endian_at}
use Rattle.spec_exec.specs.Checksum.{updated}
use Rattle.spec_keys.specs.declared.field_id.FieldId.TheVariants as field
use Rattle.spec_keys.specs.Keys.{none, masked, same, value_of}
use Rattle.spec_actions.specs.declared.named_field.NamedField.TheVariants as name
use Rattle.spec_actions.specs.declared.action.OfAction.{OfAction}
use Rattle.spec_actions.specs.declared.action.OfAction.TheVariants.{Output, InPort, Flood, Resubmit, Set, DecTtl, PushVlan, PopVlan}
use Rattle.spec_tables.specs.Rules.{Rule, winner}
use Rattle.spec_tables.proofs.Packets as packets
use Rattle.spec_tables.proofs.Packets.{Stated, is}
use Rattle.spec_frames.specs.Ethernet.{is_tag_at, tag_count, tci_at, carried, carried_by}
use Rattle.spec_frames.specs.Ipv4.{is_ipv4, ipv4}
use Rattle.spec_frames.specs.Network.{network_at}
use Rattle.spec_frames.specs.Transport.{transport}
use Rattle.spec_frames.specs.Layout.{layout_of}
use Rattle.spec_frames.specs.Key.{with_transport, with_network, key_of}
use Rattle.spec_xlate.specs.Needs.{is_met}
use Rattle.spec_xlate.specs.Tags.{outer_tags, commit_tags}
use Rattle.spec_xlate.specs.Commit.{commit, commit_field, commit_fields}
use Rattle.spec_base.specs.Sorting.{insert_by, sort_by}
use Rattle.spec_xlate.specs.Translation.{switch_of, pipe, act, run, look, last_state, write, output, output_all, emit, emit_all, committed}
use Rattle.spec_xlate.proofs.Shown.{rule}
use Rattle.spec_exec.specs.Rewriting.{after_word, after_words, corrected, set_field, push_tag, pop_tag, after_action}
use Rattle.spec_exec.specs.Sent.{sent}
use Rattle.exec_laws.specs.Become.{KeyedOutput}
use Rattle.exec_laws.specs.Outputs.{act_outputs, run_outputs, look_outputs, translation_outputs}

-- ---- outputs

abbrev ports : List ℕ
ports = 3 ∷ 1 ∷ 2 ∷ []

-- a UDP packet at port 1, with these further fields
abbrev udp : List Stated → List Stated
udp more = is field.InPort 1 ∷ is field.DlType 0x0800 ∷ is field.NwProto 17 ∷ more

-- the outputs of its translation by these rules, and those of packets with these fields at these ports
unfoldable outputs : List Rule → List Stated → List KeyedOutput
unfolding none masked same winner packets.key_of is_met outer_tags commit_tags commit commit_field commit_fields act run look last_state write output output_all emit emit_all committed insert_by sort_by act_outputs run_outputs look_outputs translation_outputs
outputs rules packet = translation_outputs (switch_of rules ports) (packets.key_of packet)

abbrev at_port : ℕ → List Stated → KeyedOutput
at_port n packet = record { key = packets.key_of packet; port = n }

each_output_has_the_key_that_is_then_current :
    outputs
    (rule 1 0 0 [] (Output 2 ∷ Set name.TpDst 54 0xffff ∷ Output 3 ∷ Resubmit 7 ∷ InPort ∷ []) ∷ rule 2 7 0 [] (Output 1 ∷ PushVlan 0x8100 ∷ Flood ∷ []) ∷ [])
    (udp (is field.TpDst 53 ∷ []))
    ≡ at_port 2 (udp (is field.TpDst 53 ∷ []))
    ∷ at_port 3 (udp (is field.TpDst 54 ∷ []))
    ∷ at_port 2 (udp (is field.VlanTci 0x1000 ∷ is field.VlanTpid 0x8100 ∷ is field.TpDst 54 ∷ []))
    ∷ at_port 3 (udp (is field.VlanTci 0x1000 ∷ is field.VlanTpid 0x8100 ∷ is field.TpDst 54 ∷ []))
    ∷ at_port 1 (udp (is field.VlanTci 0x1000 ∷ is field.VlanTpid 0x8100 ∷ is field.TpDst 54 ∷ [])) ∷ []
unfolding none packets.key_of packets.mask_of outputs
each_output_has_the_key_that_is_then_current = refl

a_list_that_ended_has_no_more_outputs :
    outputs (rule 1 0 0 [] (Resubmit 7 ∷ Output 2 ∷ []) ∷ rule 2 7 0 [] (DecTtl ∷ Output 3 ∷ []) ∷ []) (udp (is field.NwTtl 1 ∷ []))
    ≡ at_port 2 (udp (is field.NwTtl 1 ∷ [])) ∷ []
unfolding none packets.key_of packets.mask_of outputs
a_list_that_ended_has_no_more_outputs = refl

a_translation_that_stopped_has_no_outputs : outputs (rule 1 0 0 [] (Output 2 ∷ PushVlan 0x8100 ∷ PushVlan 0x88a8 ∷ PushVlan 0x8100 ∷ []) ∷ []) (udp []) ≡ []
unfolding packets.mask_of outputs
a_translation_that_stopped_has_no_outputs = refl

-- ---- what is sent

-- by these actions, of a frame at port 1: of each piece the port, and of its key vlan_tci and nw_src
unfoldable pieces : List OfAction → List ℕ → List (List ℕ)
unfolding none masked same winner packets.key_of packets.mask_of is_met outer_tags commit_tags commit commit_field commit_fields pipe act run look last_state write output output_all emit emit_all committed insert_by sort_by big_endian_at updated is_tag_at tag_count tci_at carried carried_by is_ipv4 ipv4 network_at transport layout_of with_transport with_network key_of after_word after_words corrected set_field push_tag pop_tag after_action sent
pieces actions frame =
    map (λ piece. piece.port ∷ value_of (key_of 1 piece.bytes) field.VlanTci ∷ value_of (key_of 1 piece.bytes) field.NwSrc ∷ [])
    (sent (pipe (switch_of (rule 1 0 0 [] actions ∷ []) ports) (key_of 1 frame)).actions frame)

abbrev addresses : List ℕ
addresses = big_endian 12 0x000000000002000000000001

-- a datagram of UDP from 10.0.0.1, and a frame that says that it carries IPv4 and ends in its header
abbrev datagram : List ℕ
datagram = addresses ++ (big_endian 2 0x0800 ++ (big_endian 20 0x4500001c00000000401166cf0a0000010a000002 ++ big_endian 8 0x03e8003500080000))

abbrev cut_short : List ℕ
cut_short = addresses ++ (big_endian 2 0x0800 ++ big_endian 12 0x4500001c00000000401166cf)

a_field_whose_header_is_there_is_sent : pieces (Output 2 ∷ Set name.NwSrc 9 0xffffffff ∷ PushVlan 0x8100 ∷ Output 3 ∷ []) datagram ≡ (2 ∷ 0 ∷ 0x0a000001 ∷ []) ∷ (3 ∷ 0x1000 ∷ 9 ∷ []) ∷ []
unfolding pieces
a_field_whose_header_is_there_is_sent = refl

a_field_whose_header_is_not_there_stays : pieces (Set name.NwSrc 9 0xffffffff ∷ PushVlan 0x8100 ∷ Output 2 ∷ Set name.NwSrc 8 0xffffffff ∷ PopVlan ∷ Output 3 ∷ []) cut_short ≡ (2 ∷ 0x1000 ∷ 0 ∷ []) ∷ (3 ∷ 0 ∷ 0 ∷ []) ∷ []
unfolding pieces
a_field_whose_header_is_not_there_stays = refl

-- a frame with the tags of VLAN 5 and, after it, VLAN 6 and VLAN 7
abbrev three_tags : List ℕ
three_tags = addresses ++ big_endian 14 0x81000005810000068100000788b5

-- of each piece the port, and of its key the contents of both tags
unfoldable tags_sent : List OfAction → List ℕ → List (List ℕ)
unfolding none masked same winner packets.key_of packets.mask_of is_met outer_tags commit_tags commit commit_field commit_fields pipe act run look last_state write output output_all emit emit_all committed insert_by sort_by big_endian_at updated is_tag_at tag_count tci_at carried carried_by is_ipv4 ipv4 network_at transport layout_of with_transport with_network key_of after_word after_words corrected set_field push_tag pop_tag after_action sent
tags_sent actions frame =
    map (λ piece. piece.port ∷ value_of (key_of 1 piece.bytes) field.VlanTci ∷ value_of (key_of 1 piece.bytes) field.VlanTci2 ∷ [])
    (sent (pipe (switch_of (rule 1 0 0 [] actions ∷ []) ports) (key_of 1 frame)).actions frame)

a_tag_that_goes_uncovers_the_third : tags_sent (Output 2 ∷ PopVlan ∷ Output 3 ∷ []) three_tags ≡ (2 ∷ 0x1005 ∷ 0x1006 ∷ []) ∷ (3 ∷ 0x1006 ∷ 0x1007 ∷ []) ∷ []
unfolding tags_sent
a_tag_that_goes_uncovers_the_third = refl

a_tag_in_place_of_the_outer_one_is_sent_before_a_third :
    tags_sent (PopVlan ∷ PushVlan 0x88a8 ∷ Output 3 ∷ []) three_tags ≡ (3 ∷ 0x1000 ∷ 0x1006 ∷ []) ∷ []
unfolding tags_sent
a_tag_in_place_of_the_outer_one_is_sent_before_a_third = refl

a_second_tag_is_sent_outside_of_the_first :
    tags_sent (PushVlan 0x8100 ∷ Output 2 ∷ PushVlan 0x88a8 ∷ Output 3 ∷ []) datagram ≡ (2 ∷ 0x1000 ∷ 0 ∷ []) ∷ (3 ∷ 0x1000 ∷ 0x1000 ∷ []) ∷ []
unfolding tags_sent
a_second_tag_is_sent_outside_of_the_first = refl
