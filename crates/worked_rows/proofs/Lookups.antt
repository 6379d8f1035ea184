-- Which rule wins, and which bits that consults.
use Rattle.std.proofs.Common.{◌≡◌, ℕ, ◌-◌, ◌^◌, List, [], ◌∷◌, map, None, refl}
use Rattle.std.specs.List.{range_with_len}
use Rattle.spec_keys.specs.declared.field_id.FieldId.TheVariants as field
use Rattle.spec_actions.specs.declared.action.OfAction.{OfAction}
use Rattle.spec_actions.specs.declared.action.OfAction.TheVariants.{Output}
use Rattle.spec_actions.specs.declared.action.DpAction.TheVariants as datapath
use Rattle.spec_tables.specs.declared.edit_word.EditWord.TheVariants.{Add, DeleteStrict}
use Rattle.spec_tables.specs.Rules.{Rule}
use Rattle.spec_tables.specs.Edits.{Edit, after_edits}
use Rattle.spec_tables.proofs.Packets.{Stated, is, begins, has, match_of}
use Rattle.spec_xlate.proofs.Shown.{shown, gives, rule}

-- an Ethernet frame at port 1, from ..:01 to ..:d, of type 0x88b5
abbrev frame : ℕ → List Stated
frame d = is field.InPort 1 ∷ is field.DlSrc 1 ∷ is field.DlDst d ∷ is field.DlType 0x88b5 ∷ []

abbrev ports : List ℕ
ports = 1 ∷ 2 ∷ 3 ∷ []

-- a rule of table 0 and the usual priority
abbrev first : List Stated → List OfAction → Rule
first stated actions = rule 1 0 32768 stated actions

-- ---- no rule

without_rules_a_packet_is_dropped :
    shown [] ports (frame 2)
    ≡ gives [] [] (is field.InPort 1 ∷ is field.DlType 0x88b5 ∷ [])
unfolding shown
without_rules_a_packet_is_dropped = refl

a_rule_that_states_nothing_takes_every_packet :
    shown (first [] (Output 2 ∷ []) ∷ []) ports (frame 2)
    ≡ gives (datapath.Output 2 ∷ []) (1 ∷ []) (is field.InPort 1 ∷ is field.DlType 0x88b5 ∷ [])
unfolding shown
a_rule_that_states_nothing_takes_every_packet = refl

-- ---- prefixes

-- an IPv4 packet at port 1 with TTL 64, of this protocol, source and destination, and ports
abbrev ipv4 : ℕ → ℕ → ℕ → ℕ → ℕ → List Stated
ipv4 protocol source destination from to =
    is field.InPort 1 ∷ is field.DlType 0x0800 ∷ is field.NwSrc source ∷ is field.NwDst destination ∷ is field.NwProto protocol
    ∷ is field.NwTtl 64 ∷ is field.TpSrc from ∷ is field.TpDst to ∷ []

-- UDP from 10.0.0.1 to 192.168.0.1, against a rule for 10.0.0.0/8
one_bit_of_the_address_tells_that_it_is_outside_of_the_prefix :
    shown (first (is field.DlType 0x0800 ∷ begins field.NwDst 0x0a000000 8 ∷ []) (Output 2 ∷ []) ∷ []) ports
    (ipv4 17 0x0a000001 0xc0a80001 1000 53)
    ≡ gives [] [] (is field.InPort 1 ∷ is field.DlType 0x0800 ∷ begins field.NwDst 0x80000000 1 ∷ is field.IpFrag 0 ∷ [])
unfolding shown
one_bit_of_the_address_tells_that_it_is_outside_of_the_prefix = refl

abbrev web_server : List Stated
web_server = is field.DlType 0x0800 ∷ is field.NwProto 6 ∷ is field.NwDst 0x0a000001 ∷ is field.TpDst 80 ∷ []

-- TCP to 10.0.0.2 port 80, against a rule for 10.0.0.1 port 80
thirty_one_bits_tell_a_neighbouring_address_and_no_port_is_read :
    shown (first web_server (Output 2 ∷ []) ∷ []) ports (ipv4 6 0x0a000005 0x0a000002 40000 80)
    ≡ gives [] [] (is field.InPort 1 ∷ is field.DlType 0x0800 ∷ begins field.NwDst 0x0a000002 31 ∷ is field.IpFrag 0 ∷ [])
unfolding shown
thirty_one_bits_tell_a_neighbouring_address_and_no_port_is_read = refl

-- ---- fragments

-- the first fragment of a UDP datagram to port 53, whose key has port 0
a_first_fragment_has_no_port :
    shown (first (is field.DlType 0x0800 ∷ is field.NwProto 17 ∷ is field.TpDst 53 ∷ []) (Output 2 ∷ []) ∷ []) ports
    (is field.IpFrag 1 ∷ ipv4 17 0x0a000001 0x0a000002 0 0)
    ≡ gives [] []
    (is field.InPort 1 ∷ is field.DlType 0x0800 ∷ is field.NwProto 17 ∷ is field.IpFrag 1 ∷ is field.TpDst 0 ∷ [])
unfolding shown
a_first_fragment_has_no_port = refl

-- ---- stages

abbrev to_address_2 : List Rule
to_address_2 = first (is field.InPort 1 ∷ is field.DlDst 2 ∷ []) (Output 2 ∷ []) ∷ []

a_packet_that_matches_consults_the_whole_mask :
    shown to_address_2 ports (frame 2)
    ≡ gives (datapath.Output 2 ∷ []) (1 ∷ []) (is field.InPort 1 ∷ is field.DlDst 2 ∷ is field.DlType 0x88b5 ∷ [])
unfolding shown
a_packet_that_matches_consults_the_whole_mask = refl

a_packet_to_another_address_consults_it_too :
    shown to_address_2 ports (frame 6)
    ≡ gives [] [] (is field.InPort 1 ∷ is field.DlDst 6 ∷ is field.DlType 0x88b5 ∷ [])
unfolding shown
a_packet_to_another_address_consults_it_too = refl

abbrev by_port : List Rule
by_port = rule 1 0 2 (is field.InPort 1 ∷ is field.DlDst 9 ∷ []) (Output 2 ∷ []) ∷ rule 2 0 1 (is field.InPort 2
    ∷ []) (Output 3 ∷ []) ∷ []

at_the_rules_port_the_address_decides :
    shown by_port ports (frame 2)
    ≡ gives [] [] (is field.InPort 1 ∷ is field.DlDst 2 ∷ is field.DlType 0x88b5 ∷ [])
unfolding shown
at_the_rules_port_the_address_decides = refl

at_another_port_the_first_stage_decides :
    shown by_port ports (is field.InPort 2 ∷ is field.DlSrc 1 ∷ is field.DlDst 2 ∷ is field.DlType 0x88b5 ∷ [])
    ≡ gives (datapath.Output 3 ∷ []) (2 ∷ []) (is field.InPort 2 ∷ is field.DlType 0x88b5 ∷ [])
unfolding shown
at_another_port_the_first_stage_decides = refl

-- forty-eight rules, each for one bit of the source address
bits : List Rule
bits = map (λ i. rule i 0 i (has field.DlSrc (2 ^ (i - 1)) (2 ^ (i - 1)) ∷ []) (Output 2 ∷ [])) (range_with_len 1 48)

the_bits_of_many_masks_add_up :
    shown bits ports (frame 2)
    ≡ gives (datapath.Output 2 ∷ []) (1 ∷ []) (is field.InPort 1 ∷ is field.DlSrc 1 ∷ is field.DlType 0x88b5 ∷ [])
unfolding shown bits
the_bits_of_many_masks_add_up = refl

-- ---- edits

abbrev edit : ℕ → List Stated → List OfAction → Edit
edit priority stated actions = record { word = Add; table = None; priority = priority; cookie = None; matching = match_of stated; actions = actions }

-- two rules of equal priority, of which the first is then deleted
abbrev two_then_one : List Edit
two_then_one = edit 5 (is field.InPort 1 ∷ []) (Output 2 ∷ []) ∷ edit 5 (is field.DlDst 2 ∷ []) (Output 3 ∷ [])
    ∷ record (edit 5 (is field.InPort 1 ∷ []) []) { word = DeleteStrict } ∷ []

of_two_rules_of_one_priority_the_older_wins :
    shown (after_edits two_then_one 2) ports (frame 2)
    ≡ gives (datapath.Output 2 ∷ []) (1 ∷ []) (is field.InPort 1 ∷ is field.DlDst 2 ∷ is field.DlType 0x88b5 ∷ [])
unfolding shown after_edits
of_two_rules_of_one_priority_the_older_wins = refl

the_younger_wins_once_the_older_is_deleted :
    shown (after_edits two_then_one 3) ports (frame 2)
    ≡ gives (datapath.Output 3 ∷ []) (2 ∷ []) (is field.InPort 1 ∷ is field.DlDst 2 ∷ is field.DlType 0x88b5 ∷ [])
unfolding shown after_edits
the_younger_wins_once_the_older_is_deleted = refl

-- a rule that takes everything, and then one above it for an address
abbrev one_then_above : List Edit
one_then_above = edit 1 [] (Output 2 ∷ []) ∷ edit 5 (is field.DlDst 9 ∷ []) (Output 3 ∷ []) ∷ []

a_rule_alone_needs_no_address :
    shown (after_edits one_then_above 1) ports (frame 2)
    ≡ gives (datapath.Output 2 ∷ []) (1 ∷ []) (is field.InPort 1 ∷ is field.DlType 0x88b5 ∷ [])
unfolding shown after_edits
a_rule_alone_needs_no_address = refl

a_rule_above_it_makes_the_address_decide :
    shown (after_edits one_then_above 2) ports (frame 2)
    ≡ gives (datapath.Output 2 ∷ []) (1 ∷ []) (is field.InPort 1 ∷ is field.DlDst 2 ∷ is field.DlType 0x88b5 ∷ [])
unfolding shown after_edits
a_rule_above_it_makes_the_address_decide = refl
