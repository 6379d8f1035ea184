-- Worked rows: small runs and their exports, byte by byte, and what is read from bytes.
use Rattle.std.specs.Prelude.{◌≡◌, ℕ, zero, suc, ◌+◌, ◌*◌, ◌^◌, false, List, [], ◌∷◌, ◌++◌, length, map, take, drop, replicate, slice_set, Ok, Err, refl}
use Rattle.std.specs.List.{range_with_len}
use Rattle.spec_base.specs.Bytes.{big_endian, big_endian_at}
use Rattle.spec_keys.specs.Keys.{none, same}
use Rattle.spec_actions.specs.declared.action.DpAction.TheVariants.{Output, PopVlan}
use Rattle.spec_pcap.specs.Pcap.{Frame}
use Rattle.spec_frames.specs.Ethernet.{is_tag_at, tag_count, tci_at, carried, carried_by}
use Rattle.spec_frames.specs.Arp.{is_arp}
use Rattle.spec_frames.specs.Ipv4.{is_ipv4, ipv4}
use Rattle.spec_frames.specs.Ipv6.{ipv6, upper_layer}
use Rattle.spec_frames.specs.Network.{network_at}
use Rattle.spec_frames.specs.Transport.{transport}
use Rattle.spec_frames.specs.Layout.{layout_of}
use Rattle.spec_frames.specs.Key.{with_transport, with_network, key_of}
use Rattle.spec_case.specs.Run.{Run, frames_in}
use Rattle.spec_base.specs.Sorting.{insert_by, sort_by}
use Rattle.spec_case.specs.Arrivals.{arrivals_at, arrivals_in}
use Rattle.spec_netflow.specs.declared.flow_record.FlowRecord.{FlowRecord}
use Rattle.spec_netflow.specs.declared.fault.NetflowFault.TheVariants.{Short, Version, Count, Sequence}
use Rattle.spec_netflow.specs.Flows.{Decided, Flow, first_output, with_packet, flows_of, flows}
use Rattle.spec_netflow.specs.Datagrams.{header, record_bytes, datagram_fault, record_at, flows_from, flows_in, netflow_bytes}

-- ---- runs

abbrev frame_of : ℕ → List ℕ → Frame
frame_of time bytes = record { time = time; bytes = bytes }

-- an IPv4 packet from 10.0.0.1 to 10.0.0.2 by its type of service and total length, its fragment word, and its protocol
abbrev packet : ℕ → ℕ → ℕ → ℕ → List ℕ → List ℕ
packet tos total fragment protocol after =
    big_endian 12 0x000000000002000000000001 ++ (big_endian 2 0x0800 ++ ((0x45 ∷ tos ∷ big_endian 2 total)
    ++ (big_endian 2 0 ++ (big_endian 2 fragment ++ ((64 ∷ protocol ∷ []) ++ (big_endian 10 0x0000_0a000001_0a000002 ++ after))))))

abbrev udp : ℕ → List ℕ
udp source = packet 0 28 0 17 (big_endian 2 source ++ big_endian 6 0x0035_0008_0000)

abbrev tcp : ℕ → List ℕ
tcp flags = packet 0 40 0 6 (big_endian 12 0x03e8_0035_00000001_00000000 ++ ((0x50 ∷ flags ∷ []) ++ big_endian 6 0x2000_0000_0000))

-- so many seconds, and a part of one in nanoseconds
abbrev at : ℕ → ℕ → ℕ
at seconds part = seconds * 1000000000 + part

-- Frames that come in at port 1, and others that do at port 2.
abbrev run_of : List Frame → List Frame → Run
run_of first others = record {
  ports = 1 ∷ 2 ∷ [];
  edits = [];
  bundles = [];
  syncs = [];
  traces = record { nanos = false; frames = first } ∷ record { nanos = false; frames = others } ∷ [];
  flow_limit = 0;
  steps = [];
}

abbrev to_port_2 : Decided
to_port_2 port place = Output 2 ∷ []

abbrev nowhere : Decided
nowhere port place = []

unfoldable told : Run → Decided → List FlowRecord
unfolding none same big_endian_at is_tag_at tag_count tci_at carried carried_by is_arp is_ipv4 ipv4 ipv6 upper_layer network_at transport layout_of with_transport with_network key_of frames_in arrivals_at arrivals_in insert_by sort_by first_output with_packet
told run decided = flows run decided

unfoldable written : Run → Decided → List ℕ
unfolding none same big_endian_at is_tag_at tag_count tci_at carried carried_by is_arp is_ipv4 ipv4 ipv6 upper_layer network_at transport layout_of with_transport with_network key_of frames_in arrivals_at arrivals_in insert_by sort_by first_output with_packet header record_bytes
written run decided = netflow_bytes run decided

-- ---- what is written

-- a datagram at 3 s, 2,000 ms after the first frame, with one flow of two packets and 56 octets
abbrev datagram : List ℕ
datagram =
    big_endian 24 0x0005_0001_000007d0_00000003_00000000_00000000_00000000
    ++ big_endian 48 0x0a000001_0a000002_00000000_0001_0002_00000002_00000038_00000000_000007d0_03e8_0035_00_00_11_00_0000000000000000

one_flow_of_two_frames : written (run_of (frame_of (at 1 0) (udp 1000) ∷ frame_of (at 3 0) (udp 1000) ∷ []) []) to_port_2 ≡ datagram
unfolding written
one_flow_of_two_frames = refl

a_run_without_frames_has_no_datagram : written (run_of [] []) to_port_2 ≡ []
unfolding written
a_run_without_frames_has_no_datagram = refl

-- a frame of the type 0x88b5 for local experiments (IEEE 802)
what_is_not_ipv4_is_not_counted :
    written (run_of (frame_of (at 1 0) (big_endian 14 0x000000000002000000000001_88b5) ∷ []) []) to_port_2 ≡ []
unfolding written
what_is_not_ipv4_is_not_counted = refl

-- 31 frames at once, with the source ports 1000 to 1030
abbrev of_many_ports : List ℕ
of_many_ports = written (run_of (map (λ source. frame_of (at 1 0) (udp source)) (range_with_len 1000 31)) []) to_port_2

a_datagram_has_30_flows_at_most :
    (length of_many_ports ≡ 1536)
    × ((take 24 of_many_ports ≡ big_endian 24 0x0005_001e_00000000_00000001_00000000_00000000_00000000)
    × (take 24 (drop 1464 of_many_ports) ≡ big_endian 24 0x0005_0001_00000000_00000001_00000000_0000001e_00000000))
unfolding written
a_datagram_has_30_flows_at_most = (refl, (refl, refl))

-- ---- flows

-- what is told of a flow of the packets from 10.0.0.1 to 10.0.0.2, with one packet of UDP where nothing else is said
abbrev flow : FlowRecord
flow = record {
  src = 0x0a000001;
  dst = 0x0a000002;
  input = 1;
  output = 2;
  packets = 1;
  octets = 28;
  first = 0;
  last = 0;
  sport = 1000;
  dport = 53;
  flags = 0;
  proto = 17;
  tos = 0;
}

-- the frame of port 2 comes between those of port 1, one and a half milliseconds after the first
flows_of_two_ports_are_apart_and_stand_by_their_first_frames :
    told (run_of (frame_of (at 1 0) (udp 1000) ∷ frame_of (at 2 0) (udp 1000) ∷ []) (frame_of (at 1 1500000) (udp 1000) ∷ [])) to_port_2
    ≡ record flow { packets = 2; octets = 56; last = 1000 } ∷ record flow { input = 2; first = 1; last = 1 } ∷ []
unfolding told
flows_of_two_ports_are_apart_and_stand_by_their_first_frames = refl

types_of_service_are_apart :
    told (run_of (frame_of (at 1 0) (packet 0xb8 20 0 17 []) ∷ frame_of (at 1 0) (packet 0 20 0 17 []) ∷ []) []) nowhere
    ≡ map (λ tos. record flow { tos = tos; octets = 20; sport = 0; dport = 0; output = 0 }) (0xb8 ∷ 0 ∷ [])
unfolding told
types_of_service_are_apart = refl

-- SYN, and then FIN and ACK; and RST in a first fragment, which has the header but shows no ports
control_bits_are_joined :
    told (run_of (frame_of (at 1 0) (tcp 2) ∷ frame_of (at 1 0) (tcp 0x11) ∷ frame_of (at 1 0) (packet 0 40 0x2000 6 (drop 34 (tcp 4))) ∷ []) []) to_port_2
    ≡ record flow { packets = 2; octets = 80; flags = 0x13; proto = 6 } ∷ record flow { octets = 40; flags = 4; proto = 6; sport = 0; dport = 0 } ∷ []
unfolding told
control_bits_are_joined = refl

-- an echo request, and an unreachable port
type_and_code_are_the_port_of_icmp :
    told (run_of (map (λ code. frame_of (at 1 0) (packet 0 28 0 1 (big_endian 8 (code * 2 ^ 48)))) (0x0800 ∷ 0x0303 ∷ [])) []) to_port_2
    ≡ map (λ code. record flow { proto = 1; sport = 0; dport = code }) (0x0800 ∷ 0x0303 ∷ [])
unfolding told
type_and_code_are_the_port_of_icmp = refl

-- the first frame of a port is sent to port 3 and then to port 2, and each other one to port 4
abbrev to_more_ports : Decided
to_more_ports port zero = []
to_more_ports port (suc zero) = PopVlan ∷ Output 3 ∷ Output 2 ∷ []
to_more_ports port (suc (suc place)) = Output 4 ∷ []

the_first_output_of_the_first_frame_is_told :
    told (run_of (frame_of (at 1 0) (udp 1000) ∷ frame_of (at 1 0) (udp 1000) ∷ []) []) to_more_ports
    ≡ record flow { output = 3; packets = 2; octets = 56 } ∷ []
unfolding told
the_first_output_of_the_first_frame_is_told = refl

-- 2^32 milliseconds after the first frame, and one more
uptime_begins_anew_after_32_bits :
    told (run_of (frame_of 0 (udp 1000) ∷ frame_of (4294967297 * 1000000) (udp 1000) ∷ []) []) to_port_2
    ≡ record flow { packets = 2; octets = 56; last = 1 } ∷ []
unfolding told
uptime_begins_anew_after_32_bits = refl

abbrev with_octets : ℕ → List ℕ → Flow
with_octets octets class = record { class = class; told = record flow { octets = octets } }

-- the flow of class 1 that came first has room again, but isn't the newest
a_full_flow_ends :
    map (λ (f : Flow). f.told.octets)
    (flows_of (with_octets 4294967290 (1 ∷ []) ∷ with_octets 5 (1 ∷ []) ∷ with_octets 1 (1 ∷ []) ∷ with_octets 7 (2 ∷ []) ∷ with_octets 9 (1 ∷ []) ∷ []))
    ≡ 4294967295 ∷ 10 ∷ 7 ∷ []
unfolding with_packet same
a_full_flow_ends = refl

the_newest_flow_is_joined :
    map (λ (f : Flow). f.told.octets)
    (flows_of (with_octets 4294967290 (1 ∷ []) ∷ with_octets 6 (1 ∷ []) ∷ with_octets 1 (1 ∷ []) ∷ []))
    ≡ 4294967290 ∷ 7 ∷ []
unfolding with_packet same
the_newest_flow_is_joined = refl

-- ---- what is read

what_was_written_is_read : flows_in datagram ≡ Ok (record flow { packets = 2; octets = 56; last = 2000 } ∷ [])
unfolding flows_in flows_from datagram_fault record_at big_endian_at
what_was_written_is_read = refl

no_bytes_have_no_flows : flows_in [] ≡ Ok []
unfolding flows_in flows_from
no_bytes_have_no_flows = refl

-- the second datagram says that one record stands before it
abbrev two_datagrams : List ℕ
two_datagrams = datagram ++ slice_set datagram 19 1

datagrams_are_read_in_turn : flows_in two_datagrams ≡ Ok (replicate 2 (record flow { packets = 2; octets = 56; last = 2000 }))
unfolding flows_in flows_from datagram_fault record_at big_endian_at
datagrams_are_read_in_turn = refl

-- addresses of the next hop, and the times of the header, say nothing
what_is_written_as_0_is_not_looked_at : flows_in (slice_set (slice_set datagram 7 9) 35 9) ≡ flows_in datagram
unfolding flows_in flows_from datagram_fault record_at big_endian_at
what_is_written_as_0_is_not_looked_at = refl

a_header_is_cut : (flows_in (take 23 datagram) ≡ Err (Short 0)) × (flows_in (take 95 two_datagrams) ≡ Err (Short 72))
unfolding flows_in flows_from datagram_fault big_endian_at
a_header_is_cut = (refl, refl)

a_record_is_cut : flows_in (take 71 datagram) ≡ Err (Short 0)
unfolding flows_in flows_from datagram_fault big_endian_at
a_record_is_cut = refl

another_version : flows_in (slice_set datagram 1 9) ≡ Err (Version 0)
unfolding flows_in flows_from datagram_fault big_endian_at
another_version = refl

no_records_and_too_many : (flows_in (slice_set datagram 3 0) ≡ Err (Count 0)) × (flows_in (slice_set datagram 3 31) ≡ Err (Count 0))
unfolding flows_in flows_from datagram_fault big_endian_at
no_records_and_too_many = (refl, refl)

a_datagram_is_missing : (flows_in (slice_set datagram 19 1) ≡ Err (Sequence 0)) × (flows_in (datagram ++ datagram) ≡ Err (Sequence 72))
unfolding flows_in flows_from datagram_fault big_endian_at
a_datagram_is_missing = (refl, refl)

-- what stands first in a header is tested first, and then the number of bytes
faults_have_an_order :
    (flows_in (slice_set (slice_set datagram 1 9) 3 0) ≡ Err (Version 0))
    × ((flows_in (slice_set (slice_set datagram 3 0) 19 1) ≡ Err (Count 0))
    × ((flows_in (take 71 (slice_set datagram 19 1)) ≡ Err (Sequence 0)) × (flows_in (take 23 (slice_set datagram 1 9)) ≡ Err (Short 0))))
unfolding flows_in flows_from datagram_fault big_endian_at
faults_have_an_order = (refl, (refl, (refl, refl)))
