-- The flows of a run: its IPv4 packets by class (Cisco, "NetFlow Export Datagram Formats", version 5).
use Rattle.std.specs.Prelude.{ℕ, ◌+◌, ◌-◌, ◌*◌, ◌/◌, ◌%◌, ◌^◌, Bool, ◌&&◌, not, ◌==◌, nat_le, if◌then◌else◌, List, [], ◌∷◌, length, map, filter, fold, slice_index, slice_get, bit_or}
use Rattle.std.specs.List.{flat_map, list_any, sum_by}
use Rattle.std.specs.Option.{option_map_or}
use Rattle.spec_keys.specs.declared.field_id.FieldId.{FieldId}
use Rattle.spec_keys.specs.declared.field_id.FieldId.TheVariants.{InPort, NwSrc, NwDst, NwProto, NwTos, TpSrc, TpDst}
use Rattle.spec_keys.specs.Keys.{value_of, same}
use Rattle.spec_keys.specs.Protocols.{icmp_protocol}
use Rattle.spec_actions.specs.declared.action.DpAction.{DpAction}
use Rattle.spec_actions.specs.declared.action.DpAction.TheVariants.{Output}
use Rattle.spec_pcap.specs.Pcap.{second}
use Rattle.spec_frames.specs.declared.layout.L3.{L3}
use Rattle.spec_frames.specs.declared.layout.L3.TheVariants as network
use Rattle.spec_frames.specs.declared.layout.L4.{L4}
use Rattle.spec_frames.specs.declared.layout.L4.TheVariants as transport
use Rattle.spec_frames.specs.Ipv4.{total_size}
use Rattle.spec_frames.specs.Layout.{layout_of}
use Rattle.spec_frames.specs.Key.{key_of}
use Rattle.spec_case.specs.declared.arrival.Arrival.{Arrival}
use Rattle.spec_case.specs.Run.{Run, frame_at}
use Rattle.spec_case.specs.Arrivals.{arrivals, in_order}
use Rattle.spec_netflow.specs.declared.flow_record.FlowRecord.{FlowRecord}
use Rattle.spec_netflow.specs.declared.export_time.ExportTime.{ExportTime}

-- the actions that were decided for the frame of a port and a place
abbrev pub Decided : Type 0
Decided = ℕ → ℕ → List DpAction

-- a flow: the numbers that its packets have in common, and what is told of it
pub record Flow : Type 0 where
  pub class : List ℕ
  pub told : FlowRecord

-- ---- times

abbrev pub came_in : Run → List Arrival
came_in run = in_order (arrivals run)

-- when the frame came in that has this index among the frames of all ports in their order; 0 where there is none
abbrev pub time_at : Run → ℕ → ℕ
time_at run index = option_map_or (λ (a : Arrival). (frame_at run a.port a.place).time) (slice_get (came_in run) index) 0

-- the least and the greatest time of a frame
abbrev pub first_time : Run → ℕ
first_time run = time_at run 0

abbrev pub last_time : Run → ℕ
last_time run = time_at run (length (came_in run) - 1)

-- the whole milliseconds from the first frame to a time, in 32 bits
abbrev pub millisecond : ℕ
millisecond = 1000000

abbrev pub uptime : Run → ℕ → ℕ
uptime run time = (time - first_time run) / millisecond % 2 ^ 32

-- a run is exported at the time of its last frame
abbrev pub export_time : Run → ExportTime
export_time run = record {
  uptime = uptime run (last_time run);
  seconds = last_time run / second;
  nanoseconds = last_time run % second;
}

-- ---- one packet

-- packets of a flow came in at one port, and have the same addresses, protocol, type of service and ports
abbrev pub class_fields : List FieldId
class_fields = InPort ∷ NwSrc ∷ NwDst ∷ NwProto ∷ NwTos ∷ TpSrc ∷ TpDst ∷ []

abbrev pub class_of : List ℕ → List ℕ
class_of key = map (value_of key) class_fields

-- the ports that are told; of ICMP the one is 0, and the other has the type and the code
abbrev pub source_port : List ℕ → ℕ
source_port key = if value_of key NwProto == icmp_protocol then 0 else value_of key TpSrc

abbrev pub destination_port : List ℕ → ℕ
destination_port key =
    if value_of key NwProto == icmp_protocol then value_of key TpSrc * 256 + value_of key TpDst else value_of key TpDst

-- the control bits of a TCP header (RFC 9293, 3.1)
abbrev pub control_bits_at : ℕ
control_bits_at = 13

abbrev pub control_bits : List ℕ → L4 → ℕ
control_bits frame (transport.Tcp at) = slice_index frame (at + control_bits_at)
control_bits frame transport.None = 0
control_bits frame (transport.Udp at) = 0
control_bits frame (transport.Icmp at) = 0
control_bits frame (transport.Icmp6 at) = 0

-- the port of the first output, or 0
unfoldable pub first_output : List DpAction → ℕ
first_output [] = 0
first_output (Output port ∷ actions) = port
first_output (action ∷ actions) = first_output actions

-- the flow of one packet alone, whose frame came in at an uptime and has an IPv4 header at an offset
abbrev pub alone : List DpAction → ℕ → ℕ → List ℕ → ℕ → Flow
alone actions port up frame at =
    let key = key_of port frame in
    record {
      class = class_of key;
      told = record {
        src = value_of key NwSrc;
        dst = value_of key NwDst;
        input = port;
        output = first_output actions;
        packets = 1;
        octets = total_size frame at;
        first = up;
        last = up;
        sport = source_port key;
        dport = destination_port key;
        flags = control_bits frame (layout_of frame).l4;
        proto = value_of key NwProto;
        tos = value_of key NwTos;
      };
    }

-- that of a frame with this network header, if it is IPv4
abbrev pub if_ipv4 : (ℕ → Flow) → L3 → List Flow
if_ipv4 flow (network.Ipv4 at) = flow at ∷ []
if_ipv4 flow network.None = []
if_ipv4 flow (network.Arp at) = []
if_ipv4 flow (network.Ipv6 at) = []

abbrev pub packet_of : Run → Decided → Arrival → List Flow
packet_of run decided a =
    let frame = frame_at run a.port a.place in
    if_ipv4 (alone (decided a.port a.place) a.port (uptime run frame.time) frame.bytes) (layout_of frame.bytes).l3

-- the counted packets: those of IPv4, by time, port and place
abbrev pub packets : Run → Decided → List Flow
packets run decided = flat_map (packet_of run decided) (came_in run)

-- ---- flows

-- what is told of a flow, and of one more packet in it
abbrev pub joined : FlowRecord → FlowRecord → FlowRecord
joined flow packet = record flow {
  packets = flow.packets + packet.packets;
  octets = flow.octets + packet.octets;
  last = packet.last;
  flags = bit_or flow.flags packet.flags;
}

abbrev pub is_of : List ℕ → Flow → Bool
is_of class flow = same flow.class class

-- the most octets of a flow
abbrev pub most_octets : ℕ
most_octets = 2 ^ 32 - 1

abbrev pub has_room : Flow → Flow → Bool
has_room flow packet = nat_le (flow.told.octets + packet.told.octets) most_octets

-- whether a flow before others is the newest of the packet's class, and has room for it
abbrev pub takes : Flow → List Flow → Flow → Bool
takes flow others packet =
    is_of packet.class flow && (not (list_any (is_of packet.class) others) && has_room flow packet)

-- a packet joins the newest flow of its class, if that has room; else it begins a flow
unfoldable pub with_packet : List Flow → Flow → List Flow
with_packet [] packet = packet ∷ []
with_packet (flow ∷ others) packet =
    if takes flow others packet then record flow { told = joined flow.told packet.told } ∷ others
    else flow ∷ with_packet others packet

-- the flows of packets, in the order of their first ones
abbrev pub flows_of : List Flow → List Flow
flows_of packets = fold with_packet [] packets

-- what is told of the flows of a run
abbrev pub flows : Run → Decided → List FlowRecord
flows run decided = map (λ (f : Flow). f.told) (flows_of (packets run decided))

-- ---- sums

-- how many packets these have, and how many octets
abbrev pub packet_sum : List Flow → ℕ
packet_sum flows = sum_by (λ (f : Flow). f.told.packets) flows

abbrev pub octet_sum : List Flow → ℕ
octet_sum flows = sum_by (λ (f : Flow). f.told.octets) flows

-- those of a class
abbrev pub of_class : List ℕ → List Flow → List Flow
of_class class flows = filter (is_of class) flows
