-- The numbers of the flows of a run fit into their fields.
use Rattle.std.proofs.Common.{◌≡◌, ℕ, ◌+◌, ◌*◌, ◌^◌, ◌<◌, ◌≤◌, true, ◌&&◌, ◌==◌, List, [], ◌∷◌, length, fold, get_or, slice_index, All, ◌⊎◌, refl, inl, inr, arith}
use Rattle.std.specs.Prelude.{not}
use Rattle.std.specs.List.{list_any}
use Rattle.std.proofs.Math.Nat.{mod-lt}
use Rattle.std.proofs.lemmas.Nat.{or_lt}
use Rattle.std.proofs.lemmas.Bool.{cases_Bool, cases_lt, cond_both, and_parts, eqb-true, leb-true}
use Rattle.std.proofs.lemmas.List.{get_or_past, length-map}
use Rattle.std.proofs.lemmas.List.Elements.{All-nil, All-cons, All-head, All-tail, All-get_or, All-map}
use Rattle.spec_base.specs.Bytes.{big_endian_at}
use Rattle.spec_keys.specs.declared.field_id.FieldId.TheVariants.{NwSrc, NwDst, NwProto, NwTos, TpSrc, TpDst}
use Rattle.spec_keys.specs.Fields.{place_of, widths}
use Rattle.spec_keys.specs.Keys.{IsKey, value_of}
use Rattle.spec_keys.specs.Protocols.{icmp_protocol}
use Rattle.spec_frames.specs.declared.layout.L3.TheVariants.{Ipv4}
use Rattle.spec_frames.specs.declared.layout.L4.{L4}
use Rattle.spec_frames.specs.declared.layout.L4.TheVariants as transport
use Rattle.spec_frames.specs.Ipv4.{total_size}
use Rattle.spec_frames.specs.Layout.{layout_of}
use Rattle.spec_frames.specs.Key.{key_of}
use Rattle.spec_case.specs.declared.arrival.Arrival.{Arrival}
use Rattle.spec_case.specs.Run.{Run, frame_at}
use Rattle.spec_netflow.specs.Flows.{Decided, Flow, came_in, source_port, destination_port, control_bits_at, control_bits, packets, is_of, most_octets, has_room, takes, joined, with_packet, flows_of, flows}
use Rattle.frame_laws.proofs.keys.KeyLaws.{key_of-IsKey}
use Rattle.netflow_laws.specs.Widths.{IsWithin, AreWithin, IsOfWidths, AreOfWidths}
use Rattle.netflow_laws.proofs.EachPacket.{OfPacket, each_packet, packets_at_most}
use Rattle.netflow_laws.proofs.IcmpPorts.{type_and_code}

-- ---- one packet

-- a flow of one packet
record IsPacket (p : Flow) : Type 0 where
  within : IsWithin p.told
  one : p.told.packets ≡ 1

module _ (port : ℕ) (frame : List ℕ) (bytes : All (λ byte. byte < 256) frame) (input : port < 2 ^ 16) where
  abbrev key : List ℕ
  key = key_of port frame

  -- a byte after the end of a frame reads as 0
  byte : (at : ℕ) → slice_index frame at < 256
  byte at = by (cases_lt at (length frame))
    where
      by : (at < length frame) ⊎ (length frame ≤ at) → slice_index frame at < 256
      by (inl l) = All-get_or (λ byte. byte < 256) frame at 0 l bytes
      by (inr l) = rw (get_or_past frame at 0 l) (omega arith)

  is_key : IsKey key
  is_key = key_of-IsKey frame bytes port input

  address-lt : (value_of key NwSrc < 2 ^ 32) × (value_of key NwDst < 2 ^ 32)
  unfolding widths
  address-lt = (is_key.fit (place_of NwSrc), is_key.fit (place_of NwDst))

  protocol-lt : (value_of key NwProto < 2 ^ 8) × (value_of key NwTos < 2 ^ 8)
  unfolding widths
  protocol-lt = (is_key.fit (place_of NwProto), is_key.fit (place_of NwTos))

  port-lt : (value_of key TpSrc < 2 ^ 16) × (value_of key TpDst < 2 ^ 16)
  unfolding widths
  port-lt = (is_key.fit (place_of TpSrc), is_key.fit (place_of TpDst))

  octets-lt : (at : ℕ) → total_size frame at < 2 ^ 32
  unfolding big_endian_at
  octets-lt at = let high = byte (at + 2) in let low = byte (at + 2 + 1) in omega (arith, high, low)

  flags-lt : (header : L4) → control_bits frame header < 2 ^ 8
  flags-lt transport.None = omega arith
  flags-lt (transport.Tcp at) = byte (at + control_bits_at)
  flags-lt (transport.Udp at) = omega arith
  flags-lt (transport.Icmp at) = omega arith
  flags-lt (transport.Icmp6 at) = omega arith

  source-lt : source_port key < 2 ^ 16
  source-lt =
      cond_both (value_of key NwProto == icmp_protocol) 0 (value_of key TpSrc) (λ (n : ℕ). n < 2 ^ 16) (λ icmp. omega arith) (λ other. port-lt.0)

  module _ (at : ℕ) (ipv4 : (layout_of frame).l3 ≡ Ipv4 at) where
    destination-lt : destination_port key < 2 ^ 16
    destination-lt =
        cond_both (value_of key NwProto == icmp_protocol) (value_of key TpSrc * 256 + value_of key TpDst) (value_of key TpDst) (λ (n : ℕ). n < 2 ^ 16)
        (λ icmp.
        let both = type_and_code port frame at byte ipv4 (eqb-true (value_of key NwProto) icmp_protocol icmp) in
        omega (arith, both.0, both.1))
        (λ other. port-lt.1)

packet-within : (run : Run) (decided : Decided) (a : Arrival) → IsOfWidths run decided a → OfPacket run decided IsPacket a
packet-within run decided a fits at ipv4 =
    let frame = (frame_at run a.port a.place).bytes in
    record {
      within = record {
        src = (address-lt a.port frame fits.bytes fits.input).0;
        dst = (address-lt a.port frame fits.bytes fits.input).1;
        input = fits.input;
        output = fits.output;
        packets = omega arith;
        octets = octets-lt a.port frame fits.bytes fits.input at;
        first = mod-lt _ (omega arith);
        last = mod-lt _ (omega arith);
        sport = source-lt a.port frame fits.bytes fits.input;
        dport = destination-lt a.port frame fits.bytes fits.input at ipv4;
        flags = flags-lt a.port frame fits.bytes fits.input (layout_of frame).l4;
        proto = (protocol-lt a.port frame fits.bytes fits.input).0;
        tos = (protocol-lt a.port frame fits.bytes fits.input).1;
      };
      one = refl;
    }

-- ---- flows

-- a flow of so many packets at most
record IsFlow (most : ℕ) (f : Flow) : Type 0 where
  within : IsWithin f.told
  few : f.told.packets ≤ most

module _ (most : ℕ) (p : Flow) (is_packet : IsPacket p) (free : most + 1 < 2 ^ 32) where
  abbrev Next : Flow → Type 0
  Next f = IsFlow (most + 1) f

  one_more : (f : Flow) → IsFlow most f → Next f
  one_more f is_flow = record { within = is_flow.within; few = omega (arith, is_flow.few) }

  with_one : (f : Flow) → IsFlow most f → has_room f p ≡ true → Next (record f { told = joined f.told p.told })
  with_one f is_flow room =
      let few = is_flow.few in
      let one = is_packet.one in
      let octets_fit : f.told.octets + p.told.octets ≤ most_octets = leb-true (f.told.octets + p.told.octets) most_octets room in
      record {
        within = record {
          src = is_flow.within.src;
          dst = is_flow.within.dst;
          input = is_flow.within.input;
          output = is_flow.within.output;
          packets = omega (arith, few, one, free);
          octets = omega (arith, octets_fit);
          first = is_flow.within.first;
          last = is_packet.within.last;
          sport = is_flow.within.sport;
          dport = is_flow.within.dport;
          flags = or_lt 8 f.told.flags p.told.flags is_flow.within.flags is_packet.within.flags;
          proto = is_flow.within.proto;
          tos = is_flow.within.tos;
        };
        few = omega (arith, few, one);
      }

  next : (fs : List Flow) → All (IsFlow most) fs → All Next (with_packet fs p)
  unfolding with_packet
  next [] all = All-cons Next p [] (record { within = is_packet.within; few = omega (arith, is_packet.one) }) (All-nil Next)
  next (f ∷ fs) all =
      let first = All-head (IsFlow most) f fs all in
      let others = All-tail (IsFlow most) f fs all in
      elim (cases_Bool (takes f fs p)) [
        | inl here ↦
            let newest = (and_parts (is_of p.class f) (not (list_any (is_of p.class) fs) && has_room f p) here).1 in
            let room = (and_parts (not (list_any (is_of p.class) fs)) (has_room f p) newest).1 in
            rw here (All-cons Next (record f { told = joined f.told p.told }) fs (with_one f first room) (λ i d lt. one_more (get_or fs i d) (others i d lt)))
        | inr later ↦ rw later (All-cons Next f (with_packet fs p) (one_more f first) (next fs others))
      ]

all_flows : (ps fs : List Flow) (most : ℕ) → All IsPacket ps → All (IsFlow most) fs → most + length ps < 2 ^ 32
    → All (λ (f : Flow). IsWithin f.told) (fold with_packet fs ps)
all_flows [] fs most each all free = λ i d lt. (all i d lt).within
all_flows (p ∷ ps) fs most each all free =
    all_flows ps (with_packet fs p) (most + 1) (All-tail IsPacket p ps each)
    (next most p (All-head IsPacket p ps each) (omega (arith, free)) fs all) (omega (arith, free))

-- ---- how many there are

one_flow_more : (fs : List Flow) (p : Flow) → length (with_packet fs p) ≤ length fs + 1
unfolding with_packet
one_flow_more [] p = omega arith
one_flow_more (f ∷ fs) p = elim (cases_Bool (takes f fs p)) [
  | inl here ↦ rw here (omega arith)
  | inr later ↦ let rest = one_flow_more fs p in rw later (omega (arith, rest))
]

flows_at_most : (ps fs : List Flow) → length (fold with_packet fs ps) ≤ length fs + length ps
flows_at_most [] fs = omega arith
flows_at_most (p ∷ ps) fs =
    let rest = flows_at_most ps (with_packet fs p) in
    let one = one_flow_more fs p in
    omega (arith, rest, one)

-- ---- the flows of a run

module _ (run : Run) (decided : Decided) (all : AreOfWidths run decided) where
  packets_few : length (packets run decided) < 2 ^ 32
  packets_few = let most = packets_at_most run decided (came_in run) in omega (arith, most, all.few)

  pub flows_within : AreWithin (flows run decided)
  flows_within =
      All-map IsWithin (λ (f : Flow). f.told) (flows_of (packets run decided))
      (all_flows (packets run decided) [] 0
      (each_packet run decided IsPacket (came_in run) (λ i a lt. packet-within run decided (get_or (came_in run) i a) (all.each i a lt)))
      (All-nil (IsFlow 0)) (omega (arith, packets_few)))

  pub flows_few : length (flows run decided) ≤ 2 ^ 32
  flows_few =
      let told = length-map (flows_of (packets run decided)) (λ (f : Flow). f.told) in
      let most : length (flows_of (packets run decided)) ≤ 0 + length (packets run decided) = flows_at_most (packets run decided) [] in
      omega (arith, told, most, packets_few)
