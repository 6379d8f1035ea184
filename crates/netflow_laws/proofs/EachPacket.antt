-- What holds of each counted packet of a run, and how many there are at most.
use Rattle.std.proofs.Common.{◌≡◌, ℕ, ◌≤◌, List, [], ◌∷◌, length, All, refl, arith}
use Rattle.std.specs.List.{flat_map}
use Rattle.std.proofs.lemmas.List.{length-append}
use Rattle.std.proofs.lemmas.List.Elements.{All-nil, All-cons, All-head, All-tail, All-append}
use Rattle.spec_frames.specs.declared.layout.L3.{L3}
use Rattle.spec_frames.specs.declared.layout.L3.TheVariants as network
use Rattle.spec_frames.specs.Layout.{layout_of}
use Rattle.spec_case.specs.declared.arrival.Arrival.{Arrival}
use Rattle.spec_case.specs.Run.{Run, frame_at}
use Rattle.spec_netflow.specs.Flows.{Decided, Flow, uptime, alone, if_ipv4, packet_of}

by_header : (P : Flow → Type 0) (flow : ℕ → Flow) (l3 : L3) → ((at : ℕ) → l3 ≡ network.Ipv4 at → P (flow at)) → All P (if_ipv4 flow l3)
by_header P flow network.None each = All-nil P
by_header P flow (network.Arp at) each = All-nil P
by_header P flow (network.Ipv4 at) each = All-cons P (flow at) [] (each at refl) (All-nil P)
by_header P flow (network.Ipv6 at) each = All-nil P

one_at_most : (flow : ℕ → Flow) (l3 : L3) → length (if_ipv4 flow l3) ≤ 1
one_at_most flow network.None = omega arith
one_at_most flow (network.Arp at) = omega arith
one_at_most flow (network.Ipv4 at) = omega arith
one_at_most flow (network.Ipv6 at) = omega arith

module _ (run : Run) (decided : Decided) where
  -- the packet of an arrival that has its IPv4 header at an offset
  abbrev pub packet_at : Arrival → ℕ → Flow
  packet_at a at =
      let frame = frame_at run a.port a.place in
      alone (decided a.port a.place) a.port (uptime run frame.time) frame.bytes at

  -- what holds of the packet of an arrival, if it has one
  abbrev pub OfPacket : (Flow → Type 0) → Arrival → Type 0
  OfPacket P a = (at : ℕ) → (layout_of (frame_at run a.port a.place).bytes).l3 ≡ network.Ipv4 at → P (packet_at a at)

  pub each_packet : (P : Flow → Type 0) (came : List Arrival) → All (OfPacket P) came → All P (flat_map (packet_of run decided) came)
  each_packet P [] each = All-nil P
  each_packet P (a ∷ came) each =
      All-append P (packet_of run decided a) (flat_map (packet_of run decided) came)
      (by_header P (packet_at a) (layout_of (frame_at run a.port a.place).bytes).l3 (All-head (OfPacket P) a came each))
      (each_packet P came (All-tail (OfPacket P) a came each))

  pub packets_at_most : (came : List Arrival) → length (flat_map (packet_of run decided) came) ≤ length came
  packets_at_most [] = omega arith
  packets_at_most (a ∷ came) =
      let here = one_at_most (packet_at a) (layout_of (frame_at run a.port a.place).bytes).l3 in
      let rest = packets_at_most came in
      omega (arith, here, rest, length-append (packet_of run decided a) (flat_map (packet_of run decided) came))
