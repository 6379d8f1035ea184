-- Rules and packets as they are drawn.
use Rattle.std.specs.Prelude.{◌≡◌, ℕ, ◌%◌, ◌<◌, List}
use Rattle.spec_pcap.specs.Pcap.{Frame}
use Rattle.spec_input.specs.Made.{draw, frame_bytes}
use Rattle.trace_gen.specs.declared.edits.Subnet.{Subnet}
use Rattle.trace_gen.specs.declared.packets.Packet.{Packet}

-- what is drawn from a state on
abbrev pub IsSubnet : ℕ → Subnet → Type 0
IsSubnet state subnet =
    (subnet.second ≡ draw state 1 % 4) × ((subnet.third ≡ draw state 2 % 16) × (subnet.value ≡ draw state 3 % 16))

abbrev pub IsPacket : ℕ → Packet → Type 0
IsPacket state packet =
    (packet.source ≡ draw state 1 % 200) × ((packet.c ≡ draw state 2 % 4) × ((packet.d ≡ draw state 3 % 16)
    × ((packet.e ≡ draw state 4 % 256) × (packet.port ≡ draw state 5 % 1000))))

-- the ranges, in which no word of a header is too great
abbrev pub IsInRange : Packet → Type 0
IsInRange packet =
    (packet.source < 200) × ((packet.c < 4) × ((packet.d < 16) × ((packet.e < 256) × (packet.port < 1000))))

abbrev pub bytes_of : Packet → List ℕ
bytes_of packet = frame_bytes packet.source packet.c packet.d packet.e packet.port

abbrev pub captured_at : ℕ → Packet → Frame
captured_at time packet = record { time = time; bytes = bytes_of packet }
