-- The input that a number makes (this profile's): 64 rules that look at addresses, 16 that send, one that drops, and
-- 20,000 frames of UDP at four ports.
use Rattle.std.specs.Prelude.{ℕ, ◌+◌, ◌-◌, ◌*◌, ◌/◌, ◌%◌, ◌^◌, false, List, [], ◌∷◌, ◌++◌, map, codes}
use Rattle.std.specs.List.{flat_map, range_with_len}
use Rattle.std.specs.Fmt.{decimal}
use Rattle.std.specs.Fn.{iterate}
use Rattle.spec_base.specs.Bytes.{big_endian}
use Rattle.spec_exec.specs.Checksum.{checksum}
use Rattle.spec_pcap.specs.Pcap.{Frame, second, file_of}

-- ---- numbers

-- A linear congruential generator modulo 2^64, with the multiplier and the increment of MMIX (Knuth, The Art of Computer
-- Programming, volume 2, 3.3.4).
abbrev pub multiplier : ℕ
multiplier = 6364136223846793005

abbrev pub increment : ℕ
increment = 1442695040888963407

abbrev pub after : ℕ → ℕ
after x = (x * multiplier + increment) % 2 ^ 64

-- Of a state the upper 31 bits are drawn: the lower ones repeat too soon.
abbrev pub drawn : ℕ → ℕ
drawn x = x / 2 ^ 33

-- the state after so many draws, of which the first state is the number that makes the input
unfoldable pub state : ℕ → ℕ → ℕ
state number draws = iterate after draws number

-- the draw of this place, from 1
abbrev pub draw : ℕ → ℕ → ℕ
draw number place = drawn (state number place)

-- ---- edits

abbrev pub subnets : ℕ
subnets = 64

abbrev pub subnet_draws : ℕ
subnet_draws = 3

-- the rule of a subnet 10.A.B.0/24, from 0: it puts a number K into a register
abbrev pub subnet_rule : ℕ → ℕ → ℕ → ℕ → List ℕ
subnet_rule i a b k =
    codes "table=0,priority=" ++ (decimal (100 + i) ++ (codes ",ip,nw_dst=10." ++ (decimal a ++ (codes "." ++ (decimal b
    ++ (codes ".0/24,actions=load:" ++ (decimal k ++ codes "->reg0[],resubmit(,1)\n")))))))

abbrev pub subnet_line : ℕ → ℕ → List ℕ
subnet_line number i =
    subnet_rule i (draw number (subnet_draws * i + 1) % 4) (draw number (subnet_draws * i + 2) % 16)
    (draw number (subnet_draws * i + 3) % 16)

-- the rules of so many subnets
unfoldable pub subnet_lines : ℕ → ℕ → List ℕ
subnet_lines number count = flat_map (subnet_line number) (range_with_len 0 count)

abbrev pub ports : ℕ
ports = 4

-- the rule of a number in the register: it sends to one of the ports
abbrev pub register_line : ℕ → List ℕ
register_line k =
    codes "table=1,priority=10,udp,reg0=" ++ (decimal k ++ (codes ",actions=output:" ++ (decimal (k % ports + 1) ++ codes "\n")))

abbrev pub register_values : ℕ
register_values = 16

unfoldable pub register_lines : ℕ → List ℕ
register_lines count = flat_map register_line (range_with_len 0 count)

-- the file of edits
abbrev pub edits_made : ℕ → List ℕ
edits_made number =
    subnet_lines number subnets ++ (register_lines register_values ++ codes "table=0,priority=0,actions=drop\nsync 0\n")

-- ---- frames

abbrev pub frames_of_port : ℕ
frames_of_port = 5000

abbrev pub frame_draws : ℕ
frame_draws = 5

-- the draw of a frame, which is numbered from 0: its first is draw 1
abbrev pub frame_draw : ℕ → ℕ → ℕ → ℕ
frame_draw number i place = draw number (subnet_draws * subnets + frame_draws * i + place)

-- the words of an IPv4 header of 20 bytes before a UDP datagram without payload: version and length, the whole length,
-- no identification and no fragment, TTL 64 and UDP, the checksum, the source and the destination (RFC 791)
abbrev pub header_words : ℕ → ℕ → ℕ → ℕ → ℕ → List ℕ
header_words sum source_high source_low destination_high destination_low =
    0x4500 ∷ 28 ∷ 0 ∷ 0 ∷ 0x4011 ∷ sum ∷ source_high ∷ source_low ∷ destination_high ∷ destination_low ∷ []

-- 10.0.0.(1 + S) sends to 10.C.D.E from port 1000 + P to port 53; the checksum of UDP is left out (RFC 768)
abbrev pub addressed : ℕ → ℕ → ℕ → ℕ → ℕ → List ℕ
addressed s c d e sum = header_words sum 0x0a00 (1 + s) (0x0a00 + c) (d * 2 ^ 8 + e)

abbrev pub packet_words : ℕ → ℕ → ℕ → ℕ → ℕ → List ℕ
packet_words s c d e p = addressed s c d e (checksum (addressed s c d e 0)) ++ ((1000 + p) ∷ 53 ∷ 8 ∷ 0 ∷ [])

abbrev pub ethernet_bytes : List ℕ
ethernet_bytes = 2 ∷ 0 ∷ 0 ∷ 0 ∷ 0 ∷ 2 ∷ 2 ∷ 0 ∷ 0 ∷ 0 ∷ 0 ∷ 1 ∷ 8 ∷ 0 ∷ []

abbrev pub frame_bytes : ℕ → ℕ → ℕ → ℕ → ℕ → List ℕ
frame_bytes s c d e p = ethernet_bytes ++ flat_map (big_endian 2) (packet_words s c d e p)

-- the frame of a number, from 0: one comes in each millisecond
abbrev pub millisecond : ℕ
millisecond = 1000000

abbrev pub made_frame : ℕ → ℕ → Frame
made_frame number i = record {
  time = second + i * millisecond;
  bytes = frame_bytes (frame_draw number i 1 % 200) (frame_draw number i 2 % 4) (frame_draw number i 3 % 16) (frame_draw number i 4 % 256) (frame_draw number i 5 % 1000);
}

-- the first frames of a port, from 1, which are every fourth of all
abbrev pub frame_of_port : ℕ → ℕ → ℕ → Frame
frame_of_port number port n = made_frame number (ports * n + (port - 1))

abbrev pub frames_made : ℕ → ℕ → ℕ → List Frame
frames_made number port count = map (frame_of_port number port) (range_with_len 0 count)

-- the trace of so many frames of a port, that of a port, and those of all
unfoldable pub trace_of : ℕ → ℕ → ℕ → List ℕ
trace_of number port count = file_of false (frames_made number port count)

abbrev pub trace_made : ℕ → ℕ → List ℕ
trace_made number port = trace_of number port frames_of_port

abbrev pub traces_made : ℕ → List (ℕ × List ℕ)
traces_made number = map (λ port. (port, trace_made number port)) (range_with_len 1 ports)
