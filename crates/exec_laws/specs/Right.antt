-- Checksums that are right, by the words that they cover.
use Rattle.std.specs.Prelude.{◌≡◌, ◌≢◌, ℕ, zero, suc, ◌+◌, ◌-◌, ◌/◌, ◌%◌, ◌<◌, ◌≤◌, List, [], ◌∷◌, ◌++◌, take, All, true}
use Rattle.spec_base.specs.Bytes.{big_endian_at}
use Rattle.spec_keys.specs.Protocols.{tcp_protocol, udp_protocol, icmp6_protocol}
use Rattle.spec_exec.specs.Checksum.{words, ones_sum}
use Rattle.spec_frames.specs.declared.layout.L3.{L3}
use Rattle.spec_frames.specs.declared.layout.L3.TheVariants as l3
use Rattle.spec_frames.specs.declared.layout.L4.{L4}
use Rattle.spec_frames.specs.declared.layout.L4.TheVariants as l4
use Rattle.spec_frames.specs.Ipv4 as ipv4
use Rattle.spec_frames.specs.Transport.{udp_size}
use Rattle.spec_frames.specs.Layout.{layout_of}
use Rattle.frame_laws.specs.Headers.{end_by}
use Rattle.spec_actions.specs.declared.action.DpAction.{DpAction}
use Rattle.spec_exec.specs.Sent.{Piece, sent}

-- Words with their checksum among them are right: their sum in ones' complement is all ones (RFC 1071, section 1).
abbrev pub IsRight : List ℕ → Type 0
IsRight list = ones_sum list ≡ words - 1

abbrev pub AreWords : List ℕ → Type 0
AreWords list = All (λ word. word < words) list

-- ---- words of a frame

-- so many words of 16 bits from an offset on
unfoldable pub words_at : ℕ → List ℕ → ℕ → List ℕ
words_at zero frame at = []
words_at (suc n) frame at = big_endian_at 2 frame at ∷ words_at n frame (at + 2)

-- the words of so many bytes from an offset on, with a byte 0 after them where their number is odd
abbrev pub words_of : ℕ → List ℕ → ℕ → List ℕ
words_of size frame at = words_at ((size + 1) / 2) (take (at + size) frame) at

-- ---- what the checksum of an IPv4 header covers

-- the header at an offset, options included (RFC 791, 3.1)
abbrev pub ipv4_words : List ℕ → ℕ → List ℕ
ipv4_words frame at = words_at (ipv4.header_size frame at / 2) frame at

abbrev pub header_words_by : List ℕ → L3 → List ℕ
header_words_by frame (l3.Ipv4 at) = ipv4_words frame at
header_words_by frame other = []

-- that of the frame, if it has one
abbrev pub header_words : List ℕ → List ℕ
header_words frame = header_words_by frame (layout_of frame).l3

-- ---- what a transport checksum covers

-- The pseudo header of a protocol and of so many bytes. That of IPv4 has the source and the destination, a byte 0 and the
-- protocol, and the size (RFC 9293, 3.1, and RFC 768); that of IPv6 has the source and the destination, the size in four
-- bytes, and three bytes 0 and the protocol (RFC 8200, 8.1).
abbrev pub pseudo_header : List ℕ → L3 → ℕ → ℕ → List ℕ
pseudo_header frame (l3.Ipv4 at) protocol size = words_at 4 frame (at + 12) ++ (protocol ∷ size ∷ [])
pseudo_header frame (l3.Ipv6 at) protocol size = words_at 16 frame (at + 8) ++ (size / words ∷ size % words ∷ 0 ∷ protocol ∷ [])
pseudo_header frame other protocol size = []

-- That of a packet of IPv6 on its way to a final destination, as a routing header has it (RFC 8200, 8.1): the address of
-- the IPv6 header is none of it.
abbrev pub final_header : List ℕ → List ℕ → L3 → ℕ → ℕ → List ℕ
final_header to frame (l3.Ipv6 at) protocol size = words_at 8 frame (at + 8) ++ (to ++ (size / words ∷ size % words ∷ 0 ∷ protocol ∷ []))
final_header to frame other protocol size = []

-- What is covered: a pseudo header, and so many bytes from the transport header on.
abbrev pub covered : (List ℕ → L3 → ℕ → ℕ → List ℕ) → List ℕ → L3 → (protocol size at : ℕ) → List ℕ
covered pseudo frame network protocol size at = pseudo frame network protocol size ++ words_of size frame at

-- TCP (RFC 9293, 3.1), ICMPv6 (RFC 4443, 2.3) and ICMP (RFC 792) reach to the end of the packet, as the IP header gives it.
abbrev pub rest_of : List ℕ → L3 → ℕ → ℕ
rest_of frame network at = end_by frame network - at

-- UDP has a length and a checksum in its header (RFC 768), and reaches as far as the length says.
abbrev pub udp_length : List ℕ → ℕ → ℕ
udp_length frame at = big_endian_at 2 frame (at + 4)

abbrev pub udp_checksum : List ℕ → ℕ → ℕ
udp_checksum frame at = big_endian_at 2 frame (at + 6)

-- by the headers; ICMP over IPv4 is covered without a pseudo header
abbrev pub words_by : (List ℕ → L3 → ℕ → ℕ → List ℕ) → List ℕ → L3 → L4 → List ℕ
words_by pseudo frame network l4.None = []
words_by pseudo frame network (l4.Tcp at) = covered pseudo frame network tcp_protocol (rest_of frame network at) at
words_by pseudo frame network (l4.Udp at) = covered pseudo frame network udp_protocol (udp_length frame at) at
words_by pseudo frame network (l4.Icmp at) = words_of (rest_of frame network at) frame at
words_by pseudo frame network (l4.Icmp6 at) = covered pseudo frame network icmp6_protocol (rest_of frame network at) at

-- in a frame, if it has a transport header
abbrev pub transport_words : List ℕ → List ℕ
transport_words frame = words_by pseudo_header frame (layout_of frame).l3 (layout_of frame).l4

-- in one that is on its way to a final destination
abbrev pub final_words : List ℕ → List ℕ → List ℕ
final_words to frame = words_by (final_header to) frame (layout_of frame).l3 (layout_of frame).l4

-- ---- whether there is a checksum

-- In UDP there is one if it isn't 0 (RFC 768); a length that doesn't count the header itself is malformed.
abbrev pub HasSumBy : List ℕ → L4 → Type 0
HasSumBy frame (l4.Udp at) = (udp_size ≤ udp_length frame at) × (udp_checksum frame at ≢ 0)
HasSumBy frame other = Unit {0}

abbrev pub HasTransportSum : List ℕ → Type 0
HasTransportSum frame = HasSumBy frame (layout_of frame).l4

-- ---- checksums that stay right

-- Words that were right in a frame are right in what it became.
abbrev pub StayRight : (List ℕ → List ℕ) → List ℕ → List ℕ → Type 0
StayRight words_in frame after = IsRight (words_in frame) → IsRight (words_in after)

-- Words that are right in a frame are right in each piece that actions send of it.
abbrev pub AreSentRight : (List ℕ → List ℕ) → List DpAction → List ℕ → Type 0
AreSentRight words_in actions frame =
    IsRight (words_in frame) → All (λ (piece : Piece). IsRight (words_in piece.bytes)) (sent actions frame)

-- The frame has a packet of IPv6, which begins here and is on its way to a final destination.
pub record IsOnItsWay (frame : List ℕ) (begin : ℕ) : Type 0 where
  pub ipv6 : (layout_of frame).l3 ≡ l3.Ipv6 begin
  pub routed : (layout_of frame).routed ≡ true
