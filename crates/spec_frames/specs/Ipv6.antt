-- The header of IPv6 and its extension headers (RFC 8200, 3 and 4).
use Rattle.std.specs.Prelude.{ℕ, zero, suc, ◌+◌, ◌*◌, ◌/◌, ◌%◌, Bool, false, ◌&&◌, ◌||◌, ◌==◌, nat_le, if◌then◌else◌, List, length, slice_index, bit_and, min, Option, Some, None}
use Rattle.std.specs.Option.{option_map}
use Rattle.spec_base.specs.Bytes.{big_endian_at}
use Rattle.spec_frames.specs.declared.headers.Datagram.{Datagram}
use Rattle.spec_frames.specs.declared.headers.UpperLayer.{UpperLayer}
use Rattle.spec_frames.specs.declared.headers.Fragment.{Fragment}
use Rattle.spec_frames.specs.declared.headers.Fragment.TheVariants.{Whole, First, Later}
use Rattle.spec_frames.specs.Ipv4.{version, part}

abbrev pub header_size : ℕ
header_size = 40

-- the first two bytes: the version, the traffic class, and the beginning of the flow label
abbrev pub traffic_class : List ℕ → ℕ → ℕ
traffic_class frame at = big_endian_at 2 frame at / 16 % 256

abbrev pub payload_size : List ℕ → ℕ → ℕ
payload_size frame at = big_endian_at 2 frame (at + 4)

abbrev pub source : List ℕ → ℕ → ℕ
source frame at = big_endian_at 16 frame (at + 8)

abbrev pub destination : List ℕ → ℕ → ℕ
destination frame at = big_endian_at 16 frame (at + 24)

-- ---- extension headers (RFC 8200, 4.3 to 4.6; RFC 4302 for authentication)

abbrev pub hop_by_hop : ℕ
hop_by_hop = 0

abbrev pub routing : ℕ
routing = 43

abbrev pub fragmentation : ℕ
fragmentation = 44

abbrev pub authentication : ℕ
authentication = 51

abbrev pub destination_options : ℕ
destination_options = 60

abbrev pub is_extension : ℕ → Bool
is_extension number =
    (number == hop_by_hop) || ((number == routing) || ((number == fragmentation)
    || ((number == authentication) || (number == destination_options))))

-- the size of the extension header of this number at an offset: 8 bytes at least
abbrev pub least_extension_size : ℕ
least_extension_size = 8

abbrev pub extension_size : ℕ → List ℕ → ℕ → ℕ
extension_size number frame at =
    let size = slice_index frame (at + 1) in
    if number == fragmentation then least_extension_size
    else (if number == authentication then 4 * size + least_extension_size else 8 * size + least_extension_size)

-- whether it stands wholly before the end of the packet
abbrev pub is_present : ℕ → List ℕ → ℕ → ℕ → Bool
is_present number frame end at =
    nat_le (at + least_extension_size) end && nat_le (at + extension_size number frame at) end

-- in a fragment header the offset in units of 8 bytes, two bits that are free, and whether more fragments follow
abbrev pub offset_bits : ℕ
offset_bits = 0xfff8

abbrev pub more_fragments : ℕ
more_fragments = 1

-- which part of a packet stands after the extension header of this number at an offset
abbrev pub fragment : ℕ → List ℕ → ℕ → Fragment
fragment number frame at =
    let flags = big_endian_at 2 frame (at + 2) in
    if number == fragmentation then part (bit_and flags offset_bits) (bit_and flags more_fragments) else Whole

-- ---- the chain of headers

-- what stands after a header of this number at an offset, where no extension header does
abbrev pub reached : ℕ → ℕ → Fragment → UpperLayer
reached number at part = record { protocol = number; at = at; fragment = part; routed = false }

-- a first fragment stays one, whatever a second fragment header says of the rest, if that isn't a later one
abbrev pub and_after : Fragment → Fragment → Fragment
and_after First Whole = First
and_after part after = after

-- what an upper layer is after an extension header of this number and fragment
abbrev pub after_extension : ℕ → Fragment → UpperLayer → UpperLayer
after_extension number part upper = record upper {
  fragment = and_after part upper.fragment;
  routed = (number == routing) || upper.routed;
}

-- the upper layer after at most so many extension headers, the first one, if any, being of this number and at this
-- offset. Nothing is read after the fragment header of a later fragment.
unfoldable pub upper_layer : ℕ → List ℕ → ℕ → ℕ → ℕ → Option UpperLayer
upper_layer zero frame end number at = if is_extension number then None else Some (reached number at Whole)
upper_layer (suc room) frame end number at =
    let after = at + extension_size number frame at in
    let others = upper_layer room frame end (slice_index frame at) after in
    if is_extension number
    then (if is_present number frame end at
    then by_part (fragment number frame at) number after others
    else None)
    else Some (reached number at Whole)
  where
    by_part : Fragment → ℕ → ℕ → Option UpperLayer → Option UpperLayer
    by_part Later number after others = Some (reached number after Later)
    by_part part number after others = option_map (after_extension number part) others

-- the most extension headers that are passed (this profile)
abbrev pub most_extensions : ℕ
most_extensions = 8

-- ---- the whole header

-- where the packet ends, as far as the frame has it
abbrev pub end_of : List ℕ → ℕ → ℕ
end_of frame at = min (at + header_size + payload_size frame at) (length frame)

-- what the header at an offset says, if it and its extension headers are well formed
unfoldable pub ipv6 : List ℕ → ℕ → Option Datagram
ipv6 frame at =
    if nat_le (at + header_size) (length frame) && (version frame at == 6)
    then option_map
    (λ upper. record { tos = traffic_class frame at; ttl = slice_index frame (at + 7); end = end_of frame at; upper = upper })
    (upper_layer most_extensions frame (end_of frame at) (slice_index frame (at + 6)) (at + header_size))
    else None
