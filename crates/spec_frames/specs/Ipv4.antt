-- The header of IPv4 (RFC 791, 3.1).
use Rattle.std.specs.Prelude.{ℕ, ◌+◌, ◌*◌, ◌/◌, ◌%◌, Bool, false, ◌&&◌, ◌==◌, nat_le, if◌then◌else◌, List, length, slice_index, bit_and, min}
use Rattle.spec_base.specs.Bytes.{big_endian_at}
use Rattle.spec_frames.specs.declared.headers.Datagram.{Datagram}
use Rattle.spec_frames.specs.declared.headers.Fragment.{Fragment}
use Rattle.spec_frames.specs.declared.headers.Fragment.TheVariants.{Whole, First, Later}

abbrev pub least_header_size : ℕ
least_header_size = 20

-- the first byte: the version, and the header's length in words of 32 bits
abbrev pub version : List ℕ → ℕ → ℕ
version frame at = slice_index frame at / 16

abbrev pub header_size : List ℕ → ℕ → ℕ
header_size frame at = 4 * (slice_index frame at % 16)

abbrev pub total_size : List ℕ → ℕ → ℕ
total_size frame at = big_endian_at 2 frame (at + 2)

-- flags and fragment offset
abbrev pub more_fragments : ℕ
more_fragments = 0x2000

abbrev pub offset_bits : ℕ
offset_bits = 0x1fff

-- which part of a packet has such a flag and offset
abbrev pub part : ℕ → ℕ → Fragment
part offset more = if offset == 0 then (if more == 0 then Whole else First) else Later

abbrev pub fragment : List ℕ → ℕ → Fragment
fragment frame at =
    let flags = big_endian_at 2 frame (at + 6) in
    part (bit_and flags offset_bits) (bit_and flags more_fragments)

abbrev pub source : List ℕ → ℕ → ℕ
source frame at = big_endian_at 4 frame (at + 12)

abbrev pub destination : List ℕ → ℕ → ℕ
destination frame at = big_endian_at 4 frame (at + 16)

-- whether a well-formed header stands at an offset, options included
unfoldable pub is_ipv4 : List ℕ → ℕ → Bool
is_ipv4 frame at =
    nat_le (at + least_header_size) (length frame) && ((version frame at == 4)
    && (nat_le least_header_size (header_size frame at) && (nat_le (at + header_size frame at) (length frame)
    && nat_le (header_size frame at) (total_size frame at))))

-- what it says
unfoldable pub ipv4 : List ℕ → ℕ → Datagram
ipv4 frame at = record {
  tos = slice_index frame (at + 1);
  ttl = slice_index frame (at + 8);
  end = min (at + total_size frame at) (length frame);
  upper = record {
    protocol = slice_index frame (at + 9);
    at = at + header_size frame at;
    fragment = fragment frame at;
    routed = false;
  };
}
