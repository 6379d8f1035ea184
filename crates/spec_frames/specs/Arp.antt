-- ARP (RFC 826), for the addresses of Ethernet and of IPv4.
use Rattle.std.specs.Prelude.{ℕ, ◌+◌, Bool, ◌&&◌, ◌==◌, nat_le, nat_lt, if◌then◌else◌, List, length, slice_index}
use Rattle.spec_base.specs.Bytes.{big_endian_at}
use Rattle.spec_keys.specs.Protocols.{ipv4_type}

-- a packet for these addresses
abbrev pub packet_size : ℕ
packet_size = 28

abbrev pub ethernet_hardware : ℕ
ethernet_hardware = 1

abbrev pub hardware_size : ℕ
hardware_size = 6

abbrev pub protocol_size : ℕ
protocol_size = 4

-- whether a whole packet stands at an offset: hardware type, protocol type, and the sizes of their addresses
unfoldable pub is_arp : List ℕ → ℕ → Bool
is_arp frame at =
    nat_le (at + packet_size) (length frame) && ((big_endian_at 2 frame at == ethernet_hardware)
    && ((big_endian_at 2 frame (at + 2) == ipv4_type) && ((slice_index frame (at + 4) == hardware_size)
    && (slice_index frame (at + 5) == protocol_size))))

abbrev pub operation : List ℕ → ℕ → ℕ
operation frame at = big_endian_at 2 frame (at + 6)

abbrev pub sender_hardware : List ℕ → ℕ → ℕ
sender_hardware frame at = big_endian_at hardware_size frame (at + 8)

abbrev pub sender_protocol : List ℕ → ℕ → ℕ
sender_protocol frame at = big_endian_at protocol_size frame (at + 14)

abbrev pub target_hardware : List ℕ → ℕ → ℕ
target_hardware frame at = big_endian_at hardware_size frame (at + 18)

abbrev pub target_protocol : List ℕ → ℕ → ℕ
target_protocol frame at = big_endian_at protocol_size frame (at + 24)

-- the operation as far as a key holds it: 8 bits (ovs-fields(7), "ARP Fields")
abbrev pub key_operation : ℕ → ℕ
key_operation number = if nat_lt number 256 then number else 0
