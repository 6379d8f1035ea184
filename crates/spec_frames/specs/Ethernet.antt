-- The Ethernet header (IEEE 802.3, 3.1), perhaps with tags (IEEE 802.1Q, 9.3) and with a SNAP header (IEEE 802, 9.2).
use Rattle.std.specs.Prelude.{ℕ, ◌+◌, ◌*◌, Bool, ◌&&◌, ◌==◌, nat_le, if◌then◌else◌, List, length, bit_or}
use Rattle.spec_base.specs.Bytes.{big_endian_at}
use Rattle.spec_keys.specs.Protocols.{tag_bit, is_tag_type}
use Rattle.spec_frames.specs.declared.headers.Carried.{Carried}

-- the header: the addresses of the destination and of the source, of six bytes each, and a type of two
abbrev pub address_size : ℕ
address_size = 6

abbrev pub type_size : ℕ
type_size = 2

abbrev pub header_size : ℕ
header_size = 14

-- where the source stands, and the type or tag
abbrev pub source_at : ℕ
source_at = 6

abbrev pub type_at : ℕ
type_at = 12

-- ---- tags

-- a tag: its type, of two bytes, and two bytes of priority, drop eligibility and VLAN identifier
abbrev pub tag_size : ℕ
tag_size = 4

-- where the inner one of two tags stands
abbrev pub inner_at : ℕ
inner_at = type_at + tag_size

-- whether a whole tag stands at an offset, and a type after it
unfoldable pub is_tag_at : List ℕ → ℕ → Bool
is_tag_at frame at = nat_le (at + tag_size + type_size) (length frame) && is_tag_type (big_endian_at type_size frame at)

-- how many tags stand after the addresses; no third one is read
unfoldable pub tag_count : List ℕ → ℕ
tag_count frame = if is_tag_at frame type_at then (if is_tag_at frame inner_at then 2 else 1) else 0

-- the type of a tag, and its content with the bit that says that there is one
abbrev pub tpid_at : List ℕ → ℕ → ℕ
tpid_at frame at = big_endian_at type_size frame at

unfoldable pub tci_at : List ℕ → ℕ → ℕ
tci_at frame at = bit_or (big_endian_at type_size frame (at + type_size)) tag_bit

-- ---- the type

-- numbers from here on are types, and smaller ones lengths (IEEE 802.3, 3.2.6)
abbrev pub least_type : ℕ
least_type = 0x0600

-- the type of a frame that has none (OFP_DL_TYPE_NOT_ETH_TYPE of OpenFlow 1.0)
abbrev pub no_type : ℕ
no_type = 0x05ff

-- the header of LLC and SNAP: both service access points 0xaa, unnumbered information, and the organization of the types
abbrev pub snap_size : ℕ
snap_size = 6

abbrev pub snap : ℕ
snap = 0xaaaa03000000

-- whether such a header, and a type after it, stands at an offset
abbrev pub is_snap : List ℕ → ℕ → Bool
is_snap frame at =
    nat_le (at + snap_size + type_size) (length frame) && ((big_endian_at snap_size frame at == snap)
    && nat_le least_type (big_endian_at type_size frame (at + snap_size)))

-- what is carried after the type or length at an offset
unfoldable pub carried_by : List ℕ → ℕ → Carried
carried_by frame at =
    let number = big_endian_at type_size frame at in
    let after = at + type_size in
    if nat_le least_type number then record { dl_type = number; at = after }
    else (if is_snap frame after
    then record { dl_type = big_endian_at type_size frame (after + snap_size); at = after + snap_size + type_size }
    else record { dl_type = no_type; at = after })

-- what a frame carries, which has a whole header
unfoldable pub carried : List ℕ → Carried
carried frame = carried_by frame (type_at + tag_count frame * tag_size)
