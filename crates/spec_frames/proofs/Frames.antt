-- Frames as rows write them, and what rows show of a frame: its key and its layout.
use Rattle.std.specs.Prelude.{◌≡◌, ℕ, false, List, [], ◌∷◌, ◌++◌, set}
use Rattle.spec_base.specs.Bytes.{big_endian, big_endian_at}
use Rattle.spec_keys.specs.declared.field_id.FieldId.{FieldId}
use Rattle.spec_keys.specs.declared.field_id.FieldId.TheVariants.{InPort, DlSrc, DlDst, DlType, TpSrc, TpDst}
use Rattle.spec_keys.specs.Fields.{place_of}
use Rattle.spec_keys.specs.Keys.{none}
use Rattle.spec_frames.specs.declared.layout.Layout.{Layout}
use Rattle.spec_frames.specs.declared.layout.L3.{L3}
use Rattle.spec_frames.specs.declared.layout.L3.TheVariants as network
use Rattle.spec_frames.specs.declared.layout.L4.{L4}
use Rattle.spec_frames.specs.declared.layout.L4.TheVariants as transport
use Rattle.spec_frames.specs.Ethernet.{is_tag_at, tag_count, tci_at, carried, carried_by}
use Rattle.spec_frames.specs.Arp.{is_arp}
use Rattle.spec_frames.specs.Ipv4.{is_ipv4, ipv4}
use Rattle.spec_frames.specs.Ipv6.{ipv6, upper_layer}
use Rattle.spec_frames.specs.Network.{network_at}
use Rattle.spec_frames.specs.Transport.{transport}
use Rattle.spec_frames.specs.Layout.{layout_of}
use Rattle.spec_frames.specs.Key.{with_transport, with_network, key_of}

-- ---- frames

-- so many bytes, by their digits
abbrev pub bytes : ℕ → ℕ → List ℕ
bytes n digits = big_endian n digits

-- a frame from 00:00:00:00:00:01 to 00:00:00:00:00:02, which goes on with these bytes
abbrev pub frame : List ℕ → List ℕ
frame after = bytes 12 0x000000000002000000000001 ++ after

-- from port 1000 to 53, without data
abbrev pub udp : List ℕ
udp = bytes 8 0x03e8_0035_0008_0000

abbrev pub tcp : List ℕ
tcp = bytes 20 0x03e8_0035_00000001_00000000_5002_2000_0000_0000

-- ---- keys

-- a field and its number
pub record Stated : Type 0 where
  pub field : FieldId
  pub value : ℕ

abbrev pub is : FieldId → ℕ → Stated
is f value = record { field = f; value = value }

-- the key with these numbers, and 0 in every other field
unfoldable pub key_with : List Stated → List ℕ
unfolding none
key_with [] = none
key_with (s ∷ stated) = set (key_with stated) (place_of s.field) s.value

-- the key that shows the port, the addresses, a type, and more
abbrev pub of_type : ℕ → List Stated → List ℕ
of_type dl_type stated = key_with (is InPort 7 ∷ is DlSrc 1 ∷ is DlDst 2 ∷ is DlType dl_type ∷ stated)

-- the ports of udp and tcp
abbrev pub ports : List Stated
ports = is TpSrc 1000 ∷ is TpDst 53 ∷ []

-- the key of a frame that came in at port 7
unfoldable pub key : List ℕ → List ℕ
unfolding none big_endian_at is_tag_at tag_count tci_at carried carried_by is_arp is_ipv4 ipv4 ipv6 upper_layer network_at transport with_transport with_network key_of
key bytes = key_of 7 bytes

-- ---- layouts

-- that of a frame without a tag, and of a packet without a routing header
abbrev pub headers : L3 → L4 → Layout
headers l3 l4 = record { tags = 0; l3 = l3; l4 = l4; routed = false }

abbrev pub no_headers : Layout
no_headers = headers network.None transport.None

-- where the headers of a frame stand
unfoldable pub layout : List ℕ → Layout
unfolding big_endian_at is_tag_at tag_count carried carried_by is_arp is_ipv4 ipv4 ipv6 upper_layer network_at transport layout_of
layout bytes = layout_of bytes

-- ---- rows

-- the frame has this key and this layout
abbrev pub Shows : List ℕ → List ℕ → Layout → Type 0
Shows frame k l = (key frame ≡ k) × (layout frame ≡ l)
