-- A frame as rows show it: its key, by the numbers of its fields, and where its headers stand.
use Rattle.std.specs.Prelude.{ℕ, List, [], ◌∷◌, set}
use Rattle.spec_base.specs.Bytes.{big_endian_at}
use Rattle.spec_keys.specs.declared.field_id.FieldId.{FieldId}
use Rattle.spec_keys.specs.Fields.{place_of}
use Rattle.spec_keys.specs.Keys.{none}
use Rattle.spec_frames.specs.declared.layout.Layout.{Layout}
use Rattle.spec_frames.specs.Ethernet.{is_tag_at, tag_count, tci_at, carried, carried_by}
use Rattle.spec_frames.specs.Arp.{is_arp}
use Rattle.spec_frames.specs.Ipv4.{is_ipv4, ipv4}
use Rattle.spec_frames.specs.Ipv6.{ipv6, upper_layer}
use Rattle.spec_frames.specs.Network.{network_at}
use Rattle.spec_frames.specs.Transport.{transport}
use Rattle.spec_frames.specs.Layout.{layout_of}
use Rattle.spec_frames.specs.Key.{with_transport, with_network, key_of}

-- a field and its number
pub record Stated : Type 0 where
  pub field : FieldId
  pub value : ℕ

abbrev pub is : FieldId → ℕ → Stated
is f value = record { field = f; value = value }

-- the numbers of these fields, and 0 elsewhere
unfoldable pub key_with : List Stated → List ℕ
unfolding none
key_with [] = none
key_with (s ∷ stated) = set (key_with stated) (place_of s.field) s.value

pub record Shown : Type 0 where
  pub key : List ℕ
  pub layout : Layout

-- a key with these fields, and a layout
abbrev pub gives : List Stated → Layout → Shown
gives stated layout = record { key = key_with stated; layout = layout }

-- what the definitions say of a frame that came in at a port
unfoldable pub shown : ℕ → List ℕ → Shown
unfolding none big_endian_at is_tag_at tag_count tci_at carried carried_by is_arp is_ipv4 ipv4 ipv6 upper_layer network_at transport layout_of with_transport with_network key_of key_with
shown port frame = record { key = key_of port frame; layout = layout_of frame }

-- ---- bytes that many frames have

-- to 02:11:22:33:44:55, from 02:aa:bb:cc:dd:ee
abbrev pub addresses : List ℕ
addresses = 2 ∷ 0x11 ∷ 0x22 ∷ 0x33 ∷ 0x44 ∷ 0x55 ∷ 2 ∷ 0xaa ∷ 0xbb ∷ 0xcc ∷ 0xdd ∷ 0xee ∷ []

-- from 192.0.2.17, to 198.51.100.34
abbrev pub ipv4_addresses : List ℕ
ipv4_addresses = 192 ∷ 0 ∷ 2 ∷ 17 ∷ 198 ∷ 51 ∷ 100 ∷ 34 ∷ []

-- from 2001:db8:1:2:3:4:5:6, to 2001:db8:f:e:d:c:b:a
abbrev pub ipv6_addresses : List ℕ
ipv6_addresses =
    0x20 ∷ 1 ∷ 0x0d ∷ 0xb8 ∷ 0 ∷ 1 ∷ 0 ∷ 2 ∷ 0 ∷ 3 ∷ 0 ∷ 4 ∷ 0 ∷ 5 ∷ 0 ∷ 6 ∷
    0x20 ∷ 1 ∷ 0x0d ∷ 0xb8 ∷ 0 ∷ 0x0f ∷ 0 ∷ 0x0e ∷ 0 ∷ 0x0d ∷ 0 ∷ 0x0c ∷ 0 ∷ 0x0b ∷ 0 ∷ 0x0a ∷ []
