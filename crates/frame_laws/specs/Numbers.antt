-- What the key of a frame says of its transport header.
use Rattle.std.specs.Prelude.{◌≡◌, ◌≢◌, ℕ, ◌≤◌, List, ◌+◌, slice_index}
use Rattle.spec_base.specs.Bytes.{big_endian_at}
use Rattle.spec_keys.specs.declared.field_id.FieldId.TheVariants.{NwProto, IpFrag, TpSrc, TpDst}
use Rattle.spec_keys.specs.Keys.{value_of}
use Rattle.spec_frames.specs.declared.headers.Fragment.TheVariants.{Whole, Later}
use Rattle.spec_frames.specs.Key.{port_size, ip_frag}
use Rattle.spec_frames.specs.Network.{network}
use Rattle.frame_laws.specs.Headers.{upper_at, upper_size}

-- A key has these two numbers as its ports, or as its type and code.
pub record HasPorts (key : List ℕ) (source destination : ℕ) : Type 0 where
  pub tp_src : value_of key TpSrc ≡ source
  pub tp_dst : value_of key TpDst ≡ destination

-- It has the ports that a transport header of TCP or UDP at this offset begins with.
abbrev pub HasPortsAt : List ℕ → List ℕ → ℕ → Type 0
HasPortsAt frame key at = HasPorts key (big_endian_at port_size frame at) (big_endian_at port_size frame (at + port_size))

-- It has the type and the code that one of ICMP or ICMPv6 there begins with.
abbrev pub HasTypeAt : List ℕ → List ℕ → ℕ → Type 0
HasTypeAt frame key at = HasPorts key (slice_index frame at) (slice_index frame (at + 1))

-- A packet with this key is no fragment.
abbrev pub IsNoFragment : List ℕ → Type 0
IsNoFragment key = value_of key IpFrag ≡ ip_frag Whole

-- The packet of a frame with this key is no later fragment, and carries this protocol, with so many bytes of it at
-- least, from this offset on.
pub record Carries (frame key : List ℕ) (number size at : ℕ) : Type 0 where
  pub part : value_of key IpFrag ≢ ip_frag Later
  pub nw_proto : value_of key NwProto ≡ number
  pub begins : at ≡ upper_at (network frame)
  pub is_there : size ≤ upper_size (network frame)
