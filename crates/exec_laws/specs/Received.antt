-- What a translation sends of a frame, and the frames of which that is said.
use Rattle.std.specs.Prelude.{◌≡◌, ℕ, ◌<◌, ◌≤◌, ◌^◌, Bool, true, false, IsTrue, List, length, All}
use Rattle.spec_keys.specs.declared.field_id.FieldId.TheVariants.{InPort}
use Rattle.spec_keys.specs.Fields.{width_of}
use Rattle.spec_actions.specs.declared.named_field.Prerequisite.TheVariants as needs
use Rattle.spec_frames.specs.declared.layout.L3.{L3}
use Rattle.spec_frames.specs.declared.layout.L3.TheVariants as l3
use Rattle.spec_frames.specs.declared.layout.L4.{L4}
use Rattle.spec_frames.specs.declared.layout.L4.TheVariants as l4
use Rattle.spec_frames.specs.Ethernet.{header_size}
use Rattle.spec_frames.specs.Layout.{layout_of}
use Rattle.spec_frames.specs.Key.{key_of}
use Rattle.spec_xlate.specs.Tags.{is_full}
use Rattle.spec_xlate.specs.Needs.{is_met}
use Rattle.spec_xlate.specs.Translation.{Switch, pipe}
use Rattle.spec_exec.specs.Sent.{Piece, sent}
use Rattle.frame_laws.specs.Headers.{is_ipv4, is_ipv6}
use Rattle.exec_laws.specs.ReadBack.{AreBytes}
use Rattle.exec_laws.specs.Become.{has_third_tag, KeyedOutput}
use Rattle.exec_laws.specs.Outputs.{translation_outputs}
use Rattle.exec_laws.specs.Made.{PushTags}

-- what the switch sends of a frame that came in at a port
abbrev pub pieces_of : Switch → ℕ → List ℕ → List Piece
pieces_of sw port frame = sent (pipe sw (key_of port frame)).actions frame

-- the outputs of the translation of its key
abbrev pub frame_outputs : Switch → ℕ → List ℕ → List KeyedOutput
frame_outputs sw port frame = translation_outputs sw (key_of port frame)

-- A frame of bytes with a whole Ethernet header, that came in at a port of 16 bits.
pub record IsReceived (port : ℕ) (frame : List ℕ) : Type 0 where
  pub in_port : port < 2 ^ width_of InPort
  pub bytes : AreBytes frame
  pub whole : header_size ≤ length frame

-- Where the frame has a third tag, which its key doesn't show, the packet has two tags at each output: a tag that goes
-- uncovers the third one.
abbrev pub UncoverNone : List ℕ → List KeyedOutput → Type 0
UncoverNone frame outputs = All (λ o. is_full o.key ≡ false → has_third_tag frame ≡ false) outputs

-- whether a network header is that of ARP
abbrev pub is_arp : L3 → Bool
is_arp (l3.Arp at) = true
is_arp other = false

-- whether a transport header has ports
abbrev pub has_ports : L4 → Bool
has_ports (l4.Tcp at) = true
has_ports (l4.Udp at) = true
has_ports other = false

-- A frame has the headers that its key tells of: where the key is what a write needs (ovs-fields(7), "Prerequisites"), the
-- header to be written is there as a whole. In a frame that was cut short, or whose header is malformed, it isn't.
pub record HasItsHeaders (port : ℕ) (frame : List ℕ) : Type 0 where
  pub arp : IsTrue (is_met needs.Arp (key_of port frame)) → IsTrue (is_arp (layout_of frame).l3)
  pub ipv4 : IsTrue (is_met needs.Ipv4 (key_of port frame)) → IsTrue (is_ipv4 (layout_of frame).l3)
  pub ipv6 : IsTrue (is_met needs.Ipv6 (key_of port frame)) → IsTrue (is_ipv6 (layout_of frame).l3)
  pub transport : IsTrue (is_met needs.TcpOrUdp (key_of port frame)) → IsTrue (has_ports (layout_of frame).l4)

-- It holds of each frame that comes in at a switch whose rules push tags of the types that tags have, where no third tag
-- comes in view.
abbrev pub OfFrames : (Switch → ℕ → List ℕ → Type 0) → Type 0
OfFrames claim =
    (sw : Switch) (port : ℕ) (frame : List ℕ)
    → PushTags sw → IsReceived port frame → UncoverNone frame (frame_outputs sw port frame) → claim sw port frame
