-- Writes that read back.
use Rattle.std.specs.Prelude.{◌≡◌, ℕ, ◌<◌, Bool, ◌&&◌, List, All, is_some, ◌≤◌, length, bit_or}
use Rattle.spec_keys.specs.declared.field_id.FieldId.{FieldId}
use Rattle.spec_keys.specs.declared.field_id.FieldId.TheVariants.{TpSrc, TpDst}
use Rattle.spec_keys.specs.Keys.{value_of}
use Rattle.spec_frames.specs.declared.layout.Layout.{Layout}
use Rattle.spec_frames.specs.Layout.{layout_of}
use Rattle.spec_frames.specs.Key.{with_value, key_of}
use Rattle.spec_actions.specs.declared.action.DpAction.TheVariants.{Set, PushVlan, PopVlan}
use Rattle.spec_xlate.specs.Needs.{is_unfragmented}
use Rattle.spec_base.specs.Bits.{merged}
use Rattle.spec_exec.specs.Places.{place_in}
use Rattle.spec_exec.specs.Rewriting.{after_action}
use Rattle.spec_keys.specs.Protocols.{tag_bit}
use Rattle.spec_frames.specs.Ethernet.{header_size}
use Rattle.spec_xlate.specs.Tags.{VlanTag, outer_tag, inner_tag, with_tags}

abbrev pub AreBytes : List ℕ → Type 0
AreBytes frame = All (λ byte. byte < 256) frame

-- a frame of bytes with a whole Ethernet header
pub record IsWholeFrame (frame : List ℕ) : Type 0 where
  pub bytes : AreBytes frame
  pub whole : header_size ≤ length frame

-- a frame after a write to a field
abbrev pub written : FieldId → ℕ → ℕ → List ℕ → List ℕ
written f value mask frame = after_action (Set f value mask) frame

-- It holds of each write to a frame of bytes: of the field, the frame, and the frame after the write.
abbrev pub OfWrites : (FieldId → List ℕ → List ℕ → Type 0) → Type 0
OfWrites claim =
    (f : FieldId) (value mask : ℕ) (frame : List ℕ) → AreBytes frame → claim f frame (written f value mask frame)

-- Whether a frame with these headers and this key shows in its key what is written of a field: its header is there, and
-- of ports the packet is no fragment. (A key shows no ports of a fragment, though a first one has them.)
abbrev pub is_shown : Layout → List ℕ → FieldId → Bool
is_shown layout key TpSrc = is_some (place_in layout TpSrc) && is_unfragmented key
is_shown layout key TpDst = is_some (place_in layout TpDst) && is_unfragmented key
is_shown layout key f = is_some (place_in layout f)

-- that of a frame
abbrev pub shows : ℕ → List ℕ → FieldId → Bool
shows port frame f = is_shown (layout_of frame) (key_of port frame) f

-- After a write the key of the frame has the field's bits of the mask replaced, and all other bits as before.
abbrev pub ReadsBack : ℕ → List ℕ → FieldId → ℕ → ℕ → Type 0
ReadsBack port frame f value mask =
    key_of port (after_action (Set f value mask) frame) ≡ with_value f (merged (value_of (key_of port frame) f) value mask) (key_of port frame)

-- ---- tags

-- a tag as it is pushed: its content has bit 0x1000
abbrev pub tag_of : ℕ → ℕ → VlanTag
tag_of tpid tci = record { tpid = tpid; tci = bit_or tci tag_bit }

-- After a push the key of the frame has the tag outside, and within it the one that was outside.
abbrev pub PushReadsBack : ℕ → List ℕ → ℕ → ℕ → Type 0
PushReadsBack port frame tpid tci =
    key_of port (after_action (PushVlan tpid tci) frame)
    ≡ with_tags (tag_of tpid tci) (outer_tag (key_of port frame)) (key_of port frame)

-- After a pop and a push it has the tag in the place of the outer one, and within it the same one as before.
abbrev pub ReplaceReadsBack : ℕ → List ℕ → ℕ → ℕ → Type 0
ReplaceReadsBack port frame tpid tci =
    key_of port (after_action (PushVlan tpid tci) (after_action PopVlan frame))
    ≡ with_tags (tag_of tpid tci) (inner_tag (key_of port frame)) (key_of port frame)
