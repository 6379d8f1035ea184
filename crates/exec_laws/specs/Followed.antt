-- Actions that checksums follow.
use Rattle.std.specs.Prelude.{◌≡◌, ℕ, ◌≤◌, true, false, List, [], ◌∷◌}
use Rattle.spec_keys.specs.declared.field_id.FieldId.TheVariants.{Ipv6Dst}
use Rattle.spec_keys.specs.Protocols.{is_tag_type}
use Rattle.spec_frames.specs.Ethernet.{tag_count}
use Rattle.spec_frames.specs.Layout.{layout_of}
use Rattle.spec_actions.specs.declared.action.DpAction.{DpAction}
use Rattle.spec_actions.specs.declared.action.DpAction.TheVariants.{Output, PopVlan, PushVlan, Set}
use Rattle.spec_exec.specs.Rewriting.{after_action}
use Rattle.exec_laws.specs.Become.{has_third_tag}

-- The transport checksum of a frame follows an action. It doesn't where the destination of IPv6 is written after a routing
-- header, nor where the headers can't be read after it, or come to be read by it, since a third tag stands before them, or
-- what was pushed has a type that no tag has.
abbrev pub IsFollowed : DpAction → List ℕ → Type 0
IsFollowed (Output port) frame = Unit {0}
IsFollowed (Set f value mask) frame = f ≡ Ipv6Dst → (layout_of frame).routed ≡ false
IsFollowed (PushVlan tpid tci) frame = (tag_count frame ≤ 1) × (is_tag_type tpid ≡ true)
IsFollowed PopVlan frame = has_third_tag frame ≡ false

-- so do those of a list, each of the frame as it then is
abbrev pub AreFollowed : List DpAction → List ℕ → Type 0
AreFollowed [] frame = Unit {0}
AreFollowed (action ∷ actions) frame = IsFollowed action frame × AreFollowed actions (after_action action frame)
