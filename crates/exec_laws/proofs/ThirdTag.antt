-- A frame without a third tag has none after a write.
use Rattle.std.proofs.Common.{◌≡◌, ℕ, ◌+◌, ◌*◌, ◌<◌, ◌≤◌, ◌==◌, nat_le, nat_lt, is_some, Bool, true, false, List, length, slice_index, ◌⊎◌, inl, inr, refl, sym, ap, ◌∙◌, arith}
use Rattle.std.proofs.lemmas.Bool.{cases_lt, cond-false, eqb-true, and_parts}
use Rattle.spec_base.specs.Bytes.{big_endian_at}
use Rattle.spec_keys.specs.declared.field_id.FieldId.{FieldId}
use Rattle.spec_keys.specs.declared.field_id.FieldId.TheVariants.{DlSrc, DlDst}
use Rattle.spec_keys.specs.Protocols.{customer_tag, service_tag, is_tag_type}
use Rattle.spec_frames.specs.declared.headers.Carried.{Carried}
use Rattle.spec_frames.specs.declared.headers.Network.TheVariants as network
use Rattle.spec_frames.specs.declared.layout.Layout.{Layout}
use Rattle.spec_frames.specs.Ethernet.{header_size, tag_size, type_size, type_at, inner_at, is_tag_at, tag_count, carried, carried_by}
use Rattle.spec_frames.specs.Network.{network_at, network}
use Rattle.spec_frames.specs.Transport.{transport}
use Rattle.spec_frames.specs.Layout.{layout_with, layout_of}
use Rattle.spec_actions.specs.declared.action.DpAction.TheVariants.{PopVlan, Set}
use Rattle.spec_exec.specs.Places.{place_in}
use Rattle.spec_exec.specs.Rewriting.{pop_tag, after_action}
use Rattle.frame_laws.proofs.keys.Forms.{whole-layout}
use Rattle.exec_laws.specs.ReadBack.{AreBytes}
use Rattle.exec_laws.specs.Become.{has_third_tag}
use Rattle.exec_laws.proofs.Within.{act-whole, set-length}
use Rattle.exec_laws.proofs.Untouched.{set-untouched}
use Rattle.exec_laws.proofs.Tags.{either-tag, count-is}
use Rattle.exec_laws.proofs.EachField.{short-stays, unplaced-stays, not-some, field-layout}
use Rattle.exec_laws.proofs.Uncovered.{third-same}

-- a frame without a tag stays as it is where one is to go
pub untagged-pop : (frame : List ℕ) → header_size ≤ length frame → is_tag_at frame type_at ≡ false → pop_tag frame ≡ frame
unfolding pop_tag
untagged-pop frame whole untagged =
    cond-false (nat_lt 0 (layout_of frame).tags) _ frame
    (ap (λ (l : Layout). nat_lt 0 l.tags) (whole-layout frame whole) ∙ ap (nat_lt 0) (count-is frame false (is_tag_at frame inner_at) untagged refl))

pub untagged-stays : (frame : List ℕ) → is_tag_at frame type_at ≡ false → after_action PopVlan frame ≡ frame
untagged-stays frame untagged = by (cases_lt (length frame) header_size)
  where
    by : (length frame < header_size) ⊎ (header_size ≤ length frame) → after_action PopVlan frame ≡ frame
    by (inl short) = short-stays PopVlan frame short
    by (inr whole) = act-whole PopVlan frame whole ∙ untagged-pop frame whole untagged

-- ---- what stands after three tags is not read

tag_type-of : (frame : List ℕ) (at : ℕ) → is_tag_at frame at ≡ true → is_tag_type (big_endian_at type_size frame at) ≡ true
unfolding is_tag_at
tag_type-of frame at tagged = (and_parts (nat_le (at + tag_size + type_size) (length frame)) _ tagged).1

tag-carries : (frame : List ℕ) (at number : ℕ) → big_endian_at type_size frame at ≡ number → (number ≡ customer_tag) ⊎ (number ≡ service_tag)
    → carried_by frame at ≡ record { dl_type = number; at = at + type_size }
unfolding carried_by
tag-carries frame at number e (inl c) = rw (e, c) refl
tag-carries frame at number e (inr s) = rw (e, s) refl

no-header : (frame : List ℕ) (number at : ℕ) → (number ≡ customer_tag) ⊎ (number ≡ service_tag) → network_at frame number at ≡ network.Nothing
unfolding network_at
no-header frame number at (inl c) = rw c refl
no-header frame number at (inr s) = rw s refl

pub third-nothing : (frame : List ℕ) → has_third_tag frame ≡ true → network frame ≡ network.Nothing
unfolding carried
third-nothing frame third =
    let parts = and_parts (tag_count frame == 2) (is_tag_at frame (inner_at + tag_size)) third in
    let number = big_endian_at type_size frame 20 in
    let either = either-tag number (tag_type-of frame 20 parts.1) in
    let carries : carried frame ≡ record { dl_type = number; at = 22 } =
    ap (λ (z : ℕ). carried_by frame (type_at + z * tag_size)) (eqb-true (tag_count frame) 2 parts.0) ∙ tag-carries frame 20 number refl either in
    ap (λ (c : Carried). network_at frame c.dl_type c.at) carries ∙ no-header frame number 22 either

-- ---- a write

-- to an address
address-single : (frame : List ℕ) (f : FieldId) (value mask : ℕ) → header_size ≤ length frame
    → ((i : ℕ) → type_at ≤ i → slice_index (after_action (Set f value mask) frame) i ≡ slice_index frame i)
    → has_third_tag frame ≡ false → has_third_tag (after_action (Set f value mask) frame) ≡ false
address-single frame f value mask whole same single = third-same frame (after_action (Set f value mask) frame) whole (set-length f value mask frame, same) ∙ single

-- to a field after the addresses, which has no place after three tags
other-single : (frame : List ℕ) → AreBytes frame → (f : FieldId) (value mask : ℕ) → header_size ≤ length frame
    → ((count : ℕ) → is_some (place_in (layout_with count network.Nothing) f) ≡ false)
    → has_third_tag frame ≡ false → has_third_tag (after_action (Set f value mask) frame) ≡ false
other-single frame bytes f value mask whole nowhere single = by (is_some (place_in (layout_of frame) f)) refl (has_third_tag after) refl
  where
    after : List ℕ
    after = after_action (Set f value mask) frame

    large : header_size ≤ length after
    large = let sized = set-length f value mask frame in omega (arith, sized, whole)

    by : (s : Bool) → is_some (place_in (layout_of frame) f) ≡ s → (u : Bool) → has_third_tag after ≡ u → has_third_tag after ≡ false
    by false p u r = ap has_third_tag (unplaced-stays f value mask frame (not-some (place_in (layout_of frame) f) p)) ∙ single
    by true p false r = r
    by true p true r =
        let layout = sym (field-layout frame bytes f value mask) ∙ whole-layout after large ∙ ap (layout_with (tag_count after)) (third-nothing after r) in
        let none = ap (λ (l : Layout). is_some (place_in l f)) layout ∙ nowhere (tag_count after) in
        absurd (no p none)
      where
        no : {s : Bool} → s ≡ true → s ≡ false → ⊥
        no a b = cc

pub set-single : (frame : List ℕ) → AreBytes frame → (f : FieldId) (value mask : ℕ) → header_size ≤ length frame
    → has_third_tag frame ≡ false → has_third_tag (after_action (Set f value mask) frame) ≡ false
unfolding transport
set-single frame bytes DlSrc value mask whole single = address-single frame DlSrc value mask whole (λ i l. set-untouched DlSrc value mask frame i whole (inr l) tt) single
set-single frame bytes DlDst value mask whole single = address-single frame DlDst value mask whole (λ i l. set-untouched DlDst value mask frame i whole (inr (omega arith)) tt) single
set-single frame bytes f value mask whole single = other-single frame bytes f value mask whole (λ t. refl) single
