-- The fields of the Ethernet header read back.
use Rattle.std.proofs.Common.{◌≡◌, ℕ, ◌+◌, ◌*◌, ◌%◌, ◌^◌, ◌<◌, ◌≤◌, nat_lt, List, length, slice_index, All, inl, inr, refl, sym, ap, ap₂, ◌∙◌, arith}
use Rattle.std.proofs.lemmas.Bool.{le-ltb, cond-false}
use Rattle.std.proofs.Math.Nat.{mod-eq_of_lt}
use Rattle.spec_base.specs.Bytes.{big_endian_at}
use Rattle.spec_keys.specs.declared.field_id.FieldId.TheVariants.{DlSrc, DlDst}
use Rattle.spec_keys.specs.Keys.{value_of}
use Rattle.spec_frames.specs.declared.headers.Carried.{Carried}
use Rattle.spec_frames.specs.declared.headers.Network.{Network}
use Rattle.spec_frames.specs.Ethernet.{is_tag_at, tag_count, tci_at, carried, header_size, type_at}
use Rattle.spec_frames.specs.Network.{network_at, network}
use Rattle.spec_frames.specs.Key.{with_value, with_network, key_of}
use Rattle.spec_actions.specs.declared.action.DpAction.TheVariants.{Set}
use Rattle.spec_base.specs.Bits.{merged}
use Rattle.spec_exec.specs.Writing.{with_number}
use Rattle.spec_exec.specs.Rewriting.{corrected, set_field, after_action}
use Rattle.frame_laws.proofs.keys.Forms.{Tags, tags_of, ethernet_key, ethernet_of, whole-key}
use Rattle.frame_laws.proofs.HeaderLaws.{carried-least}
use Rattle.exec_laws.proofs.Bytes.{big_endian_at-lt}
use Rattle.exec_laws.proofs.Replacing.{with_number-length, with_number-reads, with_number-after, with_number-apart}
use Rattle.exec_laws.proofs.Moved.{number-moved, tag_at-moved, carried_on, carried_by-moved, network_on, network_at-moved, network-LiesFrom, with_network-moved}
use Rattle.exec_laws.proofs.Fields.{keyed, network-says, merged-lt, mask-fits, unit_one}

-- the tags that a key shows
abbrev pub shown_tags : List ℕ → Tags
shown_tags frame = tags_of frame

-- the key of a frame by its addresses and its tags
abbrev pub keyed_by : List ℕ → ℕ → (source destination : ℕ) → Tags → List ℕ
keyed_by frame port source destination t = keyed frame (network frame) port (carried frame).dl_type source destination t

pub key-is : (port : ℕ) (frame : List ℕ) → header_size ≤ length frame
    → key_of port frame ≡ keyed_by frame port (big_endian_at 6 frame 6) (big_endian_at 6 frame 0) (shown_tags frame)
key-is port frame l = whole-key port frame l

-- a frame in which everything from an offset on is the same, perhaps further on, and which carries the same there
module _ (a b : List ℕ) (from s : ℕ) (sized : length b ≡ length a + s) (same : (i : ℕ) → from ≤ i → slice_index b (i + s) ≡ slice_index a i) (whole : header_size ≤ length a)
    (begins : from ≤ (carried a).at) (carries : carried b ≡ carried_on s (carried a)) where
  pub network-from : network b ≡ network_on s (network a)
  network-from =
      ap (λ (c : Carried). network_at b c.dl_type c.at) carries ∙ network_at-moved a b from s sized same (carried a).dl_type (carried a).at ((carried a).at + s) refl begins

  pub key-from : (port : ℕ) → key_of port b ≡ keyed_by a port (big_endian_at 6 b 6) (big_endian_at 6 b 0) (shown_tags b)
  key-from port =
      whole-key port b (omega (arith, sized, whole)) ∙ ap (λ (n : Network). with_network b n (ethernet_of port b)) network-from
      ∙ with_network-moved a b from s sized same (network a) (network-LiesFrom a b from s sized same begins) (ethernet_of port b)
      ∙ ap (λ (c : Carried). with_network a (network a) (ethernet_key port (big_endian_at 6 b 6) (big_endian_at 6 b 0) c.dl_type (shown_tags b))) carries

-- one in which everything after the addresses is
pub network-moved : (a b : List ℕ) (s : ℕ) → length b ≡ length a + s → ((i : ℕ) → type_at ≤ i → slice_index b (i + s) ≡ slice_index a i) → header_size ≤ length a
    → carried b ≡ carried_on s (carried a) → network b ≡ network_on s (network a)
network-moved a b s sized same whole carries = network-from a b 12 s sized same whole (omega (arith, carried-least a)) carries

-- a frame in which only the addresses differ
module _ (a b : List ℕ) (sized : length b ≡ length a) (same : (i : ℕ) → type_at ≤ i → slice_index b i ≡ slice_index a i) (whole : header_size ≤ length a) where
  pub sized_on : length b ≡ length a + 0
  sized_on = omega (arith, sized)

  pub same_on : (i : ℕ) → type_at ≤ i → slice_index b (i + 0) ≡ slice_index a i
  same_on i l = let e : i + 0 ≡ i = omega arith in ap (slice_index b) e ∙ same i l

  pub tag_at-same : (at : ℕ) → type_at ≤ at → is_tag_at b at ≡ is_tag_at a at
  tag_at-same at l = tag_at-moved a b 12 0 sized_on same_on at at (omega arith) l

  pub count-same : tag_count b ≡ tag_count a
  unfolding tag_count
  count-same = rw (tag_at-same 12 (omega arith), tag_at-same 16 (omega arith)) refl

  pub tags-same : shown_tags b ≡ shown_tags a
  unfolding tci_at
  tags-same =
      rw (
        count-same,
        number-moved a b 12 0 sized_on same_on 2 12 12 (omega arith) (omega arith),
        number-moved a b 12 0 sized_on same_on 2 14 14 (omega arith) (omega arith),
        number-moved a b 12 0 sized_on same_on 2 16 16 (omega arith) (omega arith),
        number-moved a b 12 0 sized_on same_on 2 18 18 (omega arith) (omega arith),
      ) refl

  pub carried-same : carried b ≡ carried_on 0 (carried a)
  unfolding carried
  carried-same =
      rw count-same (carried_by-moved a b 12 0 sized_on same_on (12 + tag_count a * 4) (12 + tag_count a * 4) (omega arith) (omega arith))

  pub addressed-key : (port : ℕ) → key_of port b ≡ keyed_by a port (big_endian_at 6 b 6) (big_endian_at 6 b 0) (shown_tags a)
  addressed-key port = key-from a b 12 0 sized_on same_on whole (omega (arith, carried-least a)) carried-same port ∙ ap (keyed_by a port (big_endian_at 6 b 6) (big_endian_at 6 b 0)) tags-same

-- ---- the laws

-- what is written of a field at a place of whole bytes
pub set-whole : (frame : List ℕ) → header_size ≤ length frame → (f : _) (value mask : ℕ) → after_action (Set f value mask) frame ≡ set_field f value mask frame
unfolding after_action
set-whole frame l f value mask = cond-false (nat_lt (length frame) header_size) frame (set_field f value mask frame) (le-ltb (length frame) header_size l)

module _ (port : ℕ) (frame : List ℕ) (bytes : All (λ byte. byte < 256) frame) (whole : header_size ≤ length frame) (value mask : ℕ) (fits : mask < 2 ^ 48) where
  -- an address with those bits replaced
  abbrev new : ℕ → ℕ
  new at = merged (big_endian_at 6 frame at) value mask

  new-fits : (at : ℕ) → new at % 256 ^ 6 ≡ new at
  new-fits at = mod-eq_of_lt (merged-lt 48 (big_endian_at 6 frame at) value mask (big_endian_at-lt frame bytes 6 at) fits)

  pub src-set : set_field DlSrc value mask frame ≡ with_number 6 frame 6 (new 6)
  unfolding set_field corrected
  src-set = rw (mask-fits 48 mask fits, unit_one value, unit_one mask) refl

  pub dst-set : set_field DlDst value mask frame ≡ with_number 6 frame 0 (new 0)
  unfolding set_field corrected
  dst-set = rw (mask-fits 48 mask fits, unit_one value, unit_one mask) refl

  -- the key of the frame, as the laws on forms have it
  abbrev key : List ℕ
  key = keyed_by frame port (big_endian_at 6 frame 6) (big_endian_at 6 frame 0) (shown_tags frame)

  pub dl_src-reads-back : key_of port (after_action (Set DlSrc value mask) frame)
      ≡ with_value DlSrc (merged (value_of (key_of port frame) DlSrc) value mask) (key_of port frame)
  dl_src-reads-back =
      let says = network-says frame (network frame) port (carried frame).dl_type (big_endian_at 6 frame 6) (big_endian_at 6 frame 0) (shown_tags frame) in
      let now = addressed-key frame (with_number 6 frame 6 (new 6)) (with_number-length 6 frame 6 (new 6) (omega arith))
      (λ i l. with_number-after 6 frame 6 (new 6) (omega arith) i l) whole port in
      let source = with_number-reads 6 frame 6 (new 6) (omega arith) ∙ new-fits 6 in
      let destination = with_number-apart 6 frame 6 (new 6) (omega arith) 6 0 (inl (omega arith)) in
      ap (key_of port) (set-whole frame whole DlSrc value mask ∙ src-set) ∙ now
      ∙ ap₂ (λ (x y : ℕ). keyed_by frame port x y (shown_tags frame)) source destination
      ∙ says.other_src (new 6) ∙ ap (λ (z : ℕ). with_value DlSrc (merged z value mask) key) (sym says.dl_src)
      ∙ ap (λ (k : List ℕ). with_value DlSrc (merged (value_of k DlSrc) value mask) k) (sym (key-is port frame whole))

  pub dl_dst-reads-back : key_of port (after_action (Set DlDst value mask) frame)
      ≡ with_value DlDst (merged (value_of (key_of port frame) DlDst) value mask) (key_of port frame)
  dl_dst-reads-back =
      let says = network-says frame (network frame) port (carried frame).dl_type (big_endian_at 6 frame 6) (big_endian_at 6 frame 0) (shown_tags frame) in
      let now = addressed-key frame (with_number 6 frame 0 (new 0)) (with_number-length 6 frame 0 (new 0) (omega arith))
      (λ i l. with_number-after 6 frame 0 (new 0) (omega arith) i (omega arith)) whole port in
      let destination = with_number-reads 6 frame 0 (new 0) (omega arith) ∙ new-fits 0 in
      let source = with_number-apart 6 frame 0 (new 0) (omega arith) 6 6 (inr (omega arith)) in
      ap (key_of port) (set-whole frame whole DlDst value mask ∙ dst-set) ∙ now
      ∙ ap₂ (λ (x y : ℕ). keyed_by frame port x y (shown_tags frame)) source destination
      ∙ says.other_dst (new 0) ∙ ap (λ (z : ℕ). with_value DlDst (merged z value mask) key) (sym says.dl_dst)
      ∙ ap (λ (k : List ℕ). with_value DlDst (merged (value_of k DlDst) value mask) k) (sym (key-is port frame whole))
