-- The key of a frame whose tags have changed: its own with other tags.
use Rattle.std.proofs.Common.{◌≡◌, ℕ, ◌<◌, ◌≤◌, true, false, List, length, bit_or, sym, ap, ◌∙◌}
use Rattle.spec_base.specs.Bytes.{big_endian_at}
use Rattle.spec_keys.specs.Protocols.{tag_bit, is_tag_type}
use Rattle.spec_frames.specs.Ethernet.{header_size, type_at, is_tag_at, tag_count, carried}
use Rattle.spec_frames.specs.Network.{network}
use Rattle.spec_frames.specs.Key.{key_of}
use Rattle.spec_xlate.specs.Tags.{VlanTag, outer_tag, inner_tag, no_tag, with_tags, popped}
use Rattle.spec_exec.specs.Rewriting.{push_tag, pop_tag}
use Rattle.frame_laws.proofs.keys.Forms.{Tags}
use Rattle.exec_laws.specs.Become.{has_third_tag}
use Rattle.exec_laws.proofs.Addresses.{shown_tags, keyed_by, key-is}
use Rattle.exec_laws.proofs.Fields.{network-says}
use Rattle.exec_laws.proofs.Tags.{push-key, pop-key, pop-from, other, other-key, pushed_tags, popped_tags, replaced_tags}

module _ (before : List ℕ) (port source destination : ℕ) (t : Tags) where
  abbrev key : List ℕ
  key = keyed_by before port source destination t

  -- a tag outside of the tags of a key
  pub key-pushed : (tpid tci : ℕ) → with_tags (record { tpid = tpid; tci = tci }) (outer_tag key) key ≡ keyed_by before port source destination (pushed_tags tpid tci t)
  key-pushed tpid tci =
      let says = network-says before (network before) port (carried before).dl_type source destination t in
      ap (λ (o : VlanTag). with_tags (record { tpid = tpid; tci = tci }) o key) says.outer ∙ sym (says.other_tags (pushed_tags tpid tci t))

  -- one in place of the outer one
  pub key-replaced : (tpid tci : ℕ) → with_tags (record { tpid = tpid; tci = tci }) (inner_tag key) key ≡ keyed_by before port source destination (replaced_tags tpid tci t)
  key-replaced tpid tci =
      let says = network-says before (network before) port (carried before).dl_type source destination t in
      ap (λ (i : VlanTag). with_tags (record { tpid = tpid; tci = tci }) i key) says.inner ∙ sym (says.other_tags (replaced_tags tpid tci t))

  -- the outer one gone
  pub key-popped : popped key ≡ keyed_by before port source destination (popped_tags t)
  key-popped =
      let says = network-says before (network before) port (carried before).dl_type source destination t in
      ap (λ (i : VlanTag). with_tags i no_tag key) says.inner ∙ sym (says.other_tags (popped_tags t))

-- ---- the laws

module _ (port : ℕ) (frame : List ℕ) (whole : header_size ≤ length frame) where
  pub push-reads-back : (tpid tci : ℕ) → is_tag_type tpid ≡ true → tag_count frame ≤ 1 → tci < 65536
      → key_of port (push_tag tpid tci frame) ≡ with_tags (record { tpid = tpid; tci = bit_or tci tag_bit }) (outer_tag (key_of port frame)) (key_of port frame)
  push-reads-back tpid tci typed room l =
      push-key frame whole tpid tci typed room l port ∙ sym (key-pushed frame port (big_endian_at 6 frame 6) (big_endian_at 6 frame 0) (shown_tags frame) tpid (bit_or tci tag_bit))
      ∙ ap (λ (k : List ℕ). with_tags (record { tpid = tpid; tci = bit_or tci tag_bit }) (outer_tag k) k) (sym (key-is port frame whole))

  pub other-reads-back : (tagged : is_tag_at frame type_at ≡ true) (tpid tci : ℕ) → is_tag_type tpid ≡ true → tci < 65536
      → key_of port (other frame tagged tpid tci) ≡ with_tags (record { tpid = tpid; tci = bit_or tci tag_bit }) (inner_tag (key_of port frame)) (key_of port frame)
  other-reads-back tagged tpid tci typed l =
      other-key frame tagged tpid tci typed l port ∙ sym (key-replaced frame port (big_endian_at 6 frame 6) (big_endian_at 6 frame 0) (shown_tags frame) tpid (bit_or tci tag_bit))
      ∙ ap (λ (k : List ℕ). with_tags (record { tpid = tpid; tci = bit_or tci tag_bit }) (inner_tag k) k) (sym (key-is port frame whole))

  pub pop-reads-back : is_tag_at frame type_at ≡ true → has_third_tag frame ≡ false → key_of port (pop_tag frame) ≡ popped (key_of port frame)
  pop-reads-back tagged single =
      pop-key frame tagged single port ∙ sym (key-popped (pop_tag frame) port (big_endian_at 6 frame 6) (big_endian_at 6 frame 0) (shown_tags frame))
      ∙ ap popped (sym (pop-from frame tagged single port))
