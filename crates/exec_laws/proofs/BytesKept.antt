-- An action leaves a frame of bytes one.
use Rattle.std.proofs.Common.{ℕ, ◌+◌, ◌<◌, ◌≤◌, nat_lt, List, [], ◌∷◌, ◌++◌, length, take, drop, Option, Some, None, bit_and}
use Rattle.std.proofs.lemmas.Bool.{cond_both, ltb-false}
use Rattle.std.proofs.lemmas.List.Elements.{All-append, All-take, All-drop}
use Rattle.spec_base.specs.Bits.{all_bits}
use Rattle.spec_base.specs.Bytes.{big_endian, big_endian_at}
use Rattle.spec_keys.specs.declared.field_id.FieldId.{FieldId}
use Rattle.spec_keys.specs.Fields.{width_of}
use Rattle.spec_frames.specs.Ethernet.{header_size, type_size, type_at, tag_size}
use Rattle.spec_frames.specs.Layout.{layout_of}
use Rattle.spec_actions.specs.declared.action.DpAction.{DpAction}
use Rattle.spec_actions.specs.declared.action.DpAction.TheVariants.{Output, PopVlan, PushVlan, Set}
use Rattle.spec_exec.specs.Writing.{with_number}
use Rattle.spec_exec.specs.Places.{Place, Sum, place_in, sums_of}
use Rattle.spec_exec.specs.Rewriting.{followed, corrected, with_bits, set_at, set_field, content_bits, push_tag, pop_tag, changed, after_action}
use Rattle.exec_laws.specs.ReadBack.{AreBytes}
use Rattle.exec_laws.proofs.Replacing.{with_number-length}
use Rattle.exec_laws.proofs.Bytes.{EachByte, byte, are-bytes, byte-of-number, with_number-bytes}
use Rattle.exec_laws.proofs.Within.{PlaceFits, place-fits, SumsFit, sums-fit, fit-moved}

-- checksums that follow leave a frame of bytes one
pub corrected-bytes : (sums : List Sum) (p : Place) (before now : List ℕ) → SumsFit now sums → EachByte now → EachByte (corrected sums p before now)
unfolding corrected
corrected-bytes [] p before now fit bytes = bytes
corrected-bytes (s ∷ sums) p before now fit bytes =
    let v = followed s.zero_says p.words p.word_at before now (big_endian_at 2 before s.at) in
    corrected-bytes sums p before (with_number 2 now s.at v) (fit-moved now (with_number 2 now s.at v) (with_number-length 2 now s.at v fit.0) sums fit.1)
    (with_number-bytes 2 now s.at v fit.0 bytes)

set_at-bytes : (frame : List ℕ) (p : Option Place) (sums : List Sum) (value mask : ℕ) → PlaceFits frame p → SumsFit frame sums → EachByte frame
    → EachByte (set_at p sums value mask frame)
set_at-bytes frame None sums value mask l m bytes = bytes
set_at-bytes frame (Some p) sums value mask l m bytes =
    corrected-bytes sums p frame (with_bits p value mask frame) (fit-moved frame (with_bits p value mask frame) (with_number-length p.size frame p.at _ l) sums m)
    (with_number-bytes p.size frame p.at _ l bytes)

module _ (frame : List ℕ) (bytes : AreBytes frame) where
  joined : (xs ys : List ℕ) → AreBytes xs → AreBytes ys → AreBytes (xs ++ ys)
  joined xs ys a b = All-append (λ b. b < 256) xs ys a b

  number-bytes : (n v : ℕ) → AreBytes (big_endian n v)
  number-bytes n v = are-bytes (big_endian n v) (byte-of-number n v)

  push-bytes : (tpid tci : ℕ) → AreBytes (push_tag tpid tci frame)
  unfolding push_tag
  push-bytes tpid tci =
      let content = big_endian type_size (bit_and tci content_bits) in
      let rest = drop type_at frame in
      let tag = big_endian type_size tpid in
      joined (take type_at frame) (tag ++ (content ++ rest)) (All-take (λ b. b < 256) type_at frame bytes)
      (joined tag (content ++ rest) (number-bytes type_size tpid)
      (joined content rest (number-bytes type_size (bit_and tci content_bits)) (All-drop (λ b. b < 256) type_at frame bytes)))

  pop-bytes : AreBytes (pop_tag frame)
  unfolding pop_tag
  pop-bytes =
      let front = take type_at frame in
      let rest = drop (type_at + tag_size) frame in
      cond_both (nat_lt 0 (layout_of frame).tags) (front ++ rest) frame AreBytes
      (λ e. joined front rest (All-take (λ b. b < 256) type_at frame bytes) (All-drop (λ b. b < 256) (type_at + tag_size) frame bytes)) (λ e. bytes)

  set-bytes : (f : FieldId) (value mask : ℕ) → header_size ≤ length frame → AreBytes (set_field f value mask frame)
  unfolding set_field
  set-bytes f value mask whole =
      are-bytes _ (set_at-bytes frame (place_in (layout_of frame) f) (sums_of (layout_of frame) f) value (bit_and mask (all_bits (width_of f))) (place-fits frame f whole) (sums-fit frame f) (byte frame bytes))

  changed-bytes : (action : DpAction) → header_size ≤ length frame → AreBytes (changed action frame)
  changed-bytes (Output port) whole = bytes
  changed-bytes PopVlan whole = pop-bytes
  changed-bytes (PushVlan tpid tci) whole = push-bytes tpid tci
  changed-bytes (Set f value mask) whole = set-bytes f value mask whole

  pub action-bytes : (action : DpAction) → AreBytes (after_action action frame)
  unfolding after_action
  action-bytes action =
      cond_both (nat_lt (length frame) header_size) frame (changed action frame) AreBytes (λ e. bytes)
      (λ e. changed-bytes action (ltb-false (length frame) header_size e))
