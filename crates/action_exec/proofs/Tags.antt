-- Tags pushed and popped, in the steps of a buffer.
use Rattle.std.proofs.Common.{◌≡◌, ℕ, ◌+◌, ◌-◌, ◌≤◌, true, false, nat_lt, List, ◌++◌, length, take, drop, sym, ap, ap₂, ◌∙◌, arith, append_assoc, length-append, length-drop}
use Rattle.std.specs.List.{copy_within}
use Rattle.std.proofs.lemmas.Bool.{cond-true, cond-false, le-ltb}
use Rattle.std.proofs.lemmas.List.{append-nil, length-take-le, take_all, take-take, take_at, take-append-le, drop_at, drop_all, drop-drop, drop-take}
use Rattle.std.proofs.lemmas.List.Edits.{take-paste}
use Rattle.spec_frames.specs.declared.layout.Layout.{Layout}
use Rattle.spec_frames.specs.Ethernet.{header_size, tag_size, tag_count}
use Rattle.spec_frames.specs.Layout.{layout_of}
use Rattle.spec_exec.specs.Rewriting.{pop_tag}

-- ---- pushed

-- the bytes after the addresses but for the last four are moved up, and a tag is put in their place
pub inserted : (bytes tag : List ℕ) → 16 ≤ length bytes → length tag ≡ 4
    → let moved = copy_within bytes 12 (length bytes - 4) 16 in
    take 12 moved ++ (tag ++ drop 4 (drop 12 moved)) ≡ take 12 bytes ++ (tag ++ drop 12 (take (length bytes - 4) bytes))
inserted bytes tag whole sized =
    ap₂ (λ (x y : List ℕ). x ++ (tag ++ y)) front back
  where
    up : length (take 16 bytes) ≡ 16
    up = length-take-le 16 bytes whole

    front : take 12 (copy_within bytes 12 (length bytes - 4) 16) ≡ take 12 bytes
    front =
        ap (take 12) (append_assoc (take 16 bytes) (take (length bytes - 4 - 12) (drop 12 bytes)) (drop (16 + (length bytes - 4 - 12)) bytes))
        ∙ take-append-le 12 (take 16 bytes) _ (omega (arith, up)) ∙ take-take 12 16 bytes (omega arith)

    back : drop 4 (drop 12 (copy_within bytes 12 (length bytes - 4) 16)) ≡ drop 12 (take (length bytes - 4) bytes)
    back =
        let count : length bytes - 4 ≡ 12 + (length bytes - 4 - 12) = omega arith in
        drop-drop 4 12 (copy_within bytes 12 (length bytes - 4) 16)
        ∙ ap (drop 16) (append_assoc (take 16 bytes) (take (length bytes - 4 - 12) (drop 12 bytes)) (drop (16 + (length bytes - 4 - 12)) bytes))
        ∙ drop_at (take 16 bytes) _ 16 up
        ∙ ap (λ (z : List ℕ). take (length bytes - 4 - 12) (drop 12 bytes) ++ z) (drop_all (16 + (length bytes - 4 - 12)) bytes (omega arith))
        ∙ append-nil (take (length bytes - 4 - 12) (drop 12 bytes))
        ∙ sym (drop-take 12 (length bytes - 4 - 12) bytes)
        ∙ ap (λ (n : ℕ). drop 12 (take n bytes)) (sym count)

-- after a tag was appended to a frame
pub pushed : (frame tag : List ℕ) → 12 ≤ length frame → length tag ≡ 4
    → take 12 (frame ++ tag) ++ (tag ++ drop 12 (take (length (frame ++ tag) - 4) (frame ++ tag))) ≡ take 12 frame ++ (tag ++ drop 12 frame)
pushed frame tag whole sized =
    ap₂ (λ (x y : List ℕ). x ++ (tag ++ drop 12 y)) (take-append-le 12 frame tag whole)
    (take_at frame tag (length (frame ++ tag) - 4) (omega (arith, length-append frame tag)))

-- what was written to the bytes of a buffer is what it holds
pub written-back : (bytes written : List ℕ) (n : ℕ) → length written ≡ length bytes → n ≡ length bytes
    → take n (written ++ drop (length written) bytes) ≡ written
written-back bytes written n same all = take_at written (drop (length written) bytes) n (omega arith)

-- ---- popped

layout-tags : (frame : List ℕ) → header_size ≤ length frame → (layout_of frame).tags ≡ tag_count frame
unfolding layout_of
layout-tags frame whole = ap (λ (l : Layout). l.tags) (cond-false (nat_lt (length frame) header_size) _ _ (le-ltb (length frame) header_size whole))

pub pop_tag-untagged : (frame : List ℕ) → header_size ≤ length frame → nat_lt 0 (tag_count frame) ≡ false → pop_tag frame ≡ frame
unfolding pop_tag
pop_tag-untagged frame whole untagged = cond-false (nat_lt 0 (layout_of frame).tags) _ frame (ap (nat_lt 0) (layout-tags frame whole) ∙ untagged)

-- the bytes after the outer tag are moved down, and as many at the end cut off
pub popped : (frame : List ℕ) → header_size + tag_size ≤ length frame → nat_lt 0 (tag_count frame) ≡ true
    → take (length frame - 4) (copy_within frame 16 (length frame) 12) ≡ pop_tag frame
unfolding pop_tag
popped frame whole tagged =
    let count : length frame - 4 ≡ 12 + (length frame - 16) = omega arith in
    let rest = length-drop 16 frame in
    ap (λ (n : ℕ). take n (copy_within frame 16 (length frame) 12)) count
    ∙ take-paste frame 12 (drop 16 frame) (length frame - 16) (omega arith) (omega arith)
    ∙ ap (λ (z : List ℕ). take 12 frame ++ z) (take_all (length frame - 16) (drop 16 frame) (omega arith))
    ∙ sym (cond-true (nat_lt 0 (layout_of frame).tags) (take 12 frame ++ drop 16 frame) frame (ap (nat_lt 0) (layout-tags frame (omega arith)) ∙ tagged))
