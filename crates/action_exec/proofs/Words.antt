-- Words of a frame, and checksums that follow them, one word at a time.
use Rattle.std.proofs.Common.{◌≡◌, ℕ, zero, suc, ◌+◌, ◌*◌, ◌<◌, ◌≤◌, List, [], ◌∷◌, ◌++◌, length, drop, slice_index, add-one, drop-cons, refl, ap, ◌∙◌, arith}
use Rattle.std.proofs.lemmas.List.{drop_all}
use Rattle.spec_base.specs.Bytes.{big_endian_at}
use Rattle.spec_exec.specs.Places as spec
use Rattle.spec_exec.specs.Rewriting.{after_word}
use Rattle.action_exec.specs.Following.{frame_words, after_list}

pub frame_words-snoc : (count : ℕ) (frame : List ℕ) (at : ℕ)
    → frame_words (suc count) frame at ≡ frame_words count frame at ++ big_endian_at 2 frame (at + 2 * count) ∷ []
unfolding frame_words
frame_words-snoc zero frame at =
    let e : at ≡ at + 2 * 0 = omega arith in ap (λ (z : ℕ). big_endian_at 2 frame z ∷ []) e
frame_words-snoc (suc count) frame at =
    let e : at + 2 + 2 * count ≡ at + 2 * suc count = omega arith in
    ap (λ (z : List ℕ). big_endian_at 2 frame at ∷ z) (frame_words-snoc count frame (at + 2) ∙ ap (λ (z : ℕ). frame_words count frame (at + 2) ++ big_endian_at 2 frame z ∷ []) e)

pub after_list-next : (zero_says : spec.Zero) (words : List ℕ) (at : ℕ) (now : List ℕ) (sum i : ℕ) → i < length words
    → after_list zero_says (drop (i + 1) words) (at + 2) now (after_word zero_says sum (slice_index words i) (big_endian_at 2 now at))
    ≡ after_list zero_says (drop i words) at now sum
unfolding after_list
after_list-next zero_says words at now sum i l = rw (drop-cons words i 0 l, add-one) refl

pub after_list-end : (zero_says : spec.Zero) (words : List ℕ) (at : ℕ) (now : List ℕ) (sum i : ℕ) → length words ≤ i
    → after_list zero_says (drop i words) at now sum ≡ sum
unfolding after_list
after_list-end zero_says words at now sum i l = ap (λ (z : List ℕ). after_list zero_says z at now sum) (drop_all i words l)

pub no-words : (frame : List ℕ) (at : ℕ) → frame_words 0 frame at ≡ []
unfolding frame_words
no-words frame at = refl
