-- Bytes that no write touches stay.
use Rattle.std.proofs.Common.{◌≡◌, ℕ, ◌+◌, ◌≤◌, List, [], ◌∷◌, length, slice_index, Option, Some, None, inl, inr, bit_and, refl, ap, ◌∙◌}
use Rattle.spec_base.specs.Bits.{all_bits}
use Rattle.spec_base.specs.Bytes.{big_endian_at}
use Rattle.spec_keys.specs.declared.field_id.FieldId.{FieldId}
use Rattle.spec_keys.specs.Fields.{width_of}
use Rattle.spec_frames.specs.Ethernet.{header_size}
use Rattle.spec_frames.specs.Layout.{layout_of}
use Rattle.spec_actions.specs.declared.action.DpAction.TheVariants.{Set}
use Rattle.spec_exec.specs.Writing.{with_number}
use Rattle.spec_exec.specs.Places.{Place, Sum, place_in, sums_of}
use Rattle.spec_exec.specs.Rewriting.{followed, corrected, with_bits, set_at, set_field, after_action}
use Rattle.exec_laws.specs.Elsewhere.{IsOutside, IsNoPlace, IsNoSum}
use Rattle.exec_laws.proofs.Replacing.{with_number-length, with_number-before, with_number-after}
use Rattle.exec_laws.proofs.Within.{PlaceFits, place-fits, SumsFit, sums-fit, fit-moved}
use Rattle.exec_laws.proofs.Addresses.{set-whole}

pub with_number-outside : (n : ℕ) (bytes : List ℕ) (at v : ℕ) → at + n ≤ length bytes → (i : ℕ) → IsOutside i at n → slice_index (with_number n bytes at v) i ≡ slice_index bytes i
with_number-outside n bytes at v fits i (inl l) = with_number-before n bytes at v fits i l
with_number-outside n bytes at v fits i (inr l) = with_number-after n bytes at v fits i l

pub corrected-outside : (sums : List Sum) (p : Place) (before now : List ℕ) → SumsFit now sums → (i : ℕ) → IsNoSum i sums
    → slice_index (corrected sums p before now) i ≡ slice_index now i
unfolding corrected
corrected-outside [] p before now fit i o = refl
corrected-outside (s ∷ sums) p before now fit i o =
    let v = followed s.zero_says p.words p.word_at before now (big_endian_at 2 before s.at) in
    corrected-outside sums p before (with_number 2 now s.at v) (fit-moved now (with_number 2 now s.at v) (with_number-length 2 now s.at v fit.0) sums fit.1) i o.1
    ∙ with_number-outside 2 now s.at v fit.0 i o.0

set_at-outside : (frame : List ℕ) (p : Option Place) (sums : List Sum) (value mask : ℕ) → PlaceFits frame p → SumsFit frame sums → (i : ℕ) → IsNoPlace i p → IsNoSum i sums
    → slice_index (set_at p sums value mask frame) i ≡ slice_index frame i
set_at-outside frame None sums value mask l m i o q = refl
set_at-outside frame (Some p) sums value mask l m i o q =
    corrected-outside sums p frame (with_bits p value mask frame) (fit-moved frame (with_bits p value mask frame) (with_number-length p.size frame p.at _ l) sums m) i q
    ∙ with_number-outside p.size frame p.at _ l i o

pub set-untouched : (f : FieldId) (value mask : ℕ) (frame : List ℕ) (i : ℕ) → header_size ≤ length frame → IsNoPlace i (place_in (layout_of frame) f)
    → IsNoSum i (sums_of (layout_of frame) f)
    → slice_index (after_action (Set f value mask) frame) i ≡ slice_index frame i
unfolding set_field
set-untouched f value mask frame i l o q =
    ap (λ (z : List ℕ). slice_index z i) (set-whole frame l f value mask)
    ∙ set_at-outside frame (place_in (layout_of frame) f) (sums_of (layout_of frame) f) value (bit_and mask (all_bits (width_of f))) (place-fits frame f l) (sums-fit frame f) i o q
