-- The chain of IPv6's extension headers.
use Rattle.std.proofs.Common.{◌≡◌, ℕ, zero, suc, ◌+◌, List, slice_index, ◌⊎◌, inl, inr, Option, Some, None, option_map, IfSome, refl}
use Rattle.std.proofs.lemmas.Bool.{cond_both}
use Rattle.spec_frames.specs.declared.headers.UpperLayer.{UpperLayer}
use Rattle.spec_frames.specs.declared.headers.Fragment.{Fragment}
use Rattle.spec_frames.specs.declared.headers.Fragment.TheVariants.{Whole, First, Later}
use Rattle.spec_frames.specs.Ipv6.{is_extension, is_present, extension_size, fragment, after_extension, upper_layer}

pub part-cases : (part : Fragment) → (part ≡ Later) ⊎ ((part ≡ Whole) ⊎ (part ≡ First))
part-cases Later = inl refl
part-cases Whole = inr (inl refl)
part-cases First = inr (inr refl)

-- what is kept of numbers and of offsets, from the first header to the upper layer
module _ (P Q : ℕ → Type 0) (frame : List ℕ) (numbers : (at : ℕ) → P (slice_index frame at)) (further : (at n : ℕ) → Q at → Q (at + n)) where
  abbrev Kept : Option UpperLayer → Type 0
  Kept o = IfSome o (λ u. P u.protocol × Q u.at)

  after-Kept : (number : ℕ) (part : Fragment) (o : Option UpperLayer) → Kept o → Kept (option_map (after_extension number part) o)
  after-Kept number part None h = h
  after-Kept number part (Some u) h = h

  pub upper_layer-keeps : (room end number at : ℕ) → P number → Q at → Kept (upper_layer room frame end number at)
  unfolding upper_layer
  upper_layer-keeps zero end number at p q = cond_both (is_extension number) _ _ Kept (λ e. tt) (λ e. (p, q))
  upper_layer-keeps (suc room) end number at p q =
      let next = further at (extension_size number frame at) q in
      let others = upper_layer-keeps room end (slice_index frame at) (at + extension_size number frame at) (numbers at) next in
      cond_both (is_extension number) _ _ Kept
      (λ extension. cond_both (is_present number frame end at) _ _ Kept
      (λ there. elim (part-cases (fragment number frame at)) [
        | inl e ↦ rw e (p, next)
        | inr other ↦ elim other [
          | inl e ↦ rw e (after-Kept number Whole _ others)
          | inr e ↦ rw e (after-Kept number First _ others)
        ]
      ])
      (λ there. tt))
      (λ upper. (p, q))
