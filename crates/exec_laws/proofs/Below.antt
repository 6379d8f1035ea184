-- A chain of extension headers is read from the bytes before the upper layer alone, so that a frame with these has the same one.
use Rattle.std.proofs.Common.{◌≡◌, ℕ, zero, suc, ◌+◌, ◌*◌, ◌<◌, ◌≤◌, Bool, true, false, ◌==◌, List, slice_index, Option, Some, None, option_map, IfSome, ◌⊎◌, inl, inr, refl, ap, subst, arith}
use Rattle.std.proofs.lemmas.Bool.{cond_both}
use Rattle.spec_frames.specs.declared.headers.UpperLayer.{UpperLayer}
use Rattle.spec_frames.specs.declared.headers.Fragment.{Fragment}
use Rattle.spec_frames.specs.declared.headers.Fragment.TheVariants.{Whole, First, Later}
use Rattle.spec_frames.specs.Ipv6.{is_extension, is_present, extension_size, fragment, reached, after_extension, upper_layer}
use Rattle.frame_laws.proofs.keys.Chains.{part-cases, upper_layer-keeps}
use Rattle.exec_laws.proofs.Replacing.{number-same}

size-least : (number : ℕ) (frame : List ℕ) (at : ℕ) → 8 ≤ extension_size number frame at
size-least number frame at =
    cond_both (number == 44) 8 _ (λ z. 8 ≤ z) (λ e. omega arith)
    (λ e. cond_both (number == 51) (4 * slice_index frame (at + 1) + 8) (8 * slice_index frame (at + 1) + 8) (λ z. 8 ≤ z) (λ f. omega arith) (λ f. omega arith))

begins-after : (room : ℕ) (frame : List ℕ) (end number at : ℕ) → IfSome (upper_layer room frame end number at) (λ u. Unit {0} × (at ≤ u.at))
begins-after room frame end number at =
    upper_layer-keeps (λ number. Unit {0}) (λ i. at ≤ i) frame (λ i. tt) (λ i n l. omega arith) room end number at tt (omega arith)

none-some : (u : UpperLayer) → None ≡ Some u → ⊥
none-some u e = cc

some-same : (x u : UpperLayer) → Some x ≡ Some u → x ≡ u
some-same x u e = cc

-- what a packet that is reached through an extension header is after it
record After (number : ℕ) (o : Option UpperLayer) (u : UpperLayer) : Type 0 where
  upper : UpperLayer
  is : o ≡ Some upper
  at-same : upper.at ≡ u.at

mapped : (number : ℕ) (part : Fragment) (o : Option UpperLayer) (u : UpperLayer) → option_map (after_extension number part) o ≡ Some u → After number o u
mapped number part None u e = absurd (none-some u e)
mapped number part (Some v) u e = record { upper = v; is = refl; at-same = ap (λ (w : UpperLayer). w.at) (some-same (after_extension number part v) u e) }

module _ (a b : List ℕ) where
  pub upper_layer-kept : (room end number at : ℕ) (u : UpperLayer) → upper_layer room a end number at ≡ Some u
      → ((i : ℕ) → at ≤ i → i < u.at → slice_index b i ≡ slice_index a i) → upper_layer room b end number at ≡ Some u
  unfolding upper_layer
  upper_layer-kept zero end number at u e same = e
  upper_layer-kept (suc room) end number at u e same =
      by (is_extension number) refl (is_present number a end at) refl (part-cases (fragment number a at))
      (λ v f g. upper_layer-kept room end (slice_index a at) (at + extension_size number a at) v f g)
    where
      by : (t : Bool) → is_extension number ≡ t → (p : Bool) → is_present number a end at ≡ p
          → (fragment number a at ≡ Later) ⊎ ((fragment number a at ≡ Whole) ⊎ (fragment number a at ≡ First))
          → ((v : UpperLayer) → upper_layer room a end (slice_index a at) (at + extension_size number a at) ≡ Some v
          → ((i : ℕ) → at + extension_size number a at ≤ i → i < v.at → slice_index b i ≡ slice_index a i)
          → upper_layer room b end (slice_index a at) (at + extension_size number a at) ≡ Some v)
          → upper_layer (suc room) b end number at ≡ Some u
      by false t p q c ih = rw t (rw t at e)
      by true t false q c ih = absurd (none-some u (rw (t, q) at e))
      by true t true q (inl later) ih =
          let f = rw (t, q, later) at e in
          let size = size-least number a at in
          let there = ap (λ (w : UpperLayer). w.at) (some-same (reached number (at + extension_size number a at) Later) u f) in
          rw (
            same (at + 1) (omega arith) (omega (arith, size, there)),
            same at (omega arith) (omega (arith, size, there)),
            number-same a b 2 (at + 2) (λ i l m. same i (omega arith) (omega (arith, size, there, m))),
            t,
            q,
            later,
          ) f
      by true t true q (inr (inl whole)) ih =
          let f = rw (t, q, whole) at e in
          let size = size-least number a at in
          let m = mapped number Whole (upper_layer room a end (slice_index a at) (at + extension_size number a at)) u f in
          let begins = (subst (λ (o : Option UpperLayer). IfSome o (λ w. Unit {0} × (at + extension_size number a at ≤ w.at))) m.is
          (begins-after room a end (slice_index a at) (at + extension_size number a at))).1 in
          let there = m.at-same in
          let others = ih m.upper m.is (λ i l k. same i (omega (arith, size, l)) (omega (arith, there, k))) in
          rw (
            same (at + 1) (omega arith) (omega (arith, size, there, begins)),
            same at (omega arith) (omega (arith, size, there, begins)),
            number-same a b 2 (at + 2) (λ i l m. same i (omega arith) (omega (arith, size, there, begins, m))),
            t,
            q,
            whole,
            others,
          ) (rw m.is at f)
      by true t true q (inr (inr first)) ih =
          let f = rw (t, q, first) at e in
          let size = size-least number a at in
          let m = mapped number First (upper_layer room a end (slice_index a at) (at + extension_size number a at)) u f in
          let begins = (subst (λ (o : Option UpperLayer). IfSome o (λ w. Unit {0} × (at + extension_size number a at ≤ w.at))) m.is
          (begins-after room a end (slice_index a at) (at + extension_size number a at))).1 in
          let there = m.at-same in
          let others = ih m.upper m.is (λ i l k. same i (omega (arith, size, l)) (omega (arith, there, k))) in
          rw (
            same (at + 1) (omega arith) (omega (arith, size, there, begins)),
            same at (omega arith) (omega (arith, size, there, begins)),
            number-same a b 2 (at + 2) (λ i l m. same i (omega arith) (omega (arith, size, there, begins, m))),
            t,
            q,
            first,
            others,
          ) (rw m.is at f)
