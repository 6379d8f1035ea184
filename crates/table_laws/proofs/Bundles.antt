-- Bundles: how many edits stand through each, and one bundle more.
use Rattle.std.proofs.Common.{◌≡◌, ℕ, zero, suc, ◌+◌, ◌-◌, ◌<◌, ◌≤◌, List, [], ◌∷◌, ◌++◌, length, take, drop, refl, sym, ap, ◌∙◌, subst, arith, inl, inr, length-append}
use Rattle.std.proofs.Math.ListN.{get_or-append}
use Rattle.std.proofs.Math.Seq.{get_or-append_seam, take-add}
use Rattle.std.proofs.lemmas.Bool.{cases_lt}
use Rattle.std.proofs.lemmas.List.{drop-take, length-take-le}
use Rattle.std.specs.List.{slice_range}
use Rattle.spec_tables.specs.Edits.{Edit}
use Rattle.spec_tables.specs.Bundles.{edits_through, bundle, AreBundles}

module _ (bundles : List ℕ) (edits : ℕ) (are : AreBundles bundles edits) where
  -- each bundle has an edit
  climb : (v k w : ℕ) → w ≡ v + k → w ≤ length bundles → edits_through bundles v + k ≤ edits_through bundles w
  climb v zero w is le =
      let same : edits_through bundles w ≡ edits_through bundles v = ap (edits_through bundles) (omega arith) in
      omega arith
  climb v (suc k) w is le =
      let so_far : edits_through bundles v + k ≤ edits_through bundles (v + k) = climb v k (v + k) refl (omega arith) in
      let more : edits_through bundles (v + k) < edits_through bundles (v + k + 1) = are.rising (v + k) (omega arith) in
      let same : edits_through bundles w ≡ edits_through bundles (v + k + 1) = ap (edits_through bundles) (omega arith) in
      omega arith

  pub in_order : (v w : ℕ) → v ≤ w → w ≤ length bundles → edits_through bundles v ≤ edits_through bundles w
  in_order v w order le = let up : edits_through bundles v + (w - v) ≤ edits_through bundles w = climb v (w - v) w (omega arith) le in omega arith

  -- no more edits stand through a bundle than there are
  pub within : (v : ℕ) → v ≤ length bundles → edits_through bundles v ≤ edits
  within v le =
      let up : edits_through bundles v ≤ edits_through bundles (length bundles) = in_order v (length bundles) le (omega arith) in
      omega (arith, are.whole)

  -- there are no more bundles than edits
  pub few_bundles : length bundles ≤ edits
  few_bundles =
      let up : edits_through bundles 0 + length bundles ≤ edits_through bundles (length bundles) = climb 0 (length bundles) (length bundles) (omega arith) (omega arith) in
      omega (arith, are.whole)

-- no edits are in no bundles
pub bundles-none : (bundles : List ℕ) → bundles ≡ [] → AreBundles bundles 0
bundles-none bundles none = rw none (record { rising = λ v lt. absurd (omega arith); whole = refl })

-- ---- one bundle more

-- the bundles before it stay
through-append : (bundles : List ℕ) (through v : ℕ) → v ≤ length bundles → edits_through (bundles ++ through ∷ []) v ≡ edits_through bundles v
through-append bundles through zero le = refl
through-append bundles through (suc v) le = get_or-append bundles (through ∷ []) 0 v (omega arith)

through-push : (bundles : List ℕ) (through : ℕ) → edits_through (bundles ++ through ∷ []) (length bundles + 1) ≡ through
through-push bundles through =
    let next : length bundles + 1 ≡ suc (length bundles) = omega arith in
    ap (edits_through (bundles ++ through ∷ [])) next ∙ get_or-append_seam bundles through [] 0

module _ (bundles : List ℕ) (edits more : ℕ) (are : AreBundles bundles edits) (some : 0 < more) where
  abbrev all : List ℕ
  all = bundles ++ (edits + more) ∷ []

  size : length all ≡ length bundles + 1
  size = length-append bundles ((edits + more) ∷ [])

  rises : (v : ℕ) → v < length all → edits_through all v < edits_through all (v + 1)
  rises v lt =
      let count : length all ≡ length bundles + 1 = size in
      let here : edits_through all v ≡ edits_through bundles v = through-append bundles (edits + more) v (omega arith) in
      elim (cases_lt v (length bundles)) [
        | inl earlier ↦
            let before : edits_through bundles v < edits_through bundles (v + 1) = are.rising v earlier in
            let next : edits_through all (v + 1) ≡ edits_through bundles (v + 1) = through-append bundles (edits + more) (v + 1) (omega arith) in
            omega arith
        | inr late ↦
            let place : v ≡ length bundles = omega arith in
            let so_far : edits_through bundles v ≡ edits = ap (edits_through bundles) place ∙ are.whole in
            let next : edits_through all (v + 1) ≡ edits + more = ap (λ (w : ℕ). edits_through all (w + 1)) place ∙ through-push bundles (edits + more) in
            omega arith
      ]

  pub bundles-push : AreBundles all (edits + more)
  bundles-push = record { rising = rises; whole = ap (edits_through all) size ∙ through-push bundles (edits + more) }

-- ---- the edits of a bundle

-- they are a part of all edits
pub bundle-range : (edits : List Edit) (bundles : List ℕ) (v : ℕ) → edits_through bundles (v - 1) ≤ edits_through bundles v
    → bundle edits bundles v ≡ slice_range edits (edits_through bundles (v - 1)) (edits_through bundles v)
bundle-range edits bundles v order =
    let through : edits_through bundles v ≡ edits_through bundles (v - 1) + (edits_through bundles v - edits_through bundles (v - 1)) = omega arith in
    ap (λ (n : ℕ). drop (edits_through bundles (v - 1)) (take n edits)) through
    ∙ drop-take (edits_through bundles (v - 1)) (edits_through bundles v - edits_through bundles (v - 1)) edits

pub next-range : (edits : List Edit) (bundles : List ℕ) (v : ℕ) → edits_through bundles v ≤ edits_through bundles (v + 1)
    → bundle edits bundles (v + 1) ≡ slice_range edits (edits_through bundles v) (edits_through bundles (v + 1))
next-range edits bundles v order =
    let same : v + 1 - 1 ≡ v = omega arith in
    bundle-range edits bundles (v + 1) (subst (λ (w : ℕ). edits_through bundles w ≤ edits_through bundles (v + 1)) (sym same) order)
    ∙ ap (λ (w : ℕ). slice_range edits (edits_through bundles w) (edits_through bundles (v + 1))) same

-- the edits through a bundle are those before it, and then its own
pub bundle-after : (edits : List Edit) (bundles : List ℕ) (v : ℕ) → AreBundles bundles (length edits) → v < length bundles
    → take (edits_through bundles v) edits ++ bundle edits bundles (v + 1) ≡ take (edits_through bundles (v + 1)) edits
bundle-after edits bundles v are lt =
    let rises : edits_through bundles v < edits_through bundles (v + 1) = are.rising v lt in
    let through : edits_through bundles (v + 1) ≡ edits_through bundles v + (edits_through bundles (v + 1) - edits_through bundles v) = omega arith in
    ap (λ (list : List Edit). take (edits_through bundles v) edits ++ list) (next-range edits bundles v (omega arith))
    ∙ sym (take-add (edits_through bundles v) (edits_through bundles (v + 1) - edits_through bundles v) edits)
    ∙ ap (λ (n : ℕ). take n edits) (sym through)

-- and so many are its own
pub length-bundle : (edits : List Edit) (bundles : List ℕ) (v : ℕ) → AreBundles bundles (length edits) → v < length bundles
    → edits_through bundles v + length (bundle edits bundles (v + 1)) ≡ edits_through bundles (v + 1)
length-bundle edits bundles v are lt =
    let low : edits_through bundles v ≤ length edits = within bundles (length edits) are v (omega arith) in
    let high : edits_through bundles (v + 1) ≤ length edits = within bundles (length edits) are (v + 1) (omega arith) in
    let before : length (take (edits_through bundles v) edits) ≡ edits_through bundles v = length-take-le (edits_through bundles v) edits low in
    let all : length (take (edits_through bundles (v + 1)) edits) ≡ edits_through bundles (v + 1) = length-take-le (edits_through bundles (v + 1)) edits high in
    let both : length (take (edits_through bundles v) edits ++ bundle edits bundles (v + 1)) ≡ length (take (edits_through bundles (v + 1)) edits) = ap length (bundle-after edits bundles v are lt) in
    omega (arith, length-append (take (edits_through bundles v) edits) (bundle edits bundles (v + 1)))
