-- Sums over flows are sums over their packets.
use Rattle.std.proofs.Common.{◌≡◌, ℕ, ◌+◌, true, false, ◌&&◌, cond, List, [], ◌∷◌, length, All, refl, sym, ap, ◌∙◌, inl, inr, arith}
use Rattle.std.specs.Prelude.{fold, not}
use Rattle.std.specs.List.{sum_by, list_any}
use Rattle.std.proofs.lemmas.Bool.{cases_Bool, and_parts}
use Rattle.std.proofs.lemmas.List.Sums.{sum_by-cons}
use Rattle.std.proofs.lemmas.List.Elements.{All-head, All-tail, All-filter}
use Rattle.spec_keys.specs.Keys.{same}
use Rattle.ovs_fields.specs.Equality.{equal_from_same}
use Rattle.spec_case.specs.Run.{Run}
use Rattle.spec_netflow.specs.Flows.{Decided, Flow, came_in, packets, joined, is_of, has_room, takes, with_packet, flows_of, of_class}
use Rattle.netflow_laws.proofs.EachPacket.{each_packet}

-- a flow with one more packet
abbrev more : Flow → Flow → Flow
more f p = record f { told = joined f.told p.told }

-- ---- what joining adds up

module _ (g : Flow → ℕ) (adds : (f p : Flow) → is_of p.class f ≡ true → g (more f p) ≡ g f + g p) where
  one_more : (fs : List Flow) (p : Flow) → sum_by g (with_packet fs p) ≡ sum_by g fs + g p
  unfolding with_packet
  one_more [] p = refl
  one_more (f ∷ fs) p = elim (cases_Bool (takes f fs p)) [
    | inl here ↦
        let alike = (and_parts (is_of p.class f) (not (list_any (is_of p.class) fs) && has_room f p) here).0 in
        let before = sum_by-cons g f fs in
        let after = sum_by-cons g (more f p) fs in
        let sum = adds f p alike in
        rw here (omega (arith, before, after, sum))
    | inr later ↦
        let before = sum_by-cons g f fs in
        let after = sum_by-cons g f (with_packet fs p) in
        let rest = one_more fs p in
        rw later (omega (arith, before, after, rest))
  ]

  all_more : (ps fs : List Flow) → sum_by g (fold with_packet fs ps) ≡ sum_by g fs + sum_by g ps
  all_more [] fs = omega arith
  all_more (p ∷ ps) fs =
      let rest = all_more ps (with_packet fs p) in
      let one = one_more fs p in
      let cons = sum_by-cons g p ps in
      omega (arith, rest, one, cons)

  pub sums : (ps : List Flow) → sum_by g (flows_of ps) ≡ sum_by g ps
  sums ps =
      let all : sum_by g (fold with_packet [] ps) ≡ 0 + sum_by g ps = all_more ps [] in
      omega (arith, all)

-- ---- sums over a class

module _ (m : Flow → ℕ) (class : List ℕ) where
  -- what a flow counts for, if it has the class
  abbrev counted : Flow → ℕ
  counted f = cond (is_of class f) (m f) 0

  of_class-sum : (fs : List Flow) → sum_by m (of_class class fs) ≡ sum_by counted fs
  of_class-sum [] = refl
  of_class-sum (f ∷ fs) = elim (cases_Bool (is_of class f)) [
    | inl here ↦
        let kept = sum_by-cons m f (of_class class fs) in
        let plain : sum_by counted (f ∷ fs) ≡ counted f + sum_by counted fs = sum_by-cons counted f fs in
        let all = rw here at plain in
        let rest = of_class-sum fs in
        rw here (omega (arith, kept, all, rest))
    | inr other ↦
        let plain : sum_by counted (f ∷ fs) ≡ counted f + sum_by counted fs = sum_by-cons counted f fs in
        let all = rw other at plain in
        let rest = of_class-sum fs in
        rw other (omega (arith, all, rest))
  ]

  module _ (adds : (f p : Flow) → m (more f p) ≡ m f + m p) where
    counted_adds : (f p : Flow) → is_of p.class f ≡ true → counted (more f p) ≡ counted f + counted p
    counted_adds f p alike =
        let one : f.class ≡ p.class = equal_from_same f.class p.class alike in
        elim (cases_Bool (is_of class f)) [
          | inl here ↦ let there : is_of class p ≡ true = ap (λ (c : List ℕ). same c class) (sym one) ∙ here in rw (here, there) (adds f p)
          | inr other ↦ let there : is_of class p ≡ false = ap (λ (c : List ℕ). same c class) (sym one) ∙ other in rw (other, there) refl
        ]

    pub class_sums : (ps : List Flow) → sum_by m (of_class class (flows_of ps)) ≡ sum_by m (of_class class ps)
    class_sums ps = of_class-sum (flows_of ps) ∙ sums counted counted_adds ps ∙ sym (of_class-sum ps)

-- ---- each packet of a run is one

abbrev IsOne : Flow → Type 0
IsOne f = f.told.packets ≡ 1

pub as_many : (ps : List Flow) → All IsOne ps → sum_by (λ (f : Flow). f.told.packets) ps ≡ length ps
as_many [] all = refl
as_many (p ∷ ps) all =
    let cons = sum_by-cons (λ (f : Flow). f.told.packets) p ps in
    let one = All-head IsOne p ps all in
    let rest = as_many ps (All-tail IsOne p ps all) in
    omega (arith, cons, one, rest)

module _ (run : Run) (decided : Decided) where
  pub ones : All IsOne (packets run decided)
  ones = each_packet run decided IsOne (came_in run) (λ i a lt at ipv4. refl)

  pub ones_in : (class : List ℕ) → All IsOne (of_class class (packets run decided))
  ones_in class = All-filter (is_of class) IsOne (packets run decided) ones
