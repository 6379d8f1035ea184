-- What is asked of all rules of a table, asked of each mask's rules.
use Rattle.std.proofs.Common.{◌≡◌, ℕ, zero, suc, ◌<◌, Bool, true, false, ◌&&◌, ◌||◌, nat_le, if◌then◌else◌, List, [], ◌∷◌, length, get_or, slice_get, filter, Some, inl, inr, refl, sym, ap, ◌∙◌, subst}
use Rattle.std.specs.List.{list_any, flat_map}
use Rattle.std.proofs.lemmas.Option.{slice_get-get_or}
use Rattle.spec_keys.specs.Keys.{agree, same}
use Rattle.spec_tables.specs.Rules.{Rule, winner}
use Rattle.spec_xlate.specs.Lookup.{added, some_agrees, probe, rules_from, priority_to_beat, consults}
use Rattle.table_laws.proofs.MemberLaws.{Among, Among-filter, Among_in-filter, Among-flat_map, Among_in-flat_map, list_any_from-Among}
use Rattle.table_laws.proofs.UnionLaws.{added-same}
use Rattle.ovs_fields.specs.Packed.{bits}
use Rattle.ovs_fields.specs.Equality.{equal_from_same}
use Rattle.tuple_classifier.specs.declared.subtable.Subtable.{Subtable}
use Rattle.tuple_classifier.specs.Parts.{AreSubtablesOf, of_mask, reaches, gathered}
use Rattle.staged_lookup.proofs.Members.{any_among}

-- ---- places and parts

pub among_from_place : {X : Type 0} (xs : List X) (i : ℕ) (x : X) → slice_get xs i ≡ Some x → Among x xs
among_from_place [] i x is = absurd (cc)
among_from_place (y ∷ ys) zero x is = inl (sym (some_inj y x is))
  where
    some_inj : {X : Type 0} (a b : X) → Some a ≡ Some b → a ≡ b
    some_inj a b e = cc
among_from_place (y ∷ ys) (suc i) x is = inr (among_from_place ys i x is)

pub place_among : {X : Type 0} (x : X) (xs : List X) → Among x xs → (j : ℕ) × (slice_get xs j ≡ Some x)
place_among x [] a = absurd a
place_among x (y ∷ ys) (inl e) = (0, ap Some (sym e))
place_among x (y ∷ ys) (inr a) = let r = place_among x ys a in (suc r.0, r.1)

pub in_part : (mask : List ℕ) (rs : List Rule) (r : Rule) → Among r (of_mask mask rs) → Among r rs × (r.matching.mask ≡ mask)
in_part mask rs r m = let a = Among-filter (λ (x : Rule). same x.matching.mask mask) r rs m in (a.0, equal_from_same r.matching.mask mask a.1)

-- the subtable whose rules a rule is among
pub record IsWithin (ss : List Subtable) (rs : List Rule) (r : Rule) : Type 0 where
  pub subtable : Subtable
  pub there : Among subtable ss
  pub mask_is : r.matching.mask ≡ bits subtable.staged.mask
  pub in_its : Among r (of_mask (bits subtable.staged.mask) rs)

pub within : (ss : List Subtable) (rs : List Rule) → AreSubtablesOf ss rs → (r : Rule) → Among r rs → IsWithin ss rs r
within ss rs are r m =
    let h = are.covered r m in
    record {
      subtable = h.1;
      there = among_from_place ss h.0 h.1 h.2;
      mask_is = equal_from_same r.matching.mask (bits h.1.staged.mask) h.3;
      in_its = Among_in-filter (λ (x : Rule). same x.matching.mask (bits h.1.staged.mask)) r rs m h.3;
    }

-- ---- stages

any_filter : {X : Type 0} (p q : X → Bool) (xs : List X) → list_any p (filter q xs) ≡ list_any (λ x. q x && p x) xs
any_filter p q [] = refl
any_filter p q (x ∷ xs) = at (q x) (any_filter p q xs)
  where
    at : (t : Bool) → list_any p (filter q xs) ≡ list_any (λ y. q y && p y) xs → list_any p (if t then x ∷ filter q xs else filter q xs) ≡ ((t && p x) || list_any (λ y. q y && p y) xs)
    at true ih = ap (λ (u : Bool). p x || u) ih
    at false ih = ih

pub some_agrees_part : (rs : List Rule) (key mask part : List ℕ) → some_agrees rs key mask part ≡ list_any (λ r. agree key r.matching.key part) (of_mask mask rs)
some_agrees_part rs key mask part = sym (any_filter (λ (r : Rule). agree key r.matching.key part) (λ (r : Rule). same r.matching.mask mask) rs)

-- ---- what all masks consult

down : (key : List ℕ) (floor : ℕ) (rs : List Rule) (ss : List Subtable) (x : List ℕ) → Among x (gathered key floor rs ss)
    → Among x (flat_map (λ (r : Rule). probe rs key r.matching.mask) (rules_from floor rs))
down key floor rs ss x h =
    let a = Among-flat_map (λ (s : Subtable). if reaches floor (of_mask (bits s.staged.mask) rs) then probe rs key (bits s.staged.mask) else []) x ss h in
    at a.0 (reaches floor (of_mask (bits a.0.staged.mask) rs)) refl a.2
  where
    at : (s : Subtable) (t : Bool) → reaches floor (of_mask (bits s.staged.mask) rs) ≡ t → Among x (if t then probe rs key (bits s.staged.mask) else [])
        → Among x (flat_map (λ (r : Rule). probe rs key r.matching.mask) (rules_from floor rs))
    at s true e g =
        let r = any_among (λ (q : Rule). nat_le floor q.priority) (of_mask (bits s.staged.mask) rs) e in
        let own = in_part (bits s.staged.mask) rs r.0 r.1 in
        Among_in-flat_map (λ (q : Rule). probe rs key q.matching.mask) x r.0 (rules_from floor rs)
        (Among_in-filter (λ (q : Rule). nat_le floor q.priority) r.0 rs own.0 r.2)
        (subst (λ (n : List ℕ). Among x (probe rs key n)) (sym own.1) g)
    at s false e g = absurd g

up : (key : List ℕ) (floor : ℕ) (rs : List Rule) (ss : List Subtable) → AreSubtablesOf ss rs → (x : List ℕ)
    → Among x (flat_map (λ (r : Rule). probe rs key r.matching.mask) (rules_from floor rs)) → Among x (gathered key floor rs ss)
up key floor rs ss are x h =
    let a = Among-flat_map (λ (r : Rule). probe rs key r.matching.mask) x (rules_from floor rs) h in
    let b = Among-filter (λ (q : Rule). nat_le floor q.priority) a.0 rs a.1 in
    let w = within ss rs are a.0 b.0 in
    let some = list_any_from-Among (λ (y : Rule). nat_le floor y.priority) a.0 (of_mask (bits w.subtable.staged.mask) rs) w.in_its b.1 in
    Among_in-flat_map (λ (s : Subtable). if reaches floor (of_mask (bits s.staged.mask) rs) then probe rs key (bits s.staged.mask) else []) x w.subtable ss w.there
    (subst (λ (t : Bool). Among x (if t then probe rs key (bits w.subtable.staged.mask) else [])) (sym some) (subst (λ (n : List ℕ). Among x (probe rs key n)) w.mask_is a.2))

pub gathered_consults : (key : List ℕ) (floor : ℕ) (rs : List Rule) (ss : List Subtable) (z : List ℕ) → AreSubtablesOf ss rs → floor ≡ priority_to_beat (winner rs key)
    → added z (gathered key floor rs ss) ≡ added z (consults rs key)
unfolding consults
gathered_consults key floor rs ss z are is =
    added-same z (gathered key floor rs ss) (flat_map (λ (r : Rule). probe rs key r.matching.mask) (rules_from floor rs)) (down key floor rs ss) (up key floor rs ss are)
    ∙ ap (λ (p : ℕ). added z (flat_map (λ (r : Rule). probe rs key r.matching.mask) (rules_from p rs))) is

-- ---- as the loops go

pub here : {X : Type 0} (xs : List X) (i : ℕ) (x : X) → i < length xs → x ≡ get_or xs i x → slice_get xs i ≡ Some x
here xs i x le is = slice_get-get_or xs i x le ∙ ap Some (sym is)
