-- What a mask consults, by what a probe in two steps says of it.
use Rattle.std.proofs.Common.{◌≡◌, ℕ, zero, suc, ◌<◌, ◌≤◌, Bool, true, false, nat_le, if◌then◌else◌, List, [], ◌∷◌, bit_or, Option, Some, None, IfSome, IsNone, refl, sym, ap, ap₂, ◌∙◌, arith, lit<}
use Rattle.std.specs.Int.Bits.{or_self, or_zero_l}
use Rattle.std.proofs.lemmas.Bool.{leb-true, le-leb, lt-leb, false≢true}
use Rattle.spec_keys.specs.Fields.{stages}
use Rattle.spec_keys.specs.Keys.{joined}
use Rattle.spec_keys.specs.Stages.{through, staged, metadata_stage, ethernet_stage, network_stage}
use Rattle.spec_tables.specs.Rules.{Rule}
use Rattle.spec_xlate.specs.Lookup.{added, when, some_agrees, stage_test, prefix_tests, tracked_fields, probe}
use Rattle.table_laws.proofs.MemberLaws.{Among}
use Rattle.table_laws.proofs.UnionLaws.{Within, joined_assoc}
use Rattle.masked_map.proofs.UnionLaws.{joined_turned}
use Rattle.staged_lookup.specs.declared.probe.Probe.{Probe}
use Rattle.staged_lookup.specs.declared.probe.Probe.TheVariants.{Ended, Best}
use Rattle.staged_lookup.specs.Stages as by_stages
use Rattle.staged_lookup.specs.Subtables.{IsOfMask, part_through, PassesTo, EndsAt, IsProbe, tested_part}
use Rattle.staged_lookup.proofs.ProbeLaws.{best_passes}
use Rattle.tuple_classifier.specs.Passes.{HasPassed, GoesOn}
use Rattle.tuple_classifier.specs.Parts.{of_mask}
use Rattle.tuple_classifier.proofs.PartLaws.{some_agrees_part}

-- ---- the bits through a stage are among those through a later one, and of the mask

through-Within : (s t : ℕ) (ts m : List ℕ) → s ≤ t → Within (through s ts m) (through t ts m)
unfolding through joined Within
through-Within s t [] [] le = refl
through-Within s t (k ∷ ts) [] le = refl
through-Within s t [] (b ∷ bs) le = refl
through-Within s t (k ∷ ts) (b ∷ bs) le = ap₂ (λ (z : ℕ) (zs : List ℕ). z ∷ zs) (part (nat_le k s) (nat_le k t) (λ e. le-leb k t (let l = leb-true k s e in omega (arith, l, le)))) (through-Within s t ts bs le)
  where
    part : (u v : Bool) → (u ≡ true → v ≡ true) → bit_or (if u then b else 0) (if v then b else 0) ≡ (if v then b else 0)
    part true true h = or_self b
    part true false h = absurd (false≢true (h refl))
    part false v h = or_zero_l (if v then b else 0)

Within-mask : (s : ℕ) (ts m : List ℕ) → Within (through s ts m) m
unfolding through joined Within
Within-mask s [] [] = refl
Within-mask s (k ∷ ts) [] = refl
Within-mask s [] (b ∷ bs) = refl
Within-mask s (k ∷ ts) (b ∷ bs) = ap₂ (λ (z : ℕ) (zs : List ℕ). z ∷ zs) (part (nat_le k s)) (Within-mask s ts bs)
  where
    part : (u : Bool) → bit_or (if u then b else 0) b ≡ b
    part true = or_self b
    part false = or_zero_l b

-- what others add stands beside a mask that they leave
added_turned : (m k : List ℕ) (xs : List (List ℕ)) → added (joined m k) xs ≡ joined (added m xs) k
added_turned m k [] = refl
added_turned m k (x ∷ xs) = ap (λ (z : List ℕ). added z xs) (joined_turned m k x) ∙ added_turned (joined m x) k xs

pub beside : (m n k : List ℕ) (xs ys : List (List ℕ)) → added m xs ≡ added n ys → added (joined m k) xs ≡ added (joined n k) ys
beside m n k xs ys e = added_turned m k xs ∙ ap (λ (z : List ℕ). joined z k) e ∙ sym (added_turned n k ys)

-- what is within a mask adds nothing to it
absorbed : (c x m : List ℕ) → Within x m → joined (joined c x) m ≡ joined c m
unfolding Within
absorbed c x m h = joined_assoc c x m ∙ ap (joined c) h

module _ (rs : List Rule) (key mask : List ℕ) where
  agrees : (s : ℕ) (t : Bool) → by_stages.some_agrees (of_mask mask rs) key (staged s mask) ≡ t → some_agrees rs key mask (staged s mask) ≡ t
  agrees s t h = some_agrees_part rs key mask (staged s mask) ∙ h

  goes_through : (s : ℕ) (further : List (List ℕ)) (c : List ℕ) → by_stages.some_agrees (of_mask mask rs) key (staged s mask) ≡ true
      → added c (stage_test rs key mask s further) ≡ added (joined c (staged s mask)) further
  goes_through s further c h = ap (λ (t : Bool). added (joined c (staged s mask)) (when t further)) (agrees s true h)

  ends : (s : ℕ) (further : List (List ℕ)) (c : List ℕ) → by_stages.some_agrees (of_mask mask rs) key (staged s mask) ≡ false
      → added c (stage_test rs key mask s further) ≡ joined c (staged s mask)
  ends s further c h = ap (λ (t : Bool). added (joined c (staged s mask)) (when t further)) (agrees s false h)

  -- a stage before that of the network ends it
  pub ended_early : (n : ℕ) (c : List ℕ) → n < network_stage → EndsAt n mask key (of_mask mask rs) → added c (probe rs key mask) ≡ joined c (part_through n mask)
  unfolding probe
  ended_early zero c early at = ends metadata_stage _ c at.none_agrees
  ended_early (suc zero) c early at =
      goes_through metadata_stage _ c (at.before 0 (lit< tt))
      ∙ ends ethernet_stage _ (joined c (staged metadata_stage mask)) at.none_agrees
      ∙ absorbed c (staged metadata_stage mask) (staged ethernet_stage mask) (through-Within 0 1 stages mask (omega arith))
  ended_early (suc (suc n)) c early at = absurd (omega (arith, early))

  -- or they pass
  pub passed_early : (c : List ℕ) → PassesTo network_stage mask key (of_mask mask rs)
      → added c (probe rs key mask) ≡ added (joined c (staged ethernet_stage mask)) (prefix_tests rs key mask tracked_fields (stage_test rs key mask network_stage (mask ∷ [])))
  unfolding probe
  passed_early c passes =
      goes_through metadata_stage _ c (passes 0 (lit< tt))
      ∙ goes_through ethernet_stage _ (joined c (staged metadata_stage mask)) (passes 1 (lit< tt))
      ∙ ap (λ (z : List ℕ). added z (prefix_tests rs key mask tracked_fields (stage_test rs key mask network_stage (mask ∷ []))))
      (absorbed c (staged metadata_stage mask) (staged ethernet_stage mask) (through-Within 0 1 stages mask (omega arith)))

  module _ (of : (r : Rule) → Among r (of_mask mask rs) → IsOfMask mask r) where
    -- and then the last ones consult what the probe tested
    pub finished : (p : Probe) (c : List ℕ) → IsProbe p mask key (of_mask mask rs) → PassesTo network_stage mask key (of_mask mask rs)
        → added c (stage_test rs key mask network_stage (mask ∷ [])) ≡ joined c (tested_part p mask)
    finished (Ended zero) c is passes = absurd (false≢true (sym is.none_agrees ∙ passes 0 (lit< tt)))
    finished (Ended (suc zero)) c is passes = absurd (false≢true (sym is.none_agrees ∙ passes 1 (lit< tt)))
    finished (Ended (suc (suc zero))) c is passes = ends network_stage (mask ∷ []) c is.none_agrees
    finished (Ended (suc (suc (suc n)))) c is passes =
        let past : network_stage < suc (suc (suc n)) = omega arith in
        let whole : part_through (suc (suc (suc n))) mask ≡ mask = ap (λ (t : Bool). if t then staged (suc (suc (suc n))) mask else mask) (lt-leb (suc (suc (suc n))) network_stage past) in
        goes_through network_stage (mask ∷ []) c (is.before 2 (omega arith))
        ∙ absorbed c (staged network_stage mask) mask (Within-mask network_stage stages mask)
        ∙ ap (joined c) (sym whole)
    finished (Best rule priority) c is passes =
        goes_through network_stage (mask ∷ []) c (best_passes mask key (of_mask mask rs) of (Best rule priority) rule priority 3 refl is 2 (lit< tt))
        ∙ absorbed c (staged network_stage mask) mask (Within-mask network_stage stages mask)

    pub passed_any : (early : Option Probe) → HasPassed early mask key (of_mask mask rs) → PassesTo network_stage mask key (of_mask mask rs)
    passed_any None h = h
    passed_any (Some (Ended stage)) h = absurd h
    passed_any (Some (Best rule priority)) h = best_passes mask key (of_mask mask rs) of (Best rule priority) rule priority network_stage refl h

-- what a probe of the first stages says, if it didn't end there
pub has_passed : (early : Option Probe) (mask key : List ℕ) (own : List Rule) → GoesOn early → IfSome early (λ p. IsProbe p mask key own) → (IsNone early → PassesTo network_stage mask key own)
    → HasPassed early mask key own
has_passed None mask key own on some none = none refl
has_passed (Some (Ended stage)) mask key own on some none = absurd on
has_passed (Some (Best rule priority)) mask key own on some none = some

pub probe_of : (p : Probe) (mask key : List ℕ) (own : List Rule) → HasPassed (Some p) mask key own → IsProbe p mask key own
probe_of (Ended stage) mask key own h = absurd h
probe_of (Best rule priority) mask key own h = h

-- what holds for all rules that the subtable may have holds for these
pub of_these : (o : Option Probe) (P : List Rule → Type 0) (Q : Probe → List Rule → Type 0) (own : List Rule) → IfSome o (λ p. (qs : List Rule) → P qs → Q p qs) → P own → IfSome o (λ p. Q p own)
of_these None P Q own all is = tt
of_these (Some p) P Q own all is = all own is
