-- What a probe says, stage by stage.
use Rattle.std.proofs.Common.{◌⊎◌, ◌≡◌, if◌then◌else◌, nat_le, ℕ, zero, suc, ◌<◌, ◌≤◌, Bool, true, false, List, [], ◌∷◌, length, replicate, Option, Some, None, IfSome, inl, inr, refl, sym, ap, ap₂, ◌∙◌, subst, arith}
use Rattle.std.specs.Option.{option_map}
use Rattle.std.proofs.lemmas.Bool.{cases_lt, false≢true}
use Rattle.spec_keys.specs.Fields.{field_count, stages}
use Rattle.spec_keys.specs.Keys.{none, masked, agree}
use Rattle.spec_keys.specs.Stages.{staged, network_stage}
use Rattle.spec_tables.specs.Rules.{Rule, is_matched, winner}
use Rattle.ovs_fields.specs.Equality.{same_from_equal}
use Rattle.table_laws.proofs.KeyLaws.{and_zero, agree-masked, agree_from-masked, masked_through-same}
use Rattle.table_laws.proofs.MemberLaws.{Among, list_any_from-Among}
use Rattle.table_laws.proofs.WinnerLaws.{IsWinner, IsBestOf, winner-IsWinner}
use Rattle.staged_lookup.specs.declared.probe.Probe.{Probe}
use Rattle.staged_lookup.specs.declared.probe.Probe.TheVariants.{Ended, Best}
use Rattle.staged_lookup.specs.declared.rank.Rank.{Rank}
use Rattle.staged_lookup.specs.declared.stage.Step.{Step}
use Rattle.staged_lookup.specs.declared.stage.Step.TheVariants.{Passes, Ends, Decides}
use Rattle.staged_lookup.specs.Ranks.{rank_of}
use Rattle.staged_lookup.specs.Stages.{some_agrees, IsStep}
use Rattle.staged_lookup.specs.Subtables.{IsOfMask, part_through, PassesTo, EndsAt, IsProbe, IsEarly, found_rank}
use Rattle.staged_lookup.proofs.Members.{any_among}

pub step_tested : (s : Step) (agrees : Bool) (before part mask key : List ℕ) (rs : List Rule) → (s ≡ Passes → agrees ≡ true) → (s ≡ Ends → agrees ≡ false) → (s ≡ Decides → ⊥) → agrees ≡ some_agrees rs key part → IsStep s before part mask key rs
step_tested Passes agrees before part mask key rs passes ends decides is = λ h. sym is ∙ passes refl
step_tested Ends agrees before part mask key rs passes ends decides is = sym is ∙ ends refl
step_tested Decides agrees before part mask key rs passes ends decides is = absurd (decides refl)

masked-zeros : (n : ℕ) (a : List ℕ) → masked a (replicate n 0) ≡ replicate (length a) 0
unfolding masked
masked-zeros n [] = refl
masked-zeros zero (x ∷ a) = ap (λ (zs : List ℕ). 0 ∷ zs) (masked-zeros zero a)
masked-zeros (suc n) (x ∷ a) = ap₂ (λ (z : ℕ) (zs : List ℕ). z ∷ zs) (and_zero x) (masked-zeros n a)

agree-none : (a b : List ℕ) → length a ≡ length b → agree a b none ≡ true
unfolding none
agree-none a b is = same_from_equal _ _ (masked-zeros field_count a ∙ ap (λ (n : ℕ). replicate n 0) is ∙ sym (masked-zeros field_count b))

module _ (mask key : List ℕ) (rs : List Rule) where
  pub passed_none : PassesTo 0 mask key rs
  passed_none s less = absurd (omega arith)

  pub passed_more : (n : ℕ) → PassesTo n mask key rs → some_agrees rs key (part_through n mask) ≡ true → PassesTo (suc n) mask key rs
  passed_more n before here s less = by (cases_lt s n)
    where
      by : (s < n) ⊎ (n ≤ s) → some_agrees rs key (part_through s mask) ≡ true
      by (inl lt) = before s lt
      by (inr le) = let e : n ≡ s = omega arith in ap (λ (k : ℕ). some_agrees rs key (part_through k mask)) (sym e) ∙ here

  pub ends_at : (n : ℕ) → PassesTo n mask key rs → some_agrees rs key (part_through n mask) ≡ false → EndsAt n mask key rs
  ends_at n before none = record { none_agrees = none; before = before }

  -- all rules agree on no bits
  pub agrees_on_none : (r : Rule) → Among r rs → IsOfMask mask r → length key ≡ field_count → some_agrees rs key none ≡ true
  agrees_on_none r m of long = list_any_from-Among (λ (x : Rule). agree key x.matching.key none) r rs m (agree-none key r.matching.key (long ∙ sym of.fields))

  module _ (of_mask : (r : Rule) → Among r rs → IsOfMask mask r) where
    none_agrees : winner rs key ≡ None → some_agrees rs key mask ≡ false
    unfolding IsWinner
    none_agrees none = at (some_agrees rs key mask) refl
      where
        no : (r : Rule) → Among r rs → is_matched key r.matching ≡ false
        no = subst (IsWinner rs key) none (winner-IsWinner rs key)

        at : (t : Bool) → some_agrees rs key mask ≡ t → t ≡ false
        at true e =
            let m = any_among (λ (x : Rule). agree key x.matching.key mask) rs e in
            let f : true ≡ false = sym m.2 ∙ ap (agree key m.0.matching.key) (sym (of_mask m.0 m.1).mask_is) ∙ no m.0 m.1 in
            f
        at false e = refl

    -- a key that a rule matches agrees with it on each part of the mask
    pub best_agrees : (r : Rule) → winner rs key ≡ Some r → (s : ℕ) → some_agrees rs key (part_through s mask) ≡ true
    unfolding IsWinner
    best_agrees r is s = list_any_from-Among (λ (x : Rule). agree key x.matching.key (part_through s mask)) r rs best.is_rule (on_part (nat_le s network_stage))
      where
        best : IsBestOf rs key r
        best = subst (IsWinner rs key) is (winner-IsWinner rs key)

        alike : masked key mask ≡ masked r.matching.key mask
        alike = agree-masked key r.matching.key mask (ap (agree key r.matching.key) (sym (of_mask r best.is_rule).mask_is) ∙ best.matches)

        on_part : (t : Bool) → agree key r.matching.key (if t then staged s mask else mask) ≡ true
        on_part true = agree_from-masked key r.matching.key (staged s mask) (masked_through-same s stages key r.matching.key mask alike)
        on_part false = agree_from-masked key r.matching.key mask alike

    -- so none matches where one stage ends the probe
    pub ended_none : (n : ℕ) → EndsAt n mask key rs → winner rs key ≡ None
    ended_none n ends = at (winner rs key) refl
      where
        at : (o : Option Rule) → winner rs key ≡ o → o ≡ None
        at None e = refl
        at (Some r) e = absurd (false≢true (sym ends.none_agrees ∙ best_agrees r e n))

    -- what a probe says is the rank of the winner
    pub found_is : (p : Probe) → IsProbe p mask key rs → found_rank p ≡ option_map rank_of (winner rs key)
    found_is (Ended n) is = sym (ap (option_map rank_of) (ended_none n is))
    found_is (Best rule priority) is = sym is

    -- and where it finds one, all stages pass
    pub best_passes : (p : Probe) (rule priority n : ℕ) → p ≡ Best rule priority → IsProbe p mask key rs → PassesTo n mask key rs
    best_passes p rule priority n e is s less = at (winner rs key) refl (subst (λ (q : Probe). IsProbe q mask key rs) e is)
      where
        at : (o : Option Rule) → winner rs key ≡ o → option_map rank_of o ≡ Some (record { priority = priority; number = rule }) → some_agrees rs key (part_through s mask) ≡ true
        at None f h = absurd (cc)
        at (Some r) f h = best_agrees r f s

    pub decided_is : (p : Probe) (best : Option Rank) (n : ℕ) → (best ≡ None → p ≡ Ended n) → IfSome best (λ rank. p ≡ Best rank.number rank.priority) → best ≡ option_map rank_of (winner rs key)
        → part_through n mask ≡ mask → PassesTo n mask key rs → IsProbe p mask key rs
    decided_is p None n ended found is whole before =
        subst (λ (q : Probe). IsProbe q mask key rs) (sym (ended refl)) (ends_at n before (ap (some_agrees rs key) whole ∙ none_agrees (no_winner (winner rs key) is)))
      where
        no_winner : (o : Option Rule) → None ≡ option_map rank_of o → o ≡ None
        no_winner None e = refl
        no_winner (Some r) e = absurd (cc)
    decided_is p (Some rank) n ended found is whole before = subst (λ (q : Probe). IsProbe q mask key rs) (sym found) (sym is)

pub decided_early : (p : Probe) (best : Option Rank) (n : ℕ) → (best ≡ None → p ≡ Ended n) → IfSome best (λ rank. p ≡ Best rank.number rank.priority) → n < network_stage → IsEarly p
decided_early p None n ended found early = subst IsEarly (sym (ended refl)) early
decided_early p (Some rank) n ended found early = subst IsEarly (sym found) tt
