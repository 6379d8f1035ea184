-- What a lookup consults: the whole mask of its winner, and the same over distinct masks as over rules.
use Rattle.std.proofs.Common.{◌≡◌, ℕ, Bool, true, false, ◌&&◌, ◌||◌, not, ◌==◌, nat_le, if◌then◌else◌, List, [], ◌∷◌, map, min, bit_and, Option, Some, None, IfSome, IsNone, Contains, Any, inl, inr, refl, sym, ap, ◌∙◌, subst, eq-eqb, arith}
use Rattle.std.specs.List.{list_any, flat_map}
use Rattle.std.proofs.lemmas.Bool.Decides.{nat_tests}
use Rattle.spec_keys.specs.declared.field_id.FieldId.{FieldId}
use Rattle.spec_keys.specs.Fields.{place_of, width_of, stages}
use Rattle.spec_keys.specs.Keys.{value_of, masked, same, agree, none, covers}
use Rattle.spec_tables.specs.Rules.{Rule, is_matched, winner}
use Rattle.spec_keys.specs.Stages.{staged, metadata_stage, ethernet_stage, network_stage}
use Rattle.spec_xlate.specs.Lookup.{added, union, when, some_agrees, stage_test, prefix_of, prefixes, deciding, begins_with, some_begins, tracked_fields, leading, prefix_test, prefix_tests, probe, priority_to_beat, rules_from, consults}
use Rattle.table_laws.proofs.KeyLaws.{same_refl, agree-masked, agree_from-masked, masked_through-same, number_at-masked}
use Rattle.table_laws.specs.Best.{AreMasksOf}
use Rattle.table_laws.proofs.MemberLaws.{Among_from-Contains, All-Among, Among, Among_in-filter, Among_in-map, Among-flat_map, Among_in-flat_map}
use Rattle.table_laws.proofs.UnionLaws.{covers_from-Within, Within-added, added-same}
use Rattle.table_laws.proofs.PrefixLaws.{prefix_length-is}
use Rattle.table_laws.proofs.WinnerLaws.{IsWinner, winner-IsWinner}

list_any-true : {X : Type 0} (p : X → Bool) (x : X) (xs : List X) → Among x xs → p x ≡ true → list_any p xs ≡ true
list_any-true p x [] m h = absurd m
list_any-true p x (y ∷ ys) (inl e) h = ap (λ (t : Bool). t || list_any p ys) (sym (ap p e) ∙ h)
list_any-true p x (y ∷ ys) (inr m) h = at (p y) (list_any-true p x ys m h)
  where
    at : (t : Bool) → list_any p ys ≡ true → (t || list_any p ys) ≡ true
    at true e = refl
    at false e = e

both-true : (t u : Bool) → t ≡ true → u ≡ true → (t && u) ≡ true
both-true true u e f = f
both-true false u e f = e

-- ---- a mask of which a rule matches is gone through to its end

-- the last of the masks that a test leads to is among those of the whole test
stage-last : (rules : List Rule) (key : List ℕ) (r : Rule) (stage : ℕ) (m : List ℕ) (further : List (List ℕ)) → Among r rules
    → is_matched key r.matching ≡ true → Among m further
    → Among m (stage_test rules key r.matching.mask stage further)
stage-last rules key r stage m further among h last = inr (subst (λ (t : Bool). Among m (when t further)) (sym alive) last)
  where
    part : masked key (staged stage r.matching.mask) ≡ masked r.matching.key (staged stage r.matching.mask)
    part = masked_through-same stage stages key r.matching.key r.matching.mask (agree-masked _ _ _ h)

    alive : some_agrees rules key r.matching.mask (staged stage r.matching.mask) ≡ true
    alive = list_any-true (λ s. same s.matching.mask r.matching.mask && agree key s.matching.key (staged stage r.matching.mask)) r rules among
        (both-true _ _ (same_refl r.matching.mask) (agree_from-masked key r.matching.key (staged stage r.matching.mask) part))

prefix-last : (rules : List Rule) (key : List ℕ) (r : Rule) (f : FieldId) (m : List ℕ) (further : List (List ℕ)) → Among r rules
    → is_matched key r.matching ≡ true → Among m further
    → Among m (prefix_test rules key r.matching.mask f further)
prefix-last rules key r f m further among h last = at (len == 0) refl
  where
    len : ℕ
    len = (prefix_of f r).length

    begins : (len == 0) ≡ false → begins_with (width_of f) (value_of key f) (prefix_of f r) ≡ true
    begins long =
        let is = prefix_length-is (width_of f) (value_of r.matching.mask f) long in
        eq-eqb _ _ (
        ap (bit_and (value_of key f)) (sym is) ∙ sym (number_at-masked key r.matching.mask (place_of f)) ∙ ap (λ (z : List ℕ). value_of z f) (agree-masked _ _ _ h)
        ∙ number_at-masked r.matching.key r.matching.mask (place_of f) ∙ ap (bit_and (value_of r.matching.key f)) is)

    some : (len == 0) ≡ false → some_begins (width_of f) (value_of key f) len (prefixes f rules) ≡ true
    some long = list_any-true (λ p. (p.length == len) && begins_with (width_of f) (value_of key f) p) (prefix_of f r) (prefixes f rules)
        (Among_in-filter (λ p. not (p.length == 0)) (prefix_of f r) (map (prefix_of f) rules) (Among_in-map (prefix_of f) r rules among) (ap not long))
        (both-true _ _ (eq-eqb len len refl) (begins long))

    at : (t : Bool) → (len == 0) ≡ t
        → Among m (if t then further else (if some_begins (width_of f) (value_of key f) len (prefixes f rules) then leading f len ∷ further else leading f (min (deciding (width_of f) (value_of key f) (prefixes f rules)) len) ∷ []))
    at true e = last
    at false e = subst (λ (t : Bool). Among m (if t then leading f len ∷ further else leading f (min (deciding (width_of f) (value_of key f) (prefixes f rules)) len) ∷ [])) (sym (some e)) (inr last)

prefixes-last : (rules : List Rule) (key : List ℕ) (r : Rule) (fs : List FieldId) (m : List ℕ) (further : List (List ℕ))
    → Among r rules → is_matched key r.matching ≡ true → Among m further
    → Among m (prefix_tests rules key r.matching.mask fs further)
prefixes-last rules key r [] m further among h last = last
prefixes-last rules key r (f ∷ fs) m further among h last = prefix-last rules key r f m _ among h (prefixes-last rules key r fs m further among h last)

probe-last : (rules : List Rule) (key : List ℕ) (r : Rule) → Among r rules → is_matched key r.matching ≡ true
    → Among r.matching.mask (probe rules key r.matching.mask)
unfolding probe
probe-last rules key r among h =
    stage-last rules key r metadata_stage _ _ among h
    (stage-last rules key r ethernet_stage _ _ among h
    (prefixes-last rules key r tracked_fields _ _ among h
    (stage-last rules key r network_stage _ _ among h (inl refl))))

-- the winner's mask is among those that the lookup consults
pub winner-Among : (rules : List Rule) (key : List ℕ) (w : Rule) → winner rules key ≡ Some w → Among w.matching.mask (consults rules key)
unfolding consults IsWinner
winner-Among rules key w e =
    let best = subst (λ (o : Option Rule). IsWinner rules key o) e (winner-IsWinner rules key) in
    let from : Among w (rules_from (priority_to_beat (winner rules key)) rules) =
    Among_in-filter (λ r. nat_le (priority_to_beat (winner rules key)) r.priority) w rules best.is_rule (ap (λ (o : Option Rule). nat_le (priority_to_beat o) w.priority) e ∙ self w.priority) in
    Among_in-flat_map (λ r. probe rules key r.matching.mask) w.matching.mask w (rules_from (priority_to_beat (winner rules key)) rules) from (probe-last rules key w best.is_rule best.matches)
  where
    self : (n : ℕ) → nat_le n n ≡ true
    self n = grind (arith, nat_tests)

-- ---- the same over masks

-- Where the masks are those of the rules, in any order and each as often as one likes, they consult the same.
pub added-masks : (rules : List Rule) (key : List ℕ) (rs : List Rule) (masks : List (List ℕ)) (z : List ℕ)
    → ((r : Rule) → Among r rs → Among r.matching.mask masks)
    → ((m : List ℕ) → Among m masks → (r : Rule) × Among r rs × (r.matching.mask ≡ m))
    → added z (flat_map (probe rules key) masks) ≡ added z (flat_map (λ r. probe rules key r.matching.mask) rs)
added-masks rules key rs masks z all only_those = added-same z (flat_map (probe rules key) masks) (flat_map (λ r. probe rules key r.matching.mask) rs) down up
  where
    down : (x : List ℕ) → Among x (flat_map (probe rules key) masks) → Among x (flat_map (λ r. probe rules key r.matching.mask) rs)
    down x h =
        let m = Among-flat_map (probe rules key) x masks h in
        let r = only_those m.0 m.1 in
        Among_in-flat_map (λ s. probe rules key s.matching.mask) x r.0 rs r.1 (subst (λ (n : List ℕ). Among x (probe rules key n)) (sym r.2) m.2)

    up : (x : List ℕ) → Among x (flat_map (λ r. probe rules key r.matching.mask) rs) → Among x (flat_map (probe rules key) masks)
    up x h =
        let r = Among-flat_map (λ s. probe rules key s.matching.mask) x rs h in
        Among_in-flat_map (probe rules key) x r.0.matching.mask masks (all r.0 r.1) r.2

-- ---- as the contracts have it

pub consults-winner : (rules : List Rule) (key : List ℕ)
    → IfSome (winner rules key) (λ w. covers (union (consults rules key)) w.matching.mask ≡ true)
consults-winner rules key = at (winner rules key) refl
  where
    at : (o : Option Rule) → winner rules key ≡ o → IfSome o (λ w. covers (union (consults rules key)) w.matching.mask ≡ true)
    at None e = tt
    at (Some w) e = covers_from-Within w.matching.mask (union (consults rules key)) (Within-added none w.matching.mask (consults rules key) (winner-Among rules key w e))

pub consults-masks : (rules : List Rule) (key : List ℕ) (masks : List (List ℕ))
    → AreMasksOf (rules_from (priority_to_beat (winner rules key)) rules) masks
    → (mask : List ℕ) → added mask (flat_map (probe rules key) masks) ≡ added mask (consults rules key)
unfolding consults
consults-masks rules key masks h z = added-masks rules key rs masks z every only
  where
    rs : List Rule
    rs = rules_from (priority_to_beat (winner rules key)) rules

    every : (r : Rule) → Among r (rules_from (priority_to_beat (winner rules key)) rules) → Among r.matching.mask masks
    every r a = Among_from-Contains masks r.matching.mask (All-Among (λ s. Contains masks s.matching.mask) rs h.every r a)

    only : (m : List ℕ) → Among m masks
        → (r : Rule) × Among r (rules_from (priority_to_beat (winner rules key)) rules) × (r.matching.mask ≡ m)
    only m a = let x = All-Among (λ n. Any (λ r. r.matching.mask ≡ n) rs) masks h.only m a in (x.1, Among_from-Contains rs x.1 (x.0, x.2, x.3), x.4)

pub winner-empty : (key : List ℕ) → IsNone (winner [] key)
unfolding winner
winner-empty key = refl

pub consults-empty : (key : List ℕ) → consults [] key ≡ []
unfolding consults
consults-empty key = refl
