-- What a lookup consults decides its winner, and what it consults: mask by mask, and stage by stage.
use Rattle.std.proofs.Common.{◌≡◌, ℕ, ◌≤◌, min, bit_and, Bool, true, false, ◌&&◌, not, ◌==◌, nat_le, if◌then◌else◌, List, [], ◌∷◌, ◌++◌, map, Option, inl, inr, refl, sym, ap, ap₂, ◌∙◌, eq-eqb, le_refl, le_trans}
use Rattle.std.specs.List.{list_any, flat_map}
use Rattle.std.proofs.Math.Nat.{min-le_right}
use Rattle.spec_base.specs.Bits.{leading_bits}
use Rattle.spec_keys.specs.declared.field_id.FieldId.{FieldId}
use Rattle.spec_keys.specs.Fields.{place_of, width_of, stages}
use Rattle.spec_keys.specs.Keys.{value_of, masked, same, agree}
use Rattle.spec_tables.specs.Rules.{Rule, is_matched, winner}
use Rattle.spec_keys.specs.Stages.{staged, metadata_stage, ethernet_stage, network_stage}
use Rattle.spec_xlate.specs.Lookup.{when, some_agrees, stage_test, prefix_of, prefixes, starts_alike, deciding, some_begins, tracked_fields, leading, prefix_test, prefix_tests, probe, priority_to_beat, rules_from, consults}
use Rattle.table_laws.proofs.KeyLaws.{SameBits, same_refl, same-eq, masked_through-same, number_at-masked, only_at-same, SameBits-append}
use Rattle.table_laws.proofs.MemberLaws.{Among, Among-filter, list_any-Among, Among_in-filter, Among_in-map}
use Rattle.table_laws.proofs.PrefixLaws.{length_up_to-le, prefix_length-is, prefixes-AreShort, deciding-same}
use Rattle.table_laws.proofs.WinnerLaws.{winner-same}

-- Where two keys have the same bits under the first list of masks, the second list is the same, and the rule matches
-- both or none.
abbrev Good : Rule → List ℕ → List ℕ → List (List ℕ) → List (List ℕ) → Type 0
Good r a b xs ys = SameBits a b xs → (ys ≡ xs) × (is_matched b r.matching ≡ is_matched a r.matching)

not-true : (t : Bool) → (t ≡ true → ⊥) → t ≡ false
not-true true h = absurd (h refl)
not-true false h = refl

both-false : (t u : Bool) → t ≡ false → u ≡ false → t ≡ u
both-false t u p q = p ∙ sym q

and-first : (t u : Bool) → t ≡ true → (t && u) ≡ false → u ≡ false
and-first true u e h = h
and-first false u e h = absurd (cc)

-- ---- stages

-- where no rule of its mask agrees on a part of it, this rule doesn't
none-agrees : (rules : List Rule) (r : Rule) (key part : List ℕ) → Among r rules
    → some_agrees rules key r.matching.mask part ≡ false → agree key r.matching.key part ≡ false
none-agrees rules r key part m h =
    and-first (same r.matching.mask r.matching.mask) (agree key r.matching.key part) (same_refl r.matching.mask)
    (list_any-Among (λ s. same s.matching.mask r.matching.mask && agree key s.matching.key part) r rules m h)

-- a key that doesn't agree with the rule on a part of its mask isn't matched
not-matched : (r : Rule) (k part : List ℕ)
    → (masked k r.matching.mask ≡ masked r.matching.key r.matching.mask → masked k part ≡ masked r.matching.key part)
    → agree k r.matching.key part ≡ false
    → is_matched k r.matching ≡ false
not-matched r k part less h = not-true _ (λ y. no (ap (same (masked k part)) (less (same-eq _ _ y)) ∙ h))
  where
    no : same (masked k part) (masked k part) ≡ false → ⊥
    no q = let p = same_refl (masked k part) in cc

stage-good : (rules : List Rule) (r : Rule) (a b : List ℕ) (stage : ℕ) (xs ys : List (List ℕ)) → Among r rules → Good r a b xs ys
    → Good r a b (stage_test rules a r.matching.mask stage xs) (stage_test rules b r.matching.mask stage ys)
stage-good rules r a b stage xs ys m good h = at (some_agrees rules a r.matching.mask (staged stage r.matching.mask)) refl alike h.1
  where
    less : (k : List ℕ) → masked k r.matching.mask ≡ masked r.matching.key r.matching.mask
        → masked k (staged stage r.matching.mask) ≡ masked r.matching.key (staged stage r.matching.mask)
    less k e = masked_through-same stage stages k r.matching.key r.matching.mask e

    alike : some_agrees rules b r.matching.mask (staged stage r.matching.mask) ≡ some_agrees rules a r.matching.mask (staged stage r.matching.mask)
    alike = ap (λ (z : List ℕ). list_any (λ s. same s.matching.mask r.matching.mask && same z (masked s.matching.key (staged stage r.matching.mask))) rules) (sym h.0)

    at : (t : Bool) → some_agrees rules a r.matching.mask (staged stage r.matching.mask) ≡ t
        → some_agrees rules b r.matching.mask (staged stage r.matching.mask) ≡ some_agrees rules a r.matching.mask (staged stage r.matching.mask)
        → SameBits a b (when t xs)
        → (stage_test rules b r.matching.mask stage ys ≡ stage_test rules a r.matching.mask stage xs) × (is_matched b r.matching ≡ is_matched a r.matching)
    at true e f k =
        let g = good k in
        (ap₂ (λ (t : Bool) (z : List (List ℕ)). staged stage r.matching.mask ∷ when t z) f g.0, g.1)
    at false e f k = (
      ap (λ (t : Bool). staged stage r.matching.mask ∷ when t ys) (f ∙ e) ∙ ap (λ (t : Bool). staged stage r.matching.mask ∷ when t xs) (sym e),
      both-false _ _
          (not-matched r b (staged stage r.matching.mask) (less b) (none-agrees rules r b (staged stage r.matching.mask) m (f ∙ e)))
          (not-matched r a (staged stage r.matching.mask) (less a) (none-agrees rules r a (staged stage r.matching.mask) m e)),
    )

-- ---- prefixes

-- the length of the prefix of a field that a rule states
abbrev length_in : FieldId → Rule → ℕ
length_in f r = (prefix_of f r).length

-- where no prefix of its length matches, that of this rule doesn't
none-begins : (rules : List Rule) (r : Rule) (f : FieldId) (x : ℕ) → (length_in f r == 0) ≡ false → Among r rules
    → some_begins (width_of f) x (length_in f r) (prefixes f rules) ≡ false
    → starts_alike (width_of f) x (value_of r.matching.key f) (length_in f r) ≡ false
none-begins rules r f x long m h =
    and-first (length_in f r == length_in f r) _ (eq-eqb (length_in f r) (length_in f r) refl)
    (list_any-Among (λ p. (p.length == length_in f r) && starts_alike (width_of f) x p.value p.length) (prefix_of f r) (prefixes f rules) among h)
  where
    among : Among (prefix_of f r) (prefixes f rules)
    among = Among_in-filter (λ p. not (p.length == 0)) (prefix_of f r) (map (prefix_of f) rules) (Among_in-map (prefix_of f) r rules m) (ap not long)

not-matched-prefix : (r : Rule) (k : List ℕ) (f : FieldId) → (length_in f r == 0) ≡ false
    → starts_alike (width_of f) (value_of k f) (value_of r.matching.key f) (length_in f r) ≡ false
    → is_matched k r.matching ≡ false
not-matched-prefix r k f long h = not-true _ (λ y. no (eq-eqb _ _ (bits (same-eq _ _ y))))
  where
    is : value_of r.matching.mask f ≡ leading_bits (width_of f) (length_in f r)
    is = prefix_length-is (width_of f) (value_of r.matching.mask f) long

    bits : masked k r.matching.mask ≡ masked r.matching.key r.matching.mask
        → bit_and (value_of k f) (leading_bits (width_of f) (length_in f r)) ≡ bit_and (value_of r.matching.key f) (leading_bits (width_of f) (length_in f r))
    bits e =
        ap (bit_and (value_of k f)) (sym is) ∙ sym (number_at-masked k r.matching.mask (place_of f)) ∙ ap (λ (z : List ℕ). value_of z f) e
        ∙ number_at-masked r.matching.key r.matching.mask (place_of f) ∙ ap (bit_and (value_of r.matching.key f)) is

    no : starts_alike (width_of f) (value_of k f) (value_of r.matching.key f) (length_in f r) ≡ true → ⊥
    no q = let p = h in cc

-- both take the same branch
if-good : (r : Rule) (a b : List ℕ) (t : Bool) (xs ys xs' ys' : List (List ℕ)) → (t ≡ true → Good r a b xs ys)
    → (t ≡ false → Good r a b xs' ys') → Good r a b (if t then xs else xs') (if t then ys else ys')
if-good r a b true xs ys xs' ys' p q = p refl
if-good r a b false xs ys xs' ys' p q = q refl

-- what the first consults makes the second take the same branch
branch-good : (r : Rule) (a b : List ℕ) (t u : Bool) (xs ys xs' ys' : List (List ℕ))
    → (t ≡ true → SameBits a b xs → (u ≡ t) × ((ys ≡ xs) × (is_matched b r.matching ≡ is_matched a r.matching)))
    → (t ≡ false → SameBits a b xs' → (u ≡ t) × ((ys' ≡ xs') × (is_matched b r.matching ≡ is_matched a r.matching)))
    → Good r a b (if t then xs else xs') (if u then ys else ys')
branch-good r a b true true xs ys xs' ys' p q h = (p refl h).1
branch-good r a b true false xs ys xs' ys' p q h = let e : false ≡ true = (p refl h).0 in absurd (cc)
branch-good r a b false true xs ys xs' ys' p q h = let e : true ≡ false = (q refl h).0 in absurd (cc)
branch-good r a b false false xs ys xs' ys' p q h = (q refl h).1

prefix-good : (rules : List Rule) (r : Rule) (a b : List ℕ) (f : FieldId) (xs ys : List (List ℕ)) → Among r rules → Good r a b xs ys
    → Good r a b (prefix_test rules a r.matching.mask f xs) (prefix_test rules b r.matching.mask f ys)
prefix-good rules r a b f xs ys m good =
    if-good r a b (length_in f r == 0) _ _ _ _ (λ t. good)
    (λ long. branch-good r a b (some_begins (width_of f) (value_of a f) (length_in f r) (prefixes f rules)) (some_begins (width_of f) (value_of b f) (length_in f r) (prefixes f rules)) _ _ _ _ here (ends long))
  where
    within : length_in f r ≤ width_of f
    within = length_up_to-le (width_of f) (value_of r.matching.mask f) (width_of f)

    here : some_begins (width_of f) (value_of a f) (length_in f r) (prefixes f rules) ≡ true → SameBits a b (leading f (length_in f r) ∷ xs)
        → (some_begins (width_of f) (value_of b f) (length_in f r) (prefixes f rules) ≡ some_begins (width_of f) (value_of a f) (length_in f r) (prefixes f rules))
        × (((leading f (length_in f r) ∷ ys) ≡ (leading f (length_in f r) ∷ xs)) × (is_matched b r.matching ≡ is_matched a r.matching))
    here t h =
        let g = good h.1 in
        let d = deciding-same (prefixes f rules) (width_of f) (value_of a f) (value_of b f) (length_in f r) (length_in f r) (prefixes-AreShort f rules) within (le_refl _)
        (only_at-same a b (place_of f) (leading_bits (width_of f) (length_in f r)) h.0) (min-le_right _ _) in
        (d.1, (ap (λ (z : List (List ℕ)). leading f (length_in f r) ∷ z) g.0, g.1))

    ends : (length_in f r == 0) ≡ false → some_begins (width_of f) (value_of a f) (length_in f r) (prefixes f rules) ≡ false
        → SameBits a b (leading f (min (deciding (width_of f) (value_of a f) (prefixes f rules)) (length_in f r)) ∷ [])
        → (some_begins (width_of f) (value_of b f) (length_in f r) (prefixes f rules) ≡ some_begins (width_of f) (value_of a f) (length_in f r) (prefixes f rules))
        × (((leading f (min (deciding (width_of f) (value_of b f) (prefixes f rules)) (length_in f r)) ∷ []) ≡ (leading f (min (deciding (width_of f) (value_of a f) (prefixes f rules)) (length_in f r)) ∷ []))
        × (is_matched b r.matching ≡ is_matched a r.matching))
    ends long t h =
        let short : min (deciding (width_of f) (value_of a f) (prefixes f rules)) (length_in f r) ≤ length_in f r = min-le_right _ _ in
        let d = deciding-same (prefixes f rules) (width_of f) (value_of a f) (value_of b f) (length_in f r) (min (deciding (width_of f) (value_of a f) (prefixes f rules)) (length_in f r)) (prefixes-AreShort f rules)
        (le_trans short within) short (only_at-same a b (place_of f) (leading_bits (width_of f) (min (deciding (width_of f) (value_of a f) (prefixes f rules)) (length_in f r))) h.0) (le_refl _) in (
          d.1,
          (
            ap (λ (n : ℕ). leading f n ∷ []) d.0,
            both-false _ _
                (not-matched-prefix r b f long (none-begins rules r f (value_of b f) long m (d.1 ∙ t)))
                (not-matched-prefix r a f long (none-begins rules r f (value_of a f) long m t)),
          ),
        )

prefixes-good : (rules : List Rule) (r : Rule) (a b : List ℕ) (fs : List FieldId) (xs ys : List (List ℕ)) → Among r rules → Good r a b xs ys
    → Good r a b (prefix_tests rules a r.matching.mask fs xs) (prefix_tests rules b r.matching.mask fs ys)
prefixes-good rules r a b [] xs ys m good = good
prefixes-good rules r a b (f ∷ fs) xs ys m good = prefix-good rules r a b f _ _ m (prefixes-good rules r a b fs xs ys m good)

-- ---- one mask, and all

last-good : (r : Rule) (a b : List ℕ) → Good r a b (r.matching.mask ∷ []) (r.matching.mask ∷ [])
last-good r a b h = (refl, ap (λ (z : List ℕ). same z (masked r.matching.key r.matching.mask)) (sym h.0))

probe-good : (rules : List Rule) (r : Rule) (a b : List ℕ) → Among r rules
    → Good r a b (probe rules a r.matching.mask) (probe rules b r.matching.mask)
unfolding probe
probe-good rules r a b m =
    stage-good rules r a b metadata_stage _ _ m
    (stage-good rules r a b ethernet_stage _ _ m
    (prefixes-good rules r a b tracked_fields _ _ m
    (stage-good rules r a b network_stage _ _ m
    (last-good r a b))))

-- the masks that the rules of a list consult
abbrev probes : List Rule → List ℕ → List Rule → List (List ℕ)
probes rules key rs = flat_map (λ r. probe rules key r.matching.mask) rs

probes-same : (rules rs : List Rule) (a b : List ℕ) → ((r : Rule) → Among r rs → Among r rules) → SameBits a b (probes rules a rs)
    → (probes rules b rs ≡ probes rules a rs) × ((r : Rule) → Among r rs → is_matched b r.matching ≡ is_matched a r.matching)
probes-same rules [] a b sub h = (refl, λ r m. absurd m)
probes-same rules (r ∷ rs) a b sub h =
    let parts = SameBits-append a b (probe rules a r.matching.mask) (probes rules a rs) h in
    let ih = probes-same rules rs a b (λ q m. sub q (inr m)) parts.1 in
    let g = probe-good rules r a b (sub r (inl refl)) parts.0 in
    (ap₂ (λ (x y : List (List ℕ)). x ++ y) g.0 ih.0, all g.1 ih.1)
  where
    all : is_matched b r.matching ≡ is_matched a r.matching → ((q : Rule) → Among q rs → is_matched b q.matching ≡ is_matched a q.matching)
        → (q : Rule) → Among q (r ∷ rs) → is_matched b q.matching ≡ is_matched a q.matching
    all e ih q (inl i) = ap (λ (z : Rule). is_matched b z.matching) i ∙ e ∙ sym (ap (λ (z : Rule). is_matched a z.matching) i)
    all e ih q (inr m) = ih q m

-- what keys that have the same bits under all that the lookup of the first one consults have in common
pub record LookupAlike (rules : List Rule) (a b : List ℕ) : Type 0 where
  pub same_winner : winner rules b ≡ winner rules a
  pub same_bits : consults rules b ≡ consults rules a

pub lookup-sound : (rules : List Rule) (a b : List ℕ) → SameBits a b (consults rules a) → LookupAlike rules a b
unfolding consults
lookup-sound rules a b h =
    let p = probes-same rules (rules_from (priority_to_beat (winner rules a)) rules) a b
    (λ r m. (Among-filter (λ s. nat_le (priority_to_beat (winner rules a)) s.priority) r rules m).0) h in
    let w = winner-same rules a b (λ r m e. p.1 r (Among_in-filter (λ s. nat_le (priority_to_beat (winner rules a)) s.priority) r rules m e)) in
    record { same_winner = w; same_bits = ap (λ (o : Option Rule). probes rules b (rules_from (priority_to_beat o) rules)) w ∙ p.0 }
