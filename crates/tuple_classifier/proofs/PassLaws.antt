-- One pass over subtables in the order of falling priorities: the winner so far, what was consulted, and where it may end.
use Rattle.std.proofs.Common.{◌≡◌, ℕ, zero, suc, ◌+◌, ◌≤◌, ◌<◌, Bool, true, false, ◌&&◌, ◌||◌, ◌==◌, nat_lt, nat_le, if◌then◌else◌, List, [], ◌∷◌, ◌++◌, length, get_or, take, drop, slice_get, Option, Some, None, inl, inr, ◌⊎◌, refl, sym, ap, ap₂, ◌∙◌, subst, arith, append-nil, append_assoc}
use Rattle.std.specs.List.{flat_map}
use Rattle.std.specs.Option.{option_map}
use Rattle.std.proofs.lemmas.Bool.{cond-true, cond-false, false≢true, le-leb, cases_lt, false_from_ne_true}
use Rattle.std.proofs.lemmas.Bool.Decides.{nat_tests}
use Rattle.std.proofs.lemmas.Option.{same_Some}
use Rattle.std.proofs.lemmas.List.{take_more, take-append-drop}
use Rattle.spec_tables.specs.Rules.{Rule, winner}
use Rattle.spec_xlate.specs.Lookup.{added, consults, probe}
use Rattle.table_laws.proofs.MemberLaws.{Among, list_any_from-Among}
use Rattle.table_laws.proofs.UnionLaws.{added-append}
use Rattle.table_laws.proofs.WinnerLaws.{IsWinner, winner-IsWinner}
use Rattle.ovs_fields.specs.Packed.{bits}
use Rattle.staged_lookup.specs.declared.rank.Rank.{Rank}
use Rattle.tuple_classifier.specs.declared.subtable.Subtable.{Subtable}
use Rattle.staged_lookup.specs.Numbered.{AreDistinct}
use Rattle.tuple_classifier.specs.Numbers.{numbers_in}
use Rattle.tuple_classifier.specs.Order.{AreRankedOf, has_from}
use Rattle.tuple_classifier.specs.Parts.{AreSubtablesOf, of_mask, by_masks, reaches, gathered}
use Rattle.tuple_classifier.specs.Ranks.{rank_of, is_outranked, best_of_pair, floor_of}
use Rattle.tuple_classifier.proofs.PartLaws.{gathered_consults, place_among, here}
use Rattle.tuple_classifier.proofs.PriorityLaws.{any_priority}
use Rattle.tuple_classifier.proofs.WinnerLaws.{best_in, best-append, best_of_all, passed_over, floor_beats, better-two, best-none}

-- ---- the better of two, in either order

not_both : (p q n m : ℕ) → (nat_lt p q || ((p == q) && nat_lt m n)) ≡ true → (nat_lt q p || ((q == p) && nat_lt n m)) ≡ false
not_both p q n m h = grind (arith, nat_tests)

neither : (p q n m : ℕ) → (nat_lt p q || ((p == q) && nat_lt m n)) ≡ false → (nat_lt q p || ((q == p) && nat_lt n m)) ≡ false → (p ≡ q) × (n ≡ m)
neither p q n m h k = (grind (arith, nat_tests), grind (arith, nat_tests))

pub best-turned : (o p : Option Rank) → best_of_pair o p ≡ best_of_pair p o
best-turned None None = refl
best-turned None (Some s) = refl
best-turned (Some r) None = refl
best-turned (Some r) (Some s) = at (is_outranked r s) (is_outranked s r) refl refl
  where
    made : ℕ → ℕ → Rank
    made a b = record { priority = a; number = b }

    at : (t u : Bool) → is_outranked r s ≡ t → is_outranked s r ≡ u → (if t then Some s else Some r) ≡ (if u then Some r else Some s)
    at true true e f = absurd (false≢true (sym (not_both r.priority s.priority r.number s.number e) ∙ f))
    at true false e f = refl
    at false true e f = refl
    at false false e f = let n = neither r.priority s.priority r.number s.number e f in ap Some (ap₂ made n.0 n.1)

pub best-grouped : (o p q : Option Rank) → best_of_pair (best_of_pair o p) q ≡ best_of_pair o (best_of_pair p q)
best-grouped None p q = refl
best-grouped (Some r) p q = sym (better-two r p q)

-- ---- the winner so far

pub by_masks-append : (rs : List Rule) (xs ys : List Subtable) → by_masks rs (xs ++ ys) ≡ by_masks rs xs ++ by_masks rs ys
by_masks-append rs [] ys = refl
by_masks-append rs (s ∷ xs) ys =
    ap (λ (qs : List Rule). of_mask (bits s.staged.mask) rs ++ qs) (by_masks-append rs xs ys) ∙ sym (append_assoc (of_mask (bits s.staged.mask) rs) (by_masks rs xs) (by_masks rs ys))

-- the better of the winner so far and that of the next mask
pub best_step : (key : List ℕ) (rs : List Rule) (before : List Subtable) (s : Subtable) (best now : Option Rank) → best ≡ best_in (by_masks rs before) key
    → now ≡ best_of_pair (best_in (of_mask (bits s.staged.mask) rs) key) best → now ≡ best_in (by_masks rs (before ++ s ∷ [])) key
best_step key rs before s best now so_far made =
    made ∙ best-turned (best_in (of_mask (bits s.staged.mask) rs) key) best
    ∙ ap₂ best_of_pair so_far (ap (λ (qs : List Rule). best_in qs key) (sym (append-nil (of_mask (bits s.staged.mask) rs))))
    ∙ sym (best-append key (by_masks rs before) (of_mask (bits s.staged.mask) rs ++ []))
    ∙ sym (ap (λ (qs : List Rule). best_in qs key) (by_masks-append rs before (s ∷ [])))

-- ---- where it may end

rest_passed : (key : List ℕ) (rs : List Rule) (rest : List Subtable) (best : Option Rank) → ((s : Subtable) → Among s rest → reaches (floor_of best) (of_mask (bits s.staged.mask) rs) ≡ false)
    → best_of_pair (best_in (by_masks rs rest) key) best ≡ best
rest_passed key rs [] best none = ap (λ (o : Option Rank). best_of_pair o best) (best-none key)
rest_passed key rs (s ∷ rest) best none =
    ap (λ (o : Option Rank). best_of_pair o best) (best-append key (of_mask (bits s.staged.mask) rs) (by_masks rs rest))
    ∙ best-grouped (best_in (of_mask (bits s.staged.mask) rs) key) (best_in (by_masks rs rest) key) best
    ∙ ap (best_of_pair (best_in (of_mask (bits s.staged.mask) rs) key)) (rest_passed key rs rest best (λ t m. none t (inr m)))
    ∙ passed_over key (of_mask (bits s.staged.mask) rs) best (none s (inl refl))

-- the winner of the masks before is that of all
pub best_at_end : (key : List ℕ) (rs : List Rule) (before rest : List Subtable) (best : Option Rank) → AreSubtablesOf (before ++ rest) rs → AreDistinct rs
    → best ≡ best_in (by_masks rs before) key → ((s : Subtable) → Among s rest → reaches (floor_of best) (of_mask (bits s.staged.mask) rs) ≡ false)
    → best ≡ best_in rs key
best_at_end key rs before rest best are distinct is none =
    best_of_all key rs (before ++ rest) best are distinct
    (sym (rest_passed key rs rest best none) ∙ best-turned (best_in (by_masks rs rest) key) best ∙ ap (λ (o : Option Rank). best_of_pair o (best_in (by_masks rs rest) key)) is
    ∙ sym (best-append key (by_masks rs before) (by_masks rs rest)) ∙ sym (ap (λ (qs : List Rule). best_in qs key) (by_masks-append rs before rest)))

-- ---- what was consulted

-- what all of the masks consult
abbrev pub probes : List ℕ → List Rule → List Subtable → List (List ℕ)
probes key rs ss = flat_map (λ s. probe rs key (bits s.staged.mask)) ss

gathered_all : (key : List ℕ) (floor : ℕ) (rs : List Rule) (before rest : List Subtable) → ((s : Subtable) → Among s before → reaches floor (of_mask (bits s.staged.mask) rs) ≡ true)
    → ((s : Subtable) → Among s rest → reaches floor (of_mask (bits s.staged.mask) rs) ≡ false) → gathered key floor rs (before ++ rest) ≡ probes key rs before
gathered_all key floor rs [] [] all none = refl
gathered_all key floor rs [] (s ∷ rest) all none =
    ap₂ (λ (xs ys : List (List ℕ)). xs ++ ys) (cond-false (reaches floor (of_mask (bits s.staged.mask) rs)) (probe rs key (bits s.staged.mask)) [] (none s (inl refl)))
    (gathered_all key floor rs [] rest all (λ t m. none t (inr m)))
gathered_all key floor rs (s ∷ before) rest all none =
    ap₂ (λ (xs ys : List (List ℕ)). xs ++ ys) (cond-true (reaches floor (of_mask (bits s.staged.mask) rs)) (probe rs key (bits s.staged.mask)) [] (all s (inl refl)))
    (gathered_all key floor rs before rest (λ t m. all t (inr m)) none)

-- what the masks before consult is what the lookup does
pub consulted_at_end : (key old : List ℕ) (rs : List Rule) (before rest : List Subtable) (best : Option Rank) → AreSubtablesOf (before ++ rest) rs → best ≡ best_in rs key
    → ((s : Subtable) → Among s before → reaches (floor_of best) (of_mask (bits s.staged.mask) rs) ≡ true) → ((s : Subtable) → Among s rest → reaches (floor_of best) (of_mask (bits s.staged.mask) rs) ≡ false)
    → added old (probes key rs before) ≡ added old (consults rs key)
consulted_at_end key old rs before rest best are is all none =
    ap (added old) (sym (gathered_all key (floor_of best) rs before rest all none))
    ∙ gathered_consults key (floor_of best) rs (before ++ rest) old are (floor_beats best (winner rs key) is)

-- ---- as the loop goes

among_take : {X : Type 0} (xs : List X) (i : ℕ) (x : X) → Among x (take i xs) → (j : ℕ) × (j < i) × (slice_get xs j ≡ Some x)
among_take xs zero x m = absurd m
among_take [] (suc i) x m = absurd m
among_take (y ∷ xs) (suc i) x (inl e) = (0, omega arith, ap Some (sym e))
among_take (y ∷ xs) (suc i) x (inr m) = let r = among_take xs i x m in (suc r.0, (let l = r.1 in omega (arith, l)), r.2)

among_drop : {X : Type 0} (xs : List X) (i : ℕ) (x : X) → Among x (drop i xs) → (j : ℕ) × (i ≤ j) × (slice_get xs j ≡ Some x)
among_drop xs zero x m = let r = place_among x xs m in (r.0, omega arith, r.1)
among_drop [] (suc i) x m = absurd m
among_drop (y ∷ xs) (suc i) x m = let r = among_drop xs i x m in (suc r.0, (let l = r.1 in omega (arith, l)), r.2)

probes-append : (key : List ℕ) (rs : List Rule) (xs ys : List Subtable) → probes key rs (xs ++ ys) ≡ probes key rs xs ++ probes key rs ys
probes-append key rs [] ys = refl
probes-append key rs (s ∷ xs) ys =
    ap (λ (ms : List (List ℕ)). probe rs key (bits s.staged.mask) ++ ms) (probes-append key rs xs ys) ∙ sym (append_assoc (probe rs key (bits s.staged.mask)) (probes key rs xs) (probes key rs ys))

-- the better of two is one of them
one_of_pair : (o best now : Option Rank) → now ≡ best_of_pair o best → (now ≡ best) ⊎ ((r : Rank) × (o ≡ Some r) × (now ≡ Some r))
one_of_pair None best now e = inl e
one_of_pair (Some r) None now e = inr (r, refl, e)
one_of_pair (Some r) (Some s) now e = at (is_outranked r s) e
  where
    at : (t : Bool) → now ≡ (if t then Some s else Some r) → (now ≡ Some s) ⊎ ((q : Rank) × (Some r ≡ Some q) × (now ≡ Some q))
    at true e = inl e
    at false e = inr (r, refl, e)

reaches_own : (rs : List Rule) (key : List ℕ) (r : Rank) → best_in rs key ≡ Some r → reaches r.priority rs ≡ true
unfolding IsWinner
reaches_own rs key r is = at (winner rs key) (winner-IsWinner rs key) is
  where
    at : (o : Option Rule) → IsWinner rs key o → option_map rank_of o ≡ Some r → reaches r.priority rs ≡ true
    at None w e = absurd (cc)
    at (Some w) b e =
        let same : rank_of w ≡ r = same_Some (rank_of w) r e in
        let p = ap (λ (k : Rank). k.priority) same in
        list_any_from-Among (λ (x : Rule). nat_le r.priority x.priority) w rs b.is_rule (le-leb r.priority w.priority (omega (arith, p)))

-- what holds of the masks before a place
pub record IsPassed (key old : List ℕ) (rs : List Rule) (ss : List Subtable) (i : ℕ) (best : Option Rank) (consulted : List ℕ) : Type 0 where
  pub best_is : best ≡ best_in (by_masks rs (take i ss)) key
  pub consulted_is : consulted ≡ added old (probes key rs (take i ss))
  pub reached : (j : ℕ) (s : Subtable) → j < i → slice_get ss j ≡ Some s → reaches (floor_of best) (of_mask (bits s.staged.mask) rs) ≡ true

module _ (key old : List ℕ) (rs : List Rule) (ss : List Subtable) where
  pub passed_none : IsPassed key old rs ss 0 None old
  passed_none = record { best_is = sym (best-none key); consulted_is = refl; reached = λ j s less at. absurd (omega (arith, less)) }

  module _ (are : AreRankedOf ss rs) where
    from_order : (i : ℕ) (s : Subtable) (floor : ℕ) → slice_get ss i ≡ Some s → has_from floor s.indexes ≡ reaches floor (of_mask (bits s.staged.mask) rs)
    from_order i s floor at =
        any_priority (of_mask (bits s.staged.mask) rs) (numbers_in s.indexes.priorities.items.items) (are.subtables.each i s at).indexed.prioritised (λ n. nat_le floor n)

    -- what a mask reaches, each mask before it does
    falls : (i j : ℕ) (s t : Subtable) (floor : ℕ) → i < j → slice_get ss i ≡ Some s → slice_get ss j ≡ Some t → reaches floor (of_mask (bits t.staged.mask) rs) ≡ true
        → reaches floor (of_mask (bits s.staged.mask) rs) ≡ true
    falls i j s t floor less at_i at_j h = sym (from_order i s floor at_i) ∙ are.falling i j s t less at_i at_j floor (from_order j t floor at_j ∙ h)

    -- so those after one that doesn't don't either
    pub stopped : (i : ℕ) (s : Subtable) (floor : ℕ) → slice_get ss i ≡ Some s → reaches floor (of_mask (bits s.staged.mask) rs) ≡ false
        → (j : ℕ) (t : Subtable) → i ≤ j → slice_get ss j ≡ Some t → reaches floor (of_mask (bits t.staged.mask) rs) ≡ false
    stopped i s floor at_i none j t le at_j = by (cases_lt i j)
      where
        by : (i < j) ⊎ (j ≤ i) → reaches floor (of_mask (bits t.staged.mask) rs) ≡ false
        by (inl less) = false_from_ne_true _ (λ e. false≢true (sym none ∙ falls i j s t floor less at_i at_j e))
        by (inr ge) =
            let e : j ≡ i = omega arith in
            let same : t ≡ s = same_Some t s (sym at_j ∙ ap (slice_get ss) e ∙ at_i) in
            ap (λ (u : Subtable). reaches floor (of_mask (bits u.staged.mask) rs)) same ∙ none

    pub passed_more : (i : ℕ) (s : Subtable) (o best now : Option Rank) (c c' : List ℕ) → i < length ss → s ≡ get_or ss i s → reaches (floor_of best) (of_mask (bits s.staged.mask) rs) ≡ true
        → o ≡ best_in (of_mask (bits s.staged.mask) rs) key → c' ≡ added c (probe rs key (bits s.staged.mask)) → now ≡ best_of_pair o best
        → IsPassed key old rs ss i best c → IsPassed key old rs ss (i + 1) now c'
    passed_more i s o best now c c' le is test own made better so_far = record {
      best_is = best_step key rs (take i ss) s best now so_far.best_is (better ∙ ap (λ (p : Option Rank). best_of_pair p best) own)
          ∙ ap (λ (ts : List Subtable). best_in (by_masks rs ts) key) (sym more);
      consulted_is = made ∙ ap (λ (z : List ℕ). added z (probe rs key (bits s.staged.mask))) so_far.consulted_is
          ∙ sym (added-append old (probes key rs (take i ss)) (probe rs key (bits s.staged.mask)))
          ∙ ap (λ (ms : List (List ℕ)). added old (probes key rs (take i ss) ++ ms)) (sym (append-nil (probe rs key (bits s.staged.mask))))
          ∙ ap (added old) (sym (probes-append key rs (take i ss) (s ∷ [])))
          ∙ ap (λ (ts : List Subtable). added old (probes key rs ts)) (sym more);
      reached = λ j t less at. by j t at (cases_lt j i) less (one_of_pair o best now better);
    }
      where
        more : take (i + 1) ss ≡ take i ss ++ s ∷ []
        more = take_more ss i s le ∙ ap (λ (x : Subtable). take i ss ++ x ∷ []) (sym is)

        there : slice_get ss i ≡ Some s
        there = here ss i s le is

        -- the mask itself and those before it reach what it reaches
        with_it : (j : ℕ) (t : Subtable) (floor : ℕ) → slice_get ss j ≡ Some t → (j < i) ⊎ (i ≤ j) → j < i + 1 → reaches floor (of_mask (bits s.staged.mask) rs) ≡ true
            → reaches floor (of_mask (bits t.staged.mask) rs) ≡ true
        with_it j t floor at (inl less) below h = falls j i t s floor less at there h
        with_it j t floor at (inr ge) below h =
            let e : j ≡ i = omega arith in
            let same : t ≡ s = same_Some t s (sym at ∙ ap (slice_get ss) e ∙ there) in
            ap (λ (u : Subtable). reaches floor (of_mask (bits u.staged.mask) rs)) same ∙ h

        by : (j : ℕ) (t : Subtable) → slice_get ss j ≡ Some t → (j < i) ⊎ (i ≤ j) → j < i + 1 → (now ≡ best) ⊎ ((r : Rank) × (o ≡ Some r) × (now ≡ Some r))
            → reaches (floor_of now) (of_mask (bits t.staged.mask) rs) ≡ true
        by j t at side below (inl e) = ap (λ (b : Option Rank). reaches (floor_of b) (of_mask (bits t.staged.mask) rs)) e ∙ with_it j t (floor_of best) at side below test
        by j t at side below (inr r) =
            ap (λ (b : Option Rank). reaches (floor_of b) (of_mask (bits t.staged.mask) rs)) r.2
            ∙ with_it j t r.0.priority at side below (reaches_own (of_mask (bits s.staged.mask) rs) key r.0 (sym own ∙ r.1))

    -- where the walk ends
    module _ (i : ℕ) (best : Option Rank) (c : List ℕ) (passed : IsPassed key old rs ss i best c)
        (none : (j : ℕ) (t : Subtable) → i ≤ j → slice_get ss j ≡ Some t → reaches (floor_of best) (of_mask (bits t.staged.mask) rs) ≡ false) where
      both : AreSubtablesOf (take i ss ++ drop i ss) rs
      both = subst (λ (ts : List Subtable). AreSubtablesOf ts rs) (sym (take-append-drop i ss)) are.subtables

      rest : (s : Subtable) → Among s (drop i ss) → reaches (floor_of best) (of_mask (bits s.staged.mask) rs) ≡ false
      rest s m = let d = among_drop ss i s m in none d.0 s d.1 d.2

      pub winner_at_end : AreDistinct rs → best ≡ best_in rs key
      winner_at_end distinct = best_at_end key rs (take i ss) (drop i ss) best both distinct passed.best_is rest

      pub all_consulted : AreDistinct rs → c ≡ added old (consults rs key)
      all_consulted distinct =
          passed.consulted_is
          ∙ consulted_at_end key old rs (take i ss) (drop i ss) best both (winner_at_end distinct)
          (λ s m. let t = among_take ss i s m in passed.reached t.0 s t.1 t.2) rest
