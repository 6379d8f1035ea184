-- The winner is the best of the rules that match, and depends on the rules of its priority and above alone.
use Rattle.std.proofs.Common.{◌≡◌, ℕ, ◌≤◌, ◌<◌, Bool, true, false, nat_le, if◌then◌else◌, List, [], ◌∷◌, Option, Some, None, IfSome, IsNone, All, inl, inr, refl, sym, ap, ap₂, ◌∙◌, subst, arith, leb-true, leb-false, le_refl}
use Rattle.std.proofs.lemmas.Bool.Decides.{nat_tests}
use Rattle.spec_tables.specs.Rules.{Rule, is_matched, is_beaten, better, winner}
use Rattle.spec_xlate.specs.Lookup.{priority_to_beat}
use Rattle.table_laws.specs.Best.{IsBest}
use Rattle.table_laws.proofs.MemberLaws.{Among, Contains_from-Among, All_from-Among}

-- ---- the best rule

-- no rule beats the winner
pub record IsBestOf (rules : List Rule) (key : List ℕ) (w : Rule) : Type 0 where
  pub is_rule : Among w rules
  pub matches : is_matched key w.matching ≡ true
  pub highest : (r : Rule) → Among r rules → is_matched key r.matching ≡ true → r.priority ≤ w.priority
  pub least : (r : Rule) → Among r rules → is_matched key r.matching ≡ true → r.priority ≡ w.priority → w.number ≤ r.number

-- what the winner is: the best rule, or none where none matches
unfoldable pub IsWinner : List Rule → List ℕ → Option Rule → Type 0
IsWinner rules key None = (r : Rule) → Among r rules → is_matched key r.matching ≡ false
IsWinner rules key (Some w) = IsBestOf rules key w

first-IsBestOf : (r : Rule) (rs : List Rule) (key : List ℕ) → is_matched key r.matching ≡ true
    → ((s : Rule) → Among s rs → is_matched key s.matching ≡ false) → IsBestOf (r ∷ rs) key r
first-IsBestOf r rs key m none = record { is_rule = inl refl; matches = m; highest = highest; least = least }
  where
    highest : (s : Rule) → Among s (r ∷ rs) → is_matched key s.matching ≡ true → s.priority ≤ r.priority
    highest s (inl e) h = subst (λ (q : Rule). q.priority ≤ r.priority) (sym e) (le_refl r.priority)
    highest s (inr a) h = let f : true ≡ false = sym h ∙ none s a in absurd (cc)

    least : (s : Rule) → Among s (r ∷ rs) → is_matched key s.matching ≡ true → s.priority ≡ r.priority → r.number ≤ s.number
    least s (inl e) h p = subst (λ (q : Rule). r.number ≤ q.number) (sym e) (le_refl r.number)
    least s (inr a) h p = let f : true ≡ false = sym h ∙ none s a in absurd (cc)

-- a further rule that doesn't match
skipped-IsBestOf : (r : Rule) (rs : List Rule) (key : List ℕ) (w : Rule) → is_matched key r.matching ≡ false → IsBestOf rs key w
    → IsBestOf (r ∷ rs) key w
skipped-IsBestOf r rs key w m b = record { is_rule = inr b.is_rule; matches = b.matches; highest = highest; least = least }
  where
    highest : (s : Rule) → Among s (r ∷ rs) → is_matched key s.matching ≡ true → s.priority ≤ w.priority
    highest s (inl e) h = let f : true ≡ false = sym h ∙ ap (λ (q : Rule). is_matched key q.matching) e ∙ m in absurd (cc)
    highest s (inr a) h = b.highest s a h

    least : (s : Rule) → Among s (r ∷ rs) → is_matched key s.matching ≡ true → s.priority ≡ w.priority → w.number ≤ s.number
    least s (inl e) h p = let f : true ≡ false = sym h ∙ ap (λ (q : Rule). is_matched key q.matching) e ∙ m in absurd (cc)
    least s (inr a) h p = b.least s a h p

-- what the test of two rules says
beaten-true : (r s : Rule) → is_beaten r s ≡ true → (r.priority ≤ s.priority) × (r.priority ≡ s.priority → s.number ≤ r.number)
beaten-true r s h = (grind (arith, nat_tests), λ e. grind (arith, nat_tests))

beaten-false : (r s : Rule) → is_beaten r s ≡ false → (s.priority ≤ r.priority) × (s.priority ≡ r.priority → r.number ≤ s.number)
beaten-false r s h = (grind (arith, nat_tests), λ e. grind (arith, nat_tests))

-- a further rule that the best one beats
kept-IsBestOf : (r : Rule) (rs : List Rule) (key : List ℕ) (w : Rule) → is_beaten r w ≡ true → IsBestOf rs key w → IsBestOf (r ∷ rs) key w
kept-IsBestOf r rs key w m b = record { is_rule = inr b.is_rule; matches = b.matches; highest = highest; least = least }
  where
    highest : (s : Rule) → Among s (r ∷ rs) → is_matched key s.matching ≡ true → s.priority ≤ w.priority
    highest s (inl e) h = subst (λ (q : Rule). q.priority ≤ w.priority) (sym e) (beaten-true r w m).0
    highest s (inr a) h = b.highest s a h

    least : (s : Rule) → Among s (r ∷ rs) → is_matched key s.matching ≡ true → s.priority ≡ w.priority → w.number ≤ s.number
    least s (inl e) h p = subst (λ (q : Rule). w.number ≤ q.number) (sym e) ((beaten-true r w m).1 (ap (λ (q : Rule). q.priority) (sym e) ∙ p))
    least s (inr a) h p = b.least s a h p

-- a further rule that beats the best one
new-IsBestOf : (r : Rule) (rs : List Rule) (key : List ℕ) (w : Rule) → is_matched key r.matching ≡ true → is_beaten r w ≡ false
    → IsBestOf rs key w → IsBestOf (r ∷ rs) key r
new-IsBestOf r rs key w mr m b = record { is_rule = inl refl; matches = mr; highest = highest; least = least }
  where
    up : w.priority ≤ r.priority
    up = (beaten-false r w m).0

    highest : (s : Rule) → Among s (r ∷ rs) → is_matched key s.matching ≡ true → s.priority ≤ r.priority
    highest s (inl e) h = subst (λ (q : Rule). q.priority ≤ r.priority) (sym e) (le_refl r.priority)
    highest s (inr a) h = let u = up in let v = b.highest s a h in omega arith

    least : (s : Rule) → Among s (r ∷ rs) → is_matched key s.matching ≡ true → s.priority ≡ r.priority → r.number ≤ s.number
    least s (inl e) h p = subst (λ (q : Rule). r.number ≤ q.number) (sym e) (le_refl r.number)
    least s (inr a) h p =
        let u = up in let v = b.highest s a h in
        let x : s.priority ≡ w.priority = omega arith in
        let y = b.least s a h x in
        let z = (beaten-false r w m).1 (omega arith) in
        omega arith

pub winner-IsWinner : (rules : List Rule) (key : List ℕ) → IsWinner rules key (winner rules key)
unfolding winner IsWinner
winner-IsWinner [] key = λ r m. absurd m
winner-IsWinner (r ∷ rs) key = at (is_matched key r.matching) refl (winner rs key) (winner-IsWinner rs key)
  where
    pick : (s : Rule) → is_matched key r.matching ≡ true → (t : Bool) → is_beaten r s ≡ t → IsBestOf rs key s
        → IsWinner (r ∷ rs) key (if t then Some s else Some r)
    pick s m true e b = kept-IsBestOf r rs key s e b
    pick s m false e b = new-IsBestOf r rs key s m e b

    at : (t : Bool) → is_matched key r.matching ≡ t → (o : Option Rule) → IsWinner rs key o
        → IsWinner (r ∷ rs) key (if t then better r o else o)
    at true e None h = first-IsBestOf r rs key e h
    at true e (Some s) h = pick s e (is_beaten r s) refl h
    at false e None h = none
      where
        none : (s : Rule) → Among s (r ∷ rs) → is_matched key s.matching ≡ false
        none s (inl q) = ap (λ (x : Rule). is_matched key x.matching) q ∙ e
        none s (inr a) = h s a
    at false e (Some s) h = skipped-IsBestOf r rs key s e h

-- as the contract has it
pub winner-best : (rules : List Rule) (key : List ℕ) → IfSome (winner rules key) (λ w. IsBest rules key w)
unfolding IsWinner
winner-best rules key = at (winner rules key) (winner-IsWinner rules key)
  where
    best : (w : Rule) → IsBestOf rules key w → IsBest rules key w
    best w b = record {
      is_rule = Contains_from-Among rules w b.is_rule;
      matches = b.matches;
      highest = All_from-Among (λ r. is_matched key r.matching ≡ true → r.priority ≤ w.priority) rules b.highest;
      least = All_from-Among (λ r. is_matched key r.matching ≡ true → r.priority ≡ w.priority → w.number ≤ r.number) rules b.least;
    }

    at : (o : Option Rule) → IsWinner rules key o → IfSome o (λ w. IsBest rules key w)
    at None h = tt
    at (Some w) h = best w h

pub winner-none : (rules : List Rule) (key : List ℕ) → IsNone (winner rules key) → All (λ r. is_matched key r.matching ≡ false) rules
unfolding IsWinner
winner-none rules key e = All_from-Among (λ r. is_matched key r.matching ≡ false) rules (at (winner rules key) e (winner-IsWinner rules key))
  where
    at : (o : Option Rule) → IsNone o → IsWinner rules key o → (r : Rule) → Among r rules → is_matched key r.matching ≡ false
    at None n h = h
    at (Some w) n h = absurd (cc)

-- ---- the winner and the rules below it

-- the best of the rules of priority p and above
winner_above : ℕ → List Rule → List ℕ → Option Rule
winner_above p [] key = None
winner_above p (r ∷ rs) key = if nat_le p r.priority then (if is_matched key r.matching then better r (winner_above p rs key) else winner_above p rs key) else winner_above p rs key

-- the best of all rules, and the best of those of priority p and above
abbrev Above : ℕ → Option Rule → Option Rule → Type 0
Above p None None = Unit {0}
Above p None (Some t) = ⊥
Above p (Some s) None = s.priority < p
Above p (Some s) (Some t) = (s ≡ t) × (p ≤ t.priority)

better_none : (p : ℕ) (r : Rule) (b : Bool) (s : Rule) → r.priority < p → s.priority < p → Above p (if b then Some s else Some r) None
better_none p r true s h k = k
better_none p r false s h k = h

better_some : (p : ℕ) (r : Rule) (b : Bool) (s : Rule) → p ≤ r.priority → p ≤ s.priority
    → Above p (if b then Some s else Some r) (if b then Some s else Some r)
better_some p r true s h k = (refl, k)
better_some p r false s h k = (refl, h)

above-in : (p : ℕ) (r : Rule) (w v : Option Rule) → p ≤ r.priority → Above p w v → Above p (better r w) (better r v)
above-in p r None None h a = (refl, h)
above-in p r None (Some t) h a = absurd a
above-in p r (Some s) None h a = subst (λ (o : Option Rule). Above p o (Some r)) (sym less) (refl, h)
  where
    less : better r (Some s) ≡ Some r
    less = grind (arith, nat_tests)
above-in p r (Some s) (Some t) h a = subst (λ (q : Rule). Above p (better r (Some q)) (better r (Some t))) (sym a.0) (better_some p r (is_beaten r t) t h a.1)

above-out : (p : ℕ) (r : Rule) (w v : Option Rule) → r.priority < p → Above p w v → Above p (better r w) v
above-out p r None None h a = h
above-out p r None (Some t) h a = absurd a
above-out p r (Some s) None h a = better_none p r (is_beaten r s) s h a
above-out p r (Some s) (Some t) h a = subst (λ (o : Option Rule). Above p o (Some t)) (sym less) a
  where
    le : p ≤ s.priority
    le = subst (λ (q : Rule). p ≤ q.priority) (sym a.0) a.1

    less : better r (Some s) ≡ Some s
    less = let l = le in grind (arith, nat_tests)

winner-Above : (p : ℕ) (rs : List Rule) (key : List ℕ) → Above p (winner rs key) (winner_above p rs key)
unfolding winner winner_above
winner-Above p [] key = tt
winner-Above p (r ∷ rs) key = at (nat_le p r.priority) refl (is_matched key r.matching) (winner-Above p rs key)
  where
    at : (t : Bool) → nat_le p r.priority ≡ t → (u : Bool) → Above p (winner rs key) (winner_above p rs key)
        → Above p (if u then better r (winner rs key) else winner rs key) (if t then (if u then better r (winner_above p rs key) else winner_above p rs key) else winner_above p rs key)
    at true e true a = above-in p r (winner rs key) (winner_above p rs key) (leb-true p r.priority e) a
    at true e false a = a
    at false e true a = above-out p r (winner rs key) (winner_above p rs key) (leb-false p r.priority e) a
    at false e false a = a

-- both keys match or don't match each of the rules of priority p and above
abbrev pub MatchAlike : ℕ → List ℕ → List ℕ → List Rule → Type 0
MatchAlike p a b rules = (r : Rule) → Among r rules → nat_le p r.priority ≡ true → is_matched b r.matching ≡ is_matched a r.matching

winner_above-same : (p : ℕ) (rs : List Rule) (a b : List ℕ) → MatchAlike p a b rs → winner_above p rs b ≡ winner_above p rs a
unfolding winner_above
winner_above-same p [] a b h = refl
winner_above-same p (r ∷ rs) a b h = at (nat_le p r.priority) (h r (inl refl)) (winner_above-same p rs a b (λ s m. h s (inr m)))
  where
    at : (t : Bool) → (t ≡ true → is_matched b r.matching ≡ is_matched a r.matching) → winner_above p rs b ≡ winner_above p rs a
        → (if t then (if is_matched b r.matching then better r (winner_above p rs b) else winner_above p rs b) else winner_above p rs b)
        ≡ (if t then (if is_matched a r.matching then better r (winner_above p rs a) else winner_above p rs a) else winner_above p rs a)
    at true h ih = ap₂ (λ (u : Bool) (o : Option Rule). if u then better r o else o) (h refl) ih
    at false h ih = ih

pub winner-same : (rs : List Rule) (a b : List ℕ) → MatchAlike (priority_to_beat (winner rs a)) a b rs → winner rs b ≡ winner rs a
winner-same rs a b h =
    at (winner rs a) (winner rs b) (winner_above (priority_to_beat (winner rs a)) rs a) (winner_above (priority_to_beat (winner rs a)) rs b)
    (winner-Above (priority_to_beat (winner rs a)) rs a) (winner-Above (priority_to_beat (winner rs a)) rs b) (winner_above-same (priority_to_beat (winner rs a)) rs a b h)
  where
    at : (w v wa va : Option Rule) → Above (priority_to_beat w) w wa → Above (priority_to_beat w) v va → va ≡ wa → v ≡ w
    at None None wa va x y e = refl
    at None (Some s) None None x y e = absurd (omega arith)
    at None (Some s) None (Some t) x y e = cc
    at None (Some s) (Some t) va x y e = absurd x
    at (Some s) v None va x y e = absurd (omega arith)
    at (Some s) v (Some t) None x y e = cc
    at (Some s) None (Some t) (Some u) x y e = absurd y
    at (Some s) (Some q) (Some t) (Some u) x y e = let f = x.0 in let g = y.0 in cc
