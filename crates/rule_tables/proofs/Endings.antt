-- The stored rules once an edit has ended the lives of those that it acts on.
use Rattle.std.proofs.Common.{◌≡◌, ℕ, ◌+◌, ◌≤◌, ◌<◌, Bool, true, false, ◌&&◌, not, List, map, Option, Some, None, refl, sym, ap, ◌∙◌, arith, ◌⊎◌, inl, inr}
use Rattle.std.specs.Prelude.{slice_get, is_some, count_by}
use Rattle.std.proofs.lemmas.Bool.{cases_Bool, false≢true, and_parts, not_from_true, not_from_false, cond-true, cond-false}
use Rattle.std.proofs.lemmas.Option.{same_Some}
use Rattle.spec_tables.specs.Rules as tables
use Rattle.spec_tables.specs.Edits.{Edit, without}
use Rattle.rule_tables.specs.declared.stored.Modification.{Modification}
use Rattle.rule_tables.specs.declared.stored.StoredRule.{StoredRule}
use Rattle.rule_tables.specs.Stored.{is_picked_by, picks, acts_on, stored_in, rule_at, rules_at, ended_by, AreInOrder, AreNumbered, AreLives, AreMade}
use Rattle.rule_tables.proofs.Counts.{has_passing, count_by-filter_map}
use Rattle.rule_tables.proofs.FilterMaps.{filter_map_same, filter_map-map, from_map, passing, filter-filter_map}
use Rattle.rule_tables.proofs.Lives.{rule_at-alive, rule_at-dead, alive_on, dead_after, alive_as_before, gone_cases}
use Rattle.rule_tables.proofs.Modified.{settled, picked_as}

-- how the rule t came from the stored rule s: its life ended, if the edit acts on it, or it stayed
abbrev pub Follows : Edit → ℕ → StoredRule → StoredRule → Type 0
Follows e gone s t = ((s.gone ≡ None) × (picks e s.rule ≡ true) × (t ≡ record s { gone = Some gone })) ⊎ ((s.gone ≡ None → picks e s.rule ≡ false) × (t ≡ s))

pub none_from : (o : Option ℕ) → not (is_some o) ≡ true → o ≡ None
none_from None is = refl
none_from (Some n) is = absurd (false≢true is)

pub ended_by_cases : (e : Edit) (gone : ℕ) (s : StoredRule) → Follows e gone s (ended_by e gone s)
ended_by_cases e gone s =
    elim (cases_Bool (acts_on e s)) [
      | inl acts ↦
          let parts = and_parts (not (is_some s.gone)) (picks e s.rule) acts in
          inl (none_from s.gone parts.0, parts.1, cond-true (acts_on e s) (record s { gone = Some gone }) s acts)
      | inr idle ↦
          inr (λ on. sym (ap (λ (o : Option ℕ). not (is_some o) && picks e s.rule) on) ∙ idle, cond-false (acts_on e s) (record s { gone = Some gone }) s idle)
    ]

-- the other way
pub follows_is : (e : Edit) (gone : ℕ) (s t : StoredRule) → Follows e gone s t → t ≡ ended_by e gone s
follows_is e gone s t (inl (on, picked, made)) =
    made ∙ sym (cond-true (acts_on e s) (record s { gone = Some gone }) s (ap (λ (o : Option ℕ). not (is_some o) && picks e s.rule) on ∙ picked))
follows_is e gone s t (inr (idle, made)) =
    elim (gone_cases s.gone) [
      | inl on ↦ made ∙ sym (cond-false (acts_on e s) (record s { gone = Some gone }) s (ap (λ (o : Option ℕ). not (is_some o) && picks e s.rule) on ∙ idle on))
      | inr (n, ends) ↦ made ∙ sym (cond-false (acts_on e s) (record s { gone = Some gone }) s (ap (λ (o : Option ℕ). not (is_some o) && picks e s.rule) ends))
    ]

same_rule : (e : Edit) (gone : ℕ) (s t : StoredRule) → Follows e gone s t → t.rule ≡ s.rule
same_rule e gone s t (inl (on, picked, made)) = ap (λ (z : StoredRule). z.rule) made
same_rule e gone s t (inr (idle, made)) = ap (λ (z : StoredRule). z.rule) made

module _ (made : List Modification) (xs : List StoredRule) (last : ℕ) (e : Edit) where
  abbrev ys : List StoredRule
  ys = map (ended_by e (last + 1)) xs

  -- what stands at a place came from what stood there
  from : (i : ℕ) (y : StoredRule) → slice_get ys i ≡ Some y → (x : StoredRule) × (slice_get xs i ≡ Some x) × (y ≡ ended_by e (last + 1) x)
  from i y at = from_map (ended_by e (last + 1)) xs i y at

  -- ---- edits

  before : (v : ℕ) (x y : StoredRule) → v ≤ last → Follows e (last + 1) x y → rule_at made v y ≡ rule_at made v x
  before v x y le (inl (on, picked, is)) = ap (rule_at made v) is ∙ alive_as_before made v (last + 1) x on (omega arith)
  before v x y le (inr (idle, is)) = ap (rule_at made v) is

  -- what the edits so far made is as it was
  pub rules_before_ends : (v : ℕ) → v ≤ last → rules_at made v ys ≡ rules_at made v xs
  rules_before_ends v le =
      filter_map-map (rule_at made v) (ended_by e (last + 1)) xs
      ∙ filter_map_same (λ x. rule_at made v (ended_by e (last + 1) x)) (rule_at made v) xs
      (λ i x at. before v x (ended_by e (last + 1) x) le (ended_by_cases e (last + 1) x))

  module _ (numbered : AreNumbered xs last) (lives : AreLives xs last) where
    -- ---- what holds

    pub numbered_ends : AreNumbered ys last
    numbered_ends i y at =
        let old = from i y at in
        let bounds = numbered i old.0 old.1 in
        let low : i < old.0.rule.number = bounds.0 in
        let high : old.0.rule.number ≤ last = bounds.1 in
        let number : y.rule.number ≡ old.0.rule.number =
        ap (λ (z : StoredRule). z.rule.number) old.2 ∙ ap (λ r. r.number) (same_rule e (last + 1) old.0 (ended_by e (last + 1) old.0) (ended_by_cases e (last + 1) old.0)) in
        (omega arith, omega arith)

    pub in_order_ends : AreInOrder xs → AreInOrder ys
    in_order_ends in_order i j a b at bt lt =
        let first = from i a at in
        let second = from j b bt in
        let one : a.rule.number ≡ first.0.rule.number =
        ap (λ (z : StoredRule). z.rule.number) first.2 ∙ ap (λ r. r.number) (same_rule e (last + 1) first.0 (ended_by e (last + 1) first.0) (ended_by_cases e (last + 1) first.0)) in
        let two : b.rule.number ≡ second.0.rule.number =
        ap (λ (z : StoredRule). z.rule.number) second.2 ∙ ap (λ r. r.number) (same_rule e (last + 1) second.0 (ended_by e (last + 1) second.0) (ended_by_cases e (last + 1) second.0)) in
        let rises : first.0.rule.number < second.0.rule.number = in_order i j first.0 second.0 first.1 second.1 lt in
        omega arith

    pub lives_ends : AreLives ys (last + 1)
    lives_ends = record {
      begun = λ i gone y at ends. let old = from i y at in begun_after i gone old.0 y old.1 (follow old.0 y old.2) ends;
      ended = λ i gone y at ends. let old = from i y at in ended_after i gone old.0 y old.1 (follow old.0 y old.2) ends;
    }
      where
        follow : (x y : StoredRule) → y ≡ ended_by e (last + 1) x → Follows e (last + 1) x y
        follow x y is =
            elim (ended_by_cases e (last + 1) x) [
              | inl (on, picked, made) ↦ inl (on, picked, is ∙ made)
              | inr (idle, made) ↦ inr (idle, is ∙ made)
            ]

        begun_after : (i gone : ℕ) (x y : StoredRule) → slice_get xs i ≡ Some x → Follows e (last + 1) x y → y.gone ≡ Some gone → y.rule.number < gone
        begun_after i gone x y at (inl (on, picked, is)) ends =
            let gone_is : last + 1 ≡ gone = same_Some (last + 1) gone (sym (ap (λ (z : StoredRule). z.gone) is) ∙ ends) in
            let number : y.rule.number ≡ x.rule.number = ap (λ (z : StoredRule). z.rule.number) is in
            let within : x.rule.number ≤ last = (numbered i x at).1 in
            omega arith
        begun_after i gone x y at (inr (idle, is)) ends =
            let number : y.rule.number ≡ x.rule.number = ap (λ (z : StoredRule). z.rule.number) is in
            let lt : x.rule.number < gone = lives.begun i gone x at (sym (ap (λ (z : StoredRule). z.gone) is) ∙ ends) in
            omega arith

        ended_after : (i gone : ℕ) (x y : StoredRule) → slice_get xs i ≡ Some x → Follows e (last + 1) x y → y.gone ≡ Some gone → gone ≤ last + 1
        ended_after i gone x y at (inl (on, picked, is)) ends =
            let gone_is : last + 1 ≡ gone = same_Some (last + 1) gone (sym (ap (λ (z : StoredRule). z.gone) is) ∙ ends) in
            omega arith
        ended_after i gone x y at (inr (idle, is)) ends =
            let le : gone ≤ last = lives.ended i gone x at (sym (ap (λ (z : StoredRule). z.gone) is) ∙ ends) in
            omega arith

    -- ---- the next edit

    module _ (all : AreMade made last) where
      abbrev picked : tables.Rule → Bool
      picked r = is_picked_by e.word e r

      after : (i : ℕ) (x y : StoredRule) → slice_get xs i ≡ Some x → Follows e (last + 1) x y
          → passing (λ r. not (picked r)) (rule_at made last x) ≡ rule_at made (last + 1) y
      after i x y at (inl (on, acts, is)) =
          let within : x.rule.number ≤ last = (numbered i x at).1 in
          let live : rule_at made last x ≡ Some (stored_in made last x) = rule_at-alive made last x (alive_on last x on within) in
          let dead : rule_at made (last + 1) y ≡ None =
          rule_at-dead made (last + 1) y (dead_after (last + 1) (last + 1) y (ap (λ (z : StoredRule). z.gone) is) (omega arith)) in
          ap (passing (λ r. not (picked r))) live
          ∙ cond-false (not (picked (stored_in made last x))) (Some (stored_in made last x)) None (not_from_true _ (picked_as e.word e made last x ∙ acts)) ∙ sym dead
      after i x y at (inr (idle, is)) =
          let within : x.rule.number ≤ last = (numbered i x at).1 in
          let to : rule_at made (last + 1) x ≡ rule_at made (last + 1) y = ap (rule_at made (last + 1)) (sym is) in
          elim (gone_cases x.gone) [
            | inl on ↦
                ap (passing (λ r. not (picked r))) (rule_at-alive made last x (alive_on last x on within))
                ∙ cond-true (not (picked (stored_in made last x))) (Some (stored_in made last x)) None (not_from_false _ (picked_as e.word e made last x ∙ idle on))
                ∙ ap (λ (r : tables.Rule). Some r) (settled made last (last + 1) x all (omega arith))
                ∙ sym (rule_at-alive made (last + 1) x (alive_on (last + 1) x on (omega arith))) ∙ to
            | inr (gone, ends) ↦
                let le : gone ≤ last = lives.ended i gone x at ends in
                ap (passing (λ r. not (picked r))) (rule_at-dead made last x (dead_after last gone x ends le))
                ∙ sym (rule_at-dead made (last + 1) x (dead_after (last + 1) gone x ends (omega arith))) ∙ to
          ]

      -- after it the rules are those before it without those that it picks
      pub rules_ended : rules_at made (last + 1) ys ≡ without (is_picked_by e.word e) (rules_at made last xs)
      rules_ended =
          sym (filter-filter_map (λ r. not (picked r)) (rule_at made last) xs
          ∙ filter_map_same (λ x. passing (λ r. not (picked r)) (rule_at made last x)) (λ x. rule_at made (last + 1) (ended_by e (last + 1) x)) xs
          (λ i x at. after i x (ended_by e (last + 1) x) at (ended_by_cases e (last + 1) x))
          ∙ sym (filter_map-map (rule_at made (last + 1)) (ended_by e (last + 1)) xs))

-- how many of the rules so far an edit picks
pub count_picked : (made : List Modification) (xs : List StoredRule) (last : ℕ) (e : Edit) → AreNumbered xs last → AreLives xs last
    → count_by (is_picked_by e.word e) (rules_at made last xs) ≡ count_by (acts_on e) xs
count_picked made xs last e numbered lives = count_by-filter_map (is_picked_by e.word e) (rule_at made last) (acts_on e) xs each
  where
    each : (i : ℕ) (x : StoredRule) → slice_get xs i ≡ Some x → has_passing (is_picked_by e.word e) (rule_at made last x) ≡ acts_on e x
    each i x at =
        elim (gone_cases x.gone) [
          | inl on ↦
              ap (has_passing (is_picked_by e.word e)) (rule_at-alive made last x (alive_on last x on (numbered i x at).1)) ∙ picked_as e.word e made last x
              ∙ sym (ap (λ (o : Option ℕ). not (is_some o) && picks e x.rule) on)
          | inr (gone, ends) ↦
              ap (has_passing (is_picked_by e.word e)) (rule_at-dead made last x (dead_after last gone x ends (lives.ended i gone x at ends)))
              ∙ sym (ap (λ (o : Option ℕ). not (is_some o) && picks e x.rule) ends)
        ]
