-- One more rule, in place of the live one of its identity if there is one: what holds of the stored rules is kept, and
-- the history is that of one more edit.
use Rattle.std.proofs.Common.{◌≡◌, ℕ, ◌+◌, ◌*◌, ◌^◌, ◌≤◌, ◌<◌, Bool, true, cond, List, [], ◌∷◌, ◌++◌, length, map, Option, Some, None, refl, sym, ap, ap₂, ◌∙◌, subst, arith, inl, inr, append-nil}
use Rattle.std.specs.Prelude.{is_some}
use Rattle.std.specs.List.{list_any}
use Rattle.std.proofs.lemmas.List.Elements.{filter_map-append}
use Rattle.std.proofs.lemmas.Bool.{cond_both}
use Rattle.std.proofs.lemmas.Option.{none-some, slice_get_within}
use Rattle.spec_tables.specs.declared.edit_word.EditWord.{EditWord}
use Rattle.spec_tables.specs.declared.edit_word.EditWord.TheVariants.{Add}
use Rattle.spec_tables.specs.Rules as tables
use Rattle.spec_tables.specs.Edits.{Edit, edited, is_named_by, rule_of, without}
use Rattle.rule_tables.specs.declared.rule.Rule.{Rule}
use Rattle.rule_tables.specs.declared.stored.Modification.{Modification}
use Rattle.rule_tables.specs.declared.stored.StoredRule.{StoredRule}
use Rattle.spec_tables.specs.Changes.{changes_by}
use Rattle.rule_tables.specs.History.{edited_by, states_to}
use Rattle.rule_tables.specs.Views.{rule_view}
use Rattle.rule_tables.specs.RulePlaces.{IsNamedPlace}
use Rattle.rule_tables.specs.Stored.{is_picked_by, picks, stored_in, rule_at, rules_at, ended_by, with_end, AreInOrder, AreNumbered, AreLives, AreConsistent}
use Rattle.rule_tables.proofs.Counts.{any_counted}
use Rattle.rule_tables.proofs.FilterMaps.{push_cases}
use Rattle.rule_tables.proofs.Histories.{pushed}
use Rattle.rule_tables.proofs.Ends.{with_end-push}
use Rattle.rule_tables.proofs.Endings.{rules_before_ends, numbered_ends, in_order_ends, lives_ends, rules_ended, count_picked}
use Rattle.rule_tables.proofs.Finds.{named_from_parts, named_within, ended_as_named, count_named, apart_added}
use Rattle.rule_tables.proofs.Lives.{rule_at-alive, rule_at-dead, alive_on, dead_before, length_within}
use Rattle.rule_tables.proofs.Modified.{as_added}

-- What one more rule is: that of an edit which adds, of the next number, and not gone.
pub record IsNext (last : ℕ) (e : Edit) (s : StoredRule) : Type 0 where
  pub room : last + 1 < 2 ^ 32
  pub adds : e.word ≡ Add
  pub on : s.gone ≡ None
  pub number : s.rule.number ≡ last + 1
  pub rule : rule_view s.rule s.actions ≡ rule_of (last + 1) e

module _ (made : List Modification) (xs : List StoredRule) (last changes : ℕ) (sound : AreConsistent made xs last changes) (e : Edit) (s : StoredRule) (next : IsNext last e s) (old : Option ℕ) (named : IsNamedPlace xs e old) where
  abbrev ys : List StoredRule
  ys = with_end old (last + 1) xs

  strict : (r : Rule) → picks e r ≡ is_named_by e (rule_view r [])
  strict r = ap (λ (word : EditWord). is_picked_by word e (rule_view r [])) next.adds

  -- the rules that are there, of which the one that the edit names is gone
  ends : ys ≡ map (ended_by e (last + 1)) xs
  ends = ended_as_named xs sound.apart e strict old named (last + 1)

  -- ---- edits

  rules_before : (v : ℕ) → v ≤ last → rules_at made v (ys ++ s ∷ []) ≡ rules_at made v xs
  rules_before v le =
      let number : s.rule.number ≡ last + 1 = next.number in
      let none : rule_at made v s ≡ None = rule_at-dead made v s (dead_before v s (omega arith)) in
      let alone : rules_at made v (s ∷ []) ≡ [] = rw none refl in
      filter_map-append (rule_at made v) ys (s ∷ []) ∙ ap (λ (rest : List tables.Rule). rules_at made v ys ++ rest) alone ∙ append-nil (rules_at made v ys)
      ∙ ap (rules_at made v) ends ∙ rules_before_ends made xs last e v le

  last_rules : rules_at made (last + 1) (ys ++ s ∷ []) ≡ without (is_picked_by e.word e) (rules_at made last xs) ++ rule_of (last + 1) e ∷ []
  last_rules =
      let number : s.rule.number ≡ last + 1 = next.number in
      let new_one : stored_in made (last + 1) s ≡ rule_of (last + 1) e = as_added made (last + 1) s (omega arith) ∙ next.rule in
      let live : rule_at made (last + 1) s ≡ Some (rule_of (last + 1) e) =
      rule_at-alive made (last + 1) s (alive_on (last + 1) s next.on (omega arith)) ∙ ap (λ (r : tables.Rule). Some r) new_one in
      let one : rules_at made (last + 1) (s ∷ []) ≡ rule_of (last + 1) e ∷ [] = rw live refl in
      let kept : rules_at made (last + 1) ys ≡ without (is_picked_by e.word e) (rules_at made last xs) =
      ap (rules_at made (last + 1)) ends ∙ rules_ended made xs last e sound.numbered sound.lives sound.made in
      filter_map-append (rule_at made (last + 1)) ys (s ∷ []) ∙ ap₂ (λ (a b : List tables.Rule). a ++ b) kept one

  -- ---- changes

  replaces : list_any (is_picked_by e.word e) (rules_at made last xs) ≡ is_some old
  replaces =
      any_counted (is_picked_by e.word e) (rules_at made last xs) (is_some old)
      (count_picked made xs last e sound.numbered sound.lives ∙ count_named xs sound.apart e strict old named)

  -- ---- the history

  edited_as : edited e.word (last + 1) e (rules_at made last xs) ≡ without (is_picked_by e.word e) (rules_at made last xs) ++ rule_of (last + 1) e ∷ []
  edited_as =
      ap (λ (word : EditWord). edited word (last + 1) e (rules_at made last xs)) next.adds
      ∙ sym (ap (λ (word : EditWord). without (is_picked_by word e) (rules_at made last xs) ++ rule_of (last + 1) e ∷ []) next.adds)

  changed_as : changes + cond (is_some old) 2 1 ≡ changes + changes_by e.word e (rules_at made last xs)
  changed_as =
      ap (λ (n : ℕ). changes + n)
      (sym (ap (λ (word : EditWord). changes_by word e (rules_at made last xs)) next.adds
      ∙ ap (λ (b : Bool). cond b 2 1) (sym (ap (λ (word : EditWord). list_any (is_picked_by word e) (rules_at made last xs)) next.adds) ∙ replaces)))

  history_after : record { states = states_to (last + 1) (λ v. rules_at made v (ys ++ s ∷ [])); changes = changes + cond (is_some old) 2 1 }
      ≡ edited_by e (record { states = states_to last (λ v. rules_at made v xs); changes = changes })
  history_after =
      pushed last (λ v. rules_at made v xs) (λ v. rules_at made v (ys ++ s ∷ [])) changes _ e rules_before (last_rules ∙ sym edited_as) changed_as

  -- ---- what holds

  numbered_old : AreNumbered ys last
  numbered_old = subst (λ (zs : List StoredRule). AreNumbered zs last) (sym ends) (numbered_ends made xs last e sound.numbered sound.lives)

  in_order_old : AreInOrder ys
  in_order_old = subst (λ (zs : List StoredRule). AreInOrder zs) (sym ends) (in_order_ends made xs last e sound.numbered sound.lives sound.in_order)

  lives_old : AreLives ys (last + 1)
  lives_old = subst (λ (zs : List StoredRule). AreLives zs (last + 1)) (sym ends) (lives_ends made xs last e sound.numbered sound.lives)

  number_of_new : (i : ℕ) (y : StoredRule) → (i ≡ length ys) × (y ≡ s) → y.rule.number ≡ last + 1
  number_of_new i y (latest, is) = ap (λ (z : StoredRule). z.rule.number) is ∙ next.number

  numbered_after : AreNumbered (ys ++ s ∷ []) (last + 1)
  numbered_after i y at =
      elim (push_cases ys s y i at) [
        | inl earlier ↦
            let bounds = numbered_old i y earlier in
            let low : i < y.rule.number = bounds.0 in
            let high : y.rule.number ≤ last = bounds.1 in
            (omega arith, omega arith)
        | inr (latest, is) ↦
            let number : y.rule.number ≡ last + 1 = number_of_new i y (latest, is) in
            let within : length ys ≤ last = length_within ys last numbered_old in
            (omega arith, omega arith)
      ]

  in_order_after : AreInOrder (ys ++ s ∷ [])
  in_order_after i j a b at bt lt =
      elim (push_cases ys s b j bt) [
        | inr (latest, is) ↦
            let number : b.rule.number ≡ last + 1 = number_of_new j b (latest, is) in
            elim (push_cases ys s a i at) [
              | inl earlier ↦ let within : a.rule.number ≤ last = (numbered_old i a earlier).1 in omega arith
              | inr (also, _) ↦ absurd (omega arith)
            ]
        | inl later ↦
            elim (push_cases ys s a i at) [
              | inl earlier ↦ in_order_old i j a b earlier later lt
              | inr (latest, _) ↦ let there : j < length ys = slice_get_within ys j b later in absurd (omega arith)
            ]
      ]

  lives_after : AreLives (ys ++ s ∷ []) (last + 1)
  lives_after = record {
    begun = λ i gone y at goes.
        elim (push_cases ys s y i at) [
          | inl earlier ↦ lives_old.begun i gone y earlier goes
          | inr (latest, is) ↦ absurd (none-some gone (sym (ap (λ (z : StoredRule). z.gone) is ∙ next.on) ∙ goes))
        ];
    ended = λ i gone y at goes.
        elim (push_cases ys s y i at) [
          | inl earlier ↦ lives_old.ended i gone y earlier goes
          | inr (latest, is) ↦ absurd (none-some gone (sym (ap (λ (z : StoredRule). z.gone) is ∙ next.on) ∙ goes))
        ];
  }

  -- the edit names the rule that it adds
  names_new : is_named_by e (rule_view s.rule []) ≡ true
  names_new =
      named_from_parts e (rule_view s.rule []) (record {
        table = ap (λ (r : tables.Rule). r.table) next.rule;
        priority = ap (λ (r : tables.Rule). r.priority) next.rule;
        key = ap (λ (r : tables.Rule). r.matching.key) next.rule;
        mask = ap (λ (r : tables.Rule). r.matching.mask) next.rule;
      })

  sound_after : AreConsistent made (ys ++ s ∷ []) (last + 1) (changes + cond (is_some old) 2 1)
  sound_after = record {
    fits = next.room;
    in_order = in_order_after;
    numbered = numbered_after;
    lives = lives_after;
    made = λ i m at. let le : m.number ≤ last = sound.made i m at in omega arith;
    apart = apart_added xs sound.apart e old named (last + 1) s names_new;
    few_changes =
        let so_far : changes ≤ 2 ^ 32 * last = sound.few_changes in
        let more : cond (is_some old) 2 1 ≤ 2 = cond_both (is_some old) 2 1 (λ (n : ℕ). n ≤ 2) (λ _. omega arith) (λ _. omega arith) in
        omega arith;
  }

-- what one more rule makes, as the code comes to it
pub sound_added : (made : List Modification) (xs : List StoredRule) (last changes : ℕ) → AreConsistent made xs last changes
    → (e : Edit) (s : StoredRule) → IsNext last e s → (old : Option ℕ) → IsNamedPlace xs e old → (count : ℕ) → count ≡ cond (is_some old) 2 1
    → (zs : List StoredRule) → zs ≡ with_end old s.rule.number (xs ++ s ∷ [])
    → AreConsistent made zs s.rule.number (changes + count)
    × (record { states = states_to s.rule.number (λ v. rules_at made v zs); changes = changes + count } ≡ edited_by e (record { states = states_to last (λ v. rules_at made v xs); changes = changes }))
sound_added made xs last changes sound e s next old named count count_is zs becomes =
    let number : s.rule.number ≡ last + 1 = next.number in
    let there : List StoredRule = with_end old (last + 1) xs ++ s ∷ [] in
    let all : zs ≡ there =
    becomes ∙ ap (λ (n : ℕ). with_end old n (xs ++ s ∷ [])) number ∙ with_end-push old (last + 1) xs s (named_within xs sound.apart e old named) in
    let same : (P : List StoredRule → ℕ → ℕ → Type 0) → P there (last + 1) (cond (is_some old) 2 1) → P zs s.rule.number count =
    λ P h. subst (λ (z : List StoredRule). P z s.rule.number count) (sym all)
    (subst (λ (n : ℕ). P there n count) (sym number) (subst (λ (k : ℕ). P there (last + 1) k) (sym count_is) h)) in (
      same (λ z n k. AreConsistent made z n (changes + k)) (sound_after made xs last changes sound e s next old named),
      same (λ z n k. record { states = states_to n (λ v. rules_at made v z); changes = changes + k } ≡ edited_by e (record { states = states_to last (λ v. rules_at made v xs); changes = changes }))
          (history_after made xs last changes sound e s next old named),
    )
