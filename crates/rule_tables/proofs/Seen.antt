-- What the history says of the stored rules that it is seen from.
use Rattle.std.proofs.Common.{◌≡◌, ℕ, suc, ◌+◌, ◌≤◌, ◌<◌, ◌==◌, true, List, [], ◌∷◌, Option, Some, None, Result, Ok, Err, OnErr, refl, sym, ap, ◌∙◌, subst, arith, inl, inr}
use Rattle.std.specs.Prelude.{slice_get}
use Rattle.std.specs.Option.{option_and_then}
use Rattle.std.proofs.lemmas.Bool.{cases_Bool, cases_lt, eqb-true, and_from, le-leb, lt-ltb, cond-true, cond-false}
use Rattle.std.proofs.lemmas.Option.{none-some, same_Some}
use Rattle.spec_tables.specs.Rules as tables
use Rattle.spec_tables.specs.Live.{rule_numbered}
use Rattle.rule_tables.specs.declared.stored.Modification.{Modification}
use Rattle.rule_tables.specs.declared.stored.StoredRule.{StoredRule}
use Rattle.rule_tables.specs.History.{EditHistory, applied, rules_after, added_as, states_to}
use Rattle.rule_tables.specs.Views.{rule_view}
use Rattle.rule_tables.specs.Stored.{is_before, is_alive, rule_at, rules_at, stored_numbered, AreInOrder, AreNumbered, AreLives}
use Rattle.rule_tables.proofs.Histories.{applied-states_to, rules_after-states_to, no_rules_past}
use Rattle.rule_tables.proofs.Lives.{rule_at-alive}
use Rattle.rule_tables.proofs.Modified.{as_added}
use Rattle.rule_tables.proofs.Numbered.{rule_numbered-rules_at}

-- where the stored rule of a number stands
pub numbered_there : (number : ℕ) (xs : List StoredRule) (s : StoredRule) → Some s ≡ stored_numbered number xs → (i : ℕ) × (slice_get xs i ≡ Some s) × (s.rule.number ≡ number)
numbered_there number [] s is = absurd (none-some s (sym is))
numbered_there number (x ∷ xs) s is =
    elim (cases_Bool (x.rule.number == number)) [
      | inl here ↦
          let same : s ≡ x = same_Some s x (is ∙ cond-true (x.rule.number == number) (Some x) (stored_numbered number xs) here) in
          (0, ap (λ (t : StoredRule). Some t) (sym same), ap (λ (t : StoredRule). t.rule.number) same ∙ eqb-true x.rule.number number here)
      | inr other ↦
          let rest = numbered_there number xs s (is ∙ cond-false (x.rule.number == number) (Some x) (stored_numbered number xs) other) in
          (suc rest.0, rest.1, rest.2)
    ]

-- whatever holds, holds where there is an error
pub on_err : {T E P : Type 0} (result : Result T E) → P → OnErr result P
on_err (Ok value) holds = tt
on_err (Err error) holds = holds

-- the same modifications and stored rules have the same history
pub same_history : (made now : List Modification) (stored new : List StoredRule) (last changes : ℕ) (h : EditHistory) → now ≡ made → new ≡ stored
    → record { states = states_to last (λ v. rules_at made v stored); changes = changes } ≡ h → record { states = states_to last (λ v. rules_at now v new); changes = changes } ≡ h
same_history made now stored new last changes h as_made same view = rw (as_made, same) view

-- a slice of stored rules in order
pub in_order_there : (stored slice : List StoredRule) → slice ≡ stored → AreInOrder stored → AreInOrder slice
in_order_there stored slice same in_order = subst (λ (rules : List StoredRule). AreInOrder rules) (sym same) in_order

module _ (made : List Modification) (stored slice : List StoredRule) (last changes : ℕ) (h : EditHistory) (same : slice ≡ stored) (view : record { states = states_to last (λ v. rules_at made v stored); changes = changes } ≡ h) where
  pub seen_applied : applied h ≡ last
  seen_applied = sym (ap applied view) ∙ applied-states_to last changes (λ v. rules_at made v stored)

  pub seen_rules : (v : ℕ) → v ≤ applied h → rules_at made v slice ≡ rules_after h v
  seen_rules v le =
      let within : applied h ≡ last = seen_applied in
      ap (rules_at made v) same ∙ sym (rules_after-states_to last changes v (λ w. rules_at made w stored) (omega arith)) ∙ ap (λ (g : EditHistory). rules_after g v) view

  pub seen_last : rules_at made last slice ≡ rules_after h (applied h)
  seen_last =
      let within : applied h ≡ last = seen_applied in
      seen_rules last (omega arith) ∙ ap (rules_after h) (sym within)

  module _ (in_order : AreInOrder stored) (numbered : AreNumbered stored last) (lives : AreLives stored last) (number : ℕ) where
    in_slice : stored_numbered number slice ≡ stored_numbered number stored
    in_slice = ap (stored_numbered number) same

    of_edits : number ≤ last → added_as h number ≡ option_and_then (rule_at made number) (stored_numbered number stored)
    of_edits le =
        let within : applied h ≡ last = seen_applied in
        ap (rule_numbered number) (sym (seen_rules number (omega arith)) ∙ ap (rules_at made number) same) ∙ rule_numbered-rules_at made number number stored in_order

    past_edits : last + 1 ≤ number → added_as h number ≡ None
    past_edits past = ap (rule_numbered number) (sym (ap (λ (g : EditHistory). rules_after g number) view) ∙ no_rules_past last changes number (λ w. rules_at made w stored) past)

    pub none_added : None ≡ stored_numbered number slice → added_as h number ≡ None
    none_added none =
        elim (cases_lt last number) [
          | inl past ↦ past_edits (omega arith)
          | inr le ↦ of_edits le ∙ sym (ap (option_and_then (rule_at made number)) (none ∙ in_slice))
        ]

    pub is_added : (s : StoredRule) → Some s ≡ stored_numbered number slice → added_as h number ≡ Some (rule_view s.rule s.actions)
    is_added s is =
        let there = numbered_there number stored s (is ∙ in_slice) in
        let bounds = numbered there.0 s there.1 in
        let high : s.rule.number ≤ last = bounds.1 in
        let number_is : s.rule.number ≡ number = there.2 in
        let within : number ≤ last = omega arith in
        let live : is_alive number s ≡ true =
        and_from _ _ (le-leb s.rule.number number (omega arith)) (before there.0 there.1 number_is s.gone refl) in
        of_edits within ∙ sym (ap (option_and_then (rule_at made number)) (is ∙ in_slice)) ∙ rule_at-alive made number s live
        ∙ ap (λ (r : tables.Rule). Some r) (as_added made number s (omega arith))
      where
        before : (i : ℕ) → slice_get stored i ≡ Some s → s.rule.number ≡ number → (gone : Option ℕ) → s.gone ≡ gone → is_before number gone ≡ true
        before i at number_is None is = refl
        before i at number_is (Some gone) is = let lt : s.rule.number < gone = lives.begun i gone s at is in lt-ltb number gone (omega arith)
