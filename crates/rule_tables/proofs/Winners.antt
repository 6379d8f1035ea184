-- The winner among stored rules, and the rule of a number, from what stands at each place.
use Rattle.std.proofs.Common.{◌≡◌, ℕ, ◌+◌, ◌-◌, ◌≤◌, ◌<◌, Bool, true, false, ◌&&◌, ◌==◌, List, ◌∷◌, length, get_or, drop, Option, None, refl, sym, ap, ◌∙◌, arith, inl, inr}
use Rattle.std.specs.List.{cons_option}
use Rattle.std.proofs.lemmas.List.{drop_more, drop_all}
use Rattle.std.proofs.lemmas.Bool.{and_parts, cases_Bool, cond-true, cond-false}
use Rattle.spec_tables.specs.Rules as tables
use Rattle.spec_tables.specs.Rules.{is_matched, better, rules_in, winner}
use Rattle.rule_tables.specs.declared.stored.Modification.{Modification}
use Rattle.rule_tables.specs.declared.stored.StoredRule.{StoredRule}
use Rattle.rule_tables.specs.Candidates.{is_candidate}
use Rattle.rule_tables.specs.Stored.{stored_in, is_alive, rules_at}
use Rattle.rule_tables.proofs.Lives.{rule_at-alive, rule_at-dead}

-- the winner for a key in a table after so many edits
abbrev pub winner_in : List Modification → ℕ → ℕ → List ℕ → List StoredRule → Option tables.Rule
winner_in made v table key stored = winner (rules_in table (rules_at made v stored)) key

winner-candidate : (made : List Modification) (v table : ℕ) (key : List ℕ) (s : StoredRule) (rest : List StoredRule) → is_candidate v table key s ≡ true
    → winner_in made v table key (s ∷ rest) ≡ better (stored_in made v s) (winner_in made v table key rest)
unfolding winner
winner-candidate made v table key s rest is =
    let first = and_parts (s.rule.table == table) (is_alive v s && is_matched key (stored_in made v s).matching) is in
    let second = and_parts (is_alive v s) (is_matched key (stored_in made v s).matching) first.1 in
    ap (λ (o : Option tables.Rule). winner (rules_in table (cons_option o (rules_at made v rest))) key) (rule_at-alive made v s second.0)
    ∙ ap (λ (rules : List tables.Rule). winner rules key) (cond-true (s.rule.table == table) (stored_in made v s ∷ rules_in table (rules_at made v rest)) (rules_in table (rules_at made v rest)) first.0)
    ∙ cond-true (is_matched key (stored_in made v s).matching) (better (stored_in made v s) (winner_in made v table key rest)) (winner_in made v table key rest) second.1

winner-no_candidate : (made : List Modification) (v table : ℕ) (key : List ℕ) (s : StoredRule) (rest : List StoredRule) → is_candidate v table key s ≡ false
    → winner_in made v table key (s ∷ rest) ≡ winner_in made v table key rest
unfolding winner
winner-no_candidate made v table key s rest is =
    elim (cases_Bool (is_alive v s)) [
      | inr dead ↦ ap (λ (o : Option tables.Rule). winner (rules_in table (cons_option o (rules_at made v rest))) key) (rule_at-dead made v s dead)
      | inl alive ↦
          ap (λ (o : Option tables.Rule). winner (rules_in table (cons_option o (rules_at made v rest))) key) (rule_at-alive made v s alive) ∙ elim (cases_Bool (s.rule.table == table)) [
            | inr apart ↦ ap (λ (rules : List tables.Rule). winner rules key) (cond-false (s.rule.table == table) (stored_in made v s ∷ rules_in table (rules_at made v rest)) (rules_in table (rules_at made v rest)) apart)
            | inl here ↦
                ap (λ (rules : List tables.Rule). winner rules key) (cond-true (s.rule.table == table) (stored_in made v s ∷ rules_in table (rules_at made v rest)) (rules_in table (rules_at made v rest)) here)
                ∙ cond-false (is_matched key (stored_in made v s).matching) (better (stored_in made v s) (winner_in made v table key rest)) (winner_in made v table key rest) (unmatched here alive)
          ]
    ]
  where
    unmatched : s.rule.table == table ≡ true → is_alive v s ≡ true → is_matched key (stored_in made v s).matching ≡ false
    unmatched here alive = sym (ap (λ (a : Bool). a && (is_alive v s && is_matched key (stored_in made v s).matching)) here ∙ ap (λ (a : Bool). a && is_matched key (stored_in made v s).matching) alive) ∙ is

-- ---- from a place on

pub winner_past : (made : List Modification) (v table : ℕ) (key : List ℕ) (stored : List StoredRule) → None ≡ winner_in made v table key (drop (length stored) stored)
unfolding winner
winner_past made v table key stored = rw (drop_all (length stored) stored (omega arith)) refl

rules_from : (stored : List StoredRule) (i : ℕ) (s : StoredRule) → 0 < i → i ≤ length stored → s ≡ get_or stored (i - 1) s → drop (i - 1) stored ≡ s ∷ drop i stored
rules_from stored i s pos le is =
    let back : i - 1 + 1 ≡ i = omega arith in
    let more : drop (i - 1) stored ≡ get_or stored (i - 1) s ∷ drop (i - 1 + 1) stored = drop_more stored (i - 1) s (omega arith) in
    rw (more, back, ← is) refl

pub candidate_wins : (made : List Modification) (v table : ℕ) (key : List ℕ) (stored : List StoredRule) (i : ℕ) (s : StoredRule) (best now : Option tables.Rule) → 0 < i → i ≤ length stored → s ≡ get_or stored (i - 1) s
    → is_candidate v table key s ≡ true → best ≡ winner_in made v table key (drop i stored) → better (stored_in made v s) best ≡ now → now ≡ winner_in made v table key (drop (i - 1) stored)
candidate_wins made v table key stored i s best now pos le is may so_far is_better =
    sym is_better ∙ ap (better (stored_in made v s)) so_far ∙ sym (winner-candidate made v table key s (drop i stored) may) ∙ sym (ap (winner_in made v table key) (rules_from stored i s pos le is))

pub others_stay : (made : List Modification) (v table : ℕ) (key : List ℕ) (stored : List StoredRule) (i : ℕ) (s : StoredRule) (best : Option tables.Rule) → 0 < i → i ≤ length stored → s ≡ get_or stored (i - 1) s
    → is_candidate v table key s ≡ false → best ≡ winner_in made v table key (drop i stored) → best ≡ winner_in made v table key (drop (i - 1) stored)
others_stay made v table key stored i s best pos le is may_not so_far =
    so_far ∙ sym (winner-no_candidate made v table key s (drop i stored) may_not) ∙ sym (ap (winner_in made v table key) (rules_from stored i s pos le is))
