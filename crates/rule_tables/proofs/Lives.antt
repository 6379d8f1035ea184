-- After how many edits a stored rule is live.
use Rattle.std.proofs.Common.{◌≡◌, ℕ, zero, suc, ◌+◌, ◌≤◌, ◌<◌, Bool, true, false, cond, ◌&&◌, List, length, Option, Some, None, refl, sym, ap, ◌∙◌, arith, ◌⊎◌, inl, inr}
use Rattle.std.specs.Prelude.{nat_le, slice_get}
use Rattle.std.proofs.lemmas.Bool.{and_from, and_left, and_right, le-leb, lt-leb, lt-ltb, le-ltb, cond-true, cond-false}
use Rattle.std.proofs.lemmas.Option.{slice_get_cases}
use Rattle.spec_tables.specs.Rules as tables
use Rattle.rule_tables.specs.declared.stored.Modification.{Modification}
use Rattle.rule_tables.specs.declared.stored.StoredRule.{StoredRule}
use Rattle.rule_tables.specs.Stored.{stored_in, is_before, is_alive, rule_at, AreNumbered, AreLives}

pub rule_at-alive : (made : List Modification) (v : ℕ) (s : StoredRule) → is_alive v s ≡ true → rule_at made v s ≡ Some (stored_in made v s)
rule_at-alive made v s alive = cond-true (is_alive v s) (Some (stored_in made v s)) None alive

pub rule_at-dead : (made : List Modification) (v : ℕ) (s : StoredRule) → is_alive v s ≡ false → rule_at made v s ≡ None
rule_at-dead made v s dead = cond-false (is_alive v s) (Some (stored_in made v s)) None dead

pub alive_on : (v : ℕ) (s : StoredRule) → s.gone ≡ None → s.rule.number ≤ v → is_alive v s ≡ true
alive_on v s on le =
    and_from (nat_le s.rule.number v) (is_before v s.gone) (le-leb s.rule.number v le) (ap (is_before v) on)

pub dead_after : (v gone : ℕ) (s : StoredRule) → s.gone ≡ Some gone → gone ≤ v → is_alive v s ≡ false
dead_after v gone s ends le =
    and_right (nat_le s.rule.number v) (is_before v s.gone) (ap (is_before v) ends ∙ le-ltb v gone le)

pub dead_before : (v : ℕ) (s : StoredRule) → v < s.rule.number → is_alive v s ≡ false
dead_before v s lt = and_left (nat_le s.rule.number v) (is_before v s.gone) (lt-leb s.rule.number v lt)

-- after v edits it makes no difference that a rule is gone later
pub alive_as_before : (made : List Modification) (v gone : ℕ) (s : StoredRule) → s.gone ≡ None → v < gone → rule_at made v (record s { gone = Some gone }) ≡ rule_at made v s
alive_as_before made v gone s on lt =
    let yes : is_before v (Some gone) ≡ is_before v s.gone = lt-ltb v gone lt ∙ sym (ap (is_before v) on) in
    ap (λ (b : Bool). cond {A = Option tables.Rule} (nat_le s.rule.number v && b) (Some (stored_in made v s)) None) yes

-- the life of a rule that is alive has not ended
pub gone_cases : (o : Option ℕ) → (o ≡ None) ⊎ ((gone : ℕ) × (o ≡ Some gone))
gone_cases None = inl refl
gone_cases (Some gone) = inr (gone, refl)

-- a rule that is stored is live after one more edit if it is after the last
pub alive_next : (xs : List StoredRule) (last i : ℕ) (x : StoredRule) → AreNumbered xs last → AreLives xs last → slice_get xs i ≡ Some x → is_alive last x ≡ is_alive (last + 1) x
alive_next xs last i x numbered lives at =
    let within : x.rule.number ≤ last = (numbered i x at).1 in
    elim (gone_cases x.gone) [
      | inl on ↦ alive_on last x on within ∙ sym (alive_on (last + 1) x on (omega arith))
      | inr (gone, ends) ↦
          let le : gone ≤ last = lives.ended i gone x at ends in
          dead_after last gone x ends le ∙ sym (dead_after (last + 1) gone x ends (omega arith))
    ]

-- there are no more rules than edits
pub length_within : (xs : List StoredRule) (last : ℕ) → AreNumbered xs last → length xs ≤ last
length_within xs last numbered = by (length xs) refl
  where
    by : (n : ℕ) → length xs ≡ n → n ≤ last
    by zero is = omega arith
    by (suc n) is =
        elim (slice_get_cases xs n).1 [
          | inl (x, lt, at, _) ↦ let bounds = numbered n x at in let low : n < x.rule.number = bounds.0 in let high : x.rule.number ≤ last = bounds.1 in omega arith
          | inr (past, _) ↦ absurd (omega arith)
        ]
