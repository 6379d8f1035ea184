-- The stored rule of a number, and what it is after so many edits.
use Rattle.std.proofs.Common.{◌≡◌, ℕ, zero, suc, ◌<◌, Bool, true, false, ◌||◌, ◌==◌, List, [], ◌∷◌, length, Option, Some, None, refl, sym, ap, ◌∙◌, subst, arith, inl, inr}
use Rattle.std.specs.Prelude.{slice_get, slice_index_or, nat_lt, is_some}
use Rattle.std.specs.List.{cons_option, find, list_any}
use Rattle.std.specs.List.Sorted.{IsPartitionedBy, IsPartitionPoint}
use Rattle.std.specs.Option.{option_and_then, option_map}
use Rattle.std.proofs.lemmas.Bool.{cases_Bool, cases_lt, false≢true, eq-eqb, ne_eqb, ltb-true, eqb-true, lt-ltb, both_ways, cond-true, cond-false}
use Rattle.std.proofs.lemmas.Option.{none-some, same_Some, slice_get_within, slice_get_cases, slice_get-get_or}
use Rattle.spec_tables.specs.Rules as tables
use Rattle.spec_tables.specs.Live.{is_live, rule_numbered}
use Rattle.rule_tables.specs.declared.stored.Modification.{Modification}
use Rattle.rule_tables.specs.declared.stored.StoredRule.{StoredRule}
use Rattle.rule_tables.specs.Stored.{stored_in, is_alive, rule_at, rules_at, stored_numbered, AreInOrder}
use Rattle.rule_tables.proofs.Lives.{rule_at-alive, rule_at-dead}

-- ---- finding

-- some element passes exactly where one is found
any-find : {A : Type 0} (p : A → Bool) (xs : List A) → list_any p xs ≡ is_some (find p xs)
any-find p [] = refl
any-find p (x ∷ xs) =
    elim (cases_Bool (p x)) [
      | inl pass ↦ ap (λ (b : Bool). b || list_any p xs) pass ∙ sym (ap is_some (cond-true (p x) (Some x) (find p xs) pass))
      | inr fail ↦ ap (λ (b : Bool). b || list_any p xs) fail ∙ any-find p xs ∙ sym (ap is_some (cond-false (p x) (Some x) (find p xs) fail))
    ]

pub is_live-rule_numbered : (number : ℕ) (rules : List tables.Rule) → is_live number rules ≡ is_some (rule_numbered number rules)
is_live-rule_numbered number rules = any-find (λ r. r.number == number) rules

first_found : (number i : ℕ) (xs : List StoredRule) (s : StoredRule) → slice_get xs i ≡ Some s → s.rule.number ≡ number
    → ((k : ℕ) (t : StoredRule) → k < i → slice_get xs k ≡ Some t → t.rule.number ≡ number → ⊥) → stored_numbered number xs ≡ Some s
first_found number i [] s at is others = absurd (none-some s at)
first_found number zero (x ∷ xs) s at is others =
    let here : x ≡ s = same_Some x s at in
    cond-true (x.rule.number == number) (Some x) (stored_numbered number xs) (eq-eqb x.rule.number number (ap (λ (t : StoredRule). t.rule.number) here ∙ is)) ∙ ap (λ (t : StoredRule). Some t) here
first_found number (suc i) (x ∷ xs) s at is others =
    cond-false (x.rule.number == number) (Some x) (stored_numbered number xs) (ne_eqb x.rule.number number (others 0 x (omega arith) refl))
    ∙ first_found number i xs s at is (λ k t lt there. others (suc k) t (omega arith) there)

none_found : (number : ℕ) (xs : List StoredRule) → ((k : ℕ) (t : StoredRule) → slice_get xs k ≡ Some t → t.rule.number ≡ number → ⊥) → stored_numbered number xs ≡ None
none_found number [] others = refl
none_found number (x ∷ xs) others =
    cond-false (x.rule.number == number) (Some x) (stored_numbered number xs) (ne_eqb x.rule.number number (others 0 x refl)) ∙ none_found number xs (λ k t there. others (suc k) t there)

-- ---- by the order of the numbers

abbrev pub is_less : ℕ → StoredRule → Bool
is_less number s = nat_lt s.rule.number number

pub partitioned : (number : ℕ) (xs : List StoredRule) → AreInOrder xs → IsPartitionedBy (is_less number) xs
partitioned number xs in_order i j d le within less =
    let there : slice_get xs j ≡ Some (slice_index_or xs j d) = slice_get-get_or xs j d within in
    let here : slice_get xs i ≡ Some (slice_index_or xs i d) = slice_get-get_or xs i d (omega arith) in
    elim (cases_lt i j) [
      | inl lt ↦
          let rises : (slice_index_or xs i d).rule.number < (slice_index_or xs j d).rule.number = in_order i j _ _ here there lt in
          let below : (slice_index_or xs j d).rule.number < number = ltb-true _ _ less in
          lt-ltb _ _ (omega arith)
      | inr ge ↦ let same : i ≡ j = omega arith in subst (λ (k : ℕ). is_less number (slice_index_or xs k d) ≡ true) (sym same) less
    ]

-- a rule of this number is the one that is found, wherever it stands
pub at_its_place : (number place : ℕ) (xs : List StoredRule) → AreInOrder xs → (s : StoredRule) → slice_get xs place ≡ Some s → s.rule.number ≡ number
    → stored_numbered number xs ≡ Some s
at_its_place number place xs in_order s at is =
    first_found number place xs s at is (λ k t lt there same. let rises : t.rule.number < s.rule.number = in_order k place t s there at lt in absurd (omega arith))

module _ (number place : ℕ) (xs : List StoredRule) (in_order : AreInOrder xs) (halves : IsPartitionPoint (λ s. is_less number s ≡ true) (λ s. is_less number s ≡ false) xs place) where
  before : (k : ℕ) (t : StoredRule) → k < place → slice_get xs k ≡ Some t → t.rule.number < number
  before k t lt at =
      let same : slice_index_or xs k t ≡ t = same_Some _ t (sym (slice_get-get_or xs k t (slice_get_within xs k t at)) ∙ at) in
      ltb-true t.rule.number number (subst (λ (s : StoredRule). is_less number s ≡ true) same (halves.0 k t (omega arith) lt))

  pub at_place : (s : StoredRule) → slice_get xs place ≡ Some s → s.rule.number ≡ number → stored_numbered number xs ≡ Some s
  at_place s at is =
      first_found number place xs s at is (λ k t lt there same. let less : t.rule.number < number = before k t lt there in absurd (omega arith))

  pub other_at_place : (s : StoredRule) → slice_get xs place ≡ Some s → (s.rule.number ≡ number → ⊥) → stored_numbered number xs ≡ None
  other_at_place s at other = none_found number xs (λ k t there same.
      elim (cases_lt k place) [
        | inl lt ↦ let less : t.rule.number < number = before k t lt there in absurd (omega arith)
        | inr ge ↦ elim (cases_lt place k) [
          | inl gt ↦
              let rises : s.rule.number < t.rule.number = in_order place k s t at there gt in
              let same_s : slice_index_or xs place s ≡ s = same_Some _ s (sym (slice_get-get_or xs place s (slice_get_within xs place s at)) ∙ at) in
              let least = subst (λ (u : StoredRule). is_less number u ≡ false) same_s (halves.1 place s (omega arith) (slice_get_within xs place s at)) in
              elim (cases_lt s.rule.number number) [
                | inl less ↦ absurd (both_ways (is_less number s) least (lt-ltb s.rule.number number less))
                | inr more ↦ absurd (omega arith)
              ]
          | inr le ↦
              let here : k ≡ place = omega arith in
              other (ap (λ (u : StoredRule). u.rule.number) (same_Some s t (sym at ∙ sym (ap (slice_get xs) here) ∙ there)) ∙ same)
        ]
      ])

  pub past_all : slice_get xs place ≡ None → stored_numbered number xs ≡ None
  past_all none = none_found number xs (λ k t there same.
      let within : k < length xs = slice_get_within xs k t there in
      elim (slice_get_cases xs place).1 [
        | inl (x, lt, at, _) ↦ absurd (none-some x (sym none ∙ at))
        | inr (past, _) ↦ let less : t.rule.number < number = before k t (omega arith) there in absurd (omega arith)
      ])

-- ---- after so many edits

-- a rule of another number is passed over
passed_over : (made : List Modification) (v number : ℕ) (s : StoredRule) (rest : List tables.Rule) → (s.rule.number ≡ number → ⊥) → rule_numbered number (cons_option (rule_at made v s) rest) ≡ rule_numbered number rest
passed_over made v number s rest other =
    elim (cases_Bool (is_alive v s)) [
      | inl alive ↦
          ap (λ (o : Option tables.Rule). rule_numbered number (cons_option o rest)) (rule_at-alive made v s alive)
          ∙ cond-false (s.rule.number == number) (Some (stored_in made v s)) (rule_numbered number rest) (ne_eqb s.rule.number number other)
      | inr dead ↦ ap (λ (o : Option tables.Rule). rule_numbered number (cons_option o rest)) (rule_at-dead made v s dead)
    ]

none_numbered : (made : List Modification) (v number : ℕ) (stored : List StoredRule) → ((i : ℕ) (s : StoredRule) → slice_get stored i ≡ Some s → s.rule.number ≡ number → ⊥) → rule_numbered number (rules_at made v stored) ≡ None
none_numbered made v number [] others = refl
none_numbered made v number (s ∷ rest) others =
    passed_over made v number s (rules_at made v rest) (others 0 s refl) ∙ none_numbered made v number rest (λ i t at. others (suc i) t at)

pub rule_numbered-rules_at : (made : List Modification) (v number : ℕ) (stored : List StoredRule) → AreInOrder stored → rule_numbered number (rules_at made v stored) ≡ option_and_then (rule_at made v) (stored_numbered number stored)
rule_numbered-rules_at made v number [] in_order = refl
rule_numbered-rules_at made v number (s ∷ rest) in_order =
    elim (cases_Bool (s.rule.number == number)) [
      | inl here ↦
          let is : s.rule.number ≡ number = eqb-true s.rule.number number here in
          let later : rule_numbered number (rules_at made v rest) ≡ None =
          none_numbered made v number rest (λ i t at same. let rises : s.rule.number < t.rule.number = in_order 0 (suc i) s t refl at (omega arith) in absurd (omega arith)) in
          by_life is later ∙ sym (ap (option_and_then (rule_at made v)) (cond-true (s.rule.number == number) (Some s) (stored_numbered number rest) here))
      | inr other ↦
          passed_over made v number s (rules_at made v rest) (λ is. absurd (both_ways (s.rule.number == number) other (eq-eqb s.rule.number number is)))
          ∙ rule_numbered-rules_at made v number rest (λ i j a b at bt lt. in_order (suc i) (suc j) a b at bt (omega arith))
          ∙ sym (ap (option_and_then (rule_at made v)) (cond-false (s.rule.number == number) (Some s) (stored_numbered number rest) other))
    ]
  where
    by_life : s.rule.number ≡ number → rule_numbered number (rules_at made v rest) ≡ None → rule_numbered number (cons_option (rule_at made v s) (rules_at made v rest)) ≡ rule_at made v s
    by_life is later =
        elim (cases_Bool (is_alive v s)) [
          | inl alive ↦
              ap (λ (o : Option tables.Rule). rule_numbered number (cons_option o (rules_at made v rest))) (rule_at-alive made v s alive)
              ∙ cond-true (s.rule.number == number) (Some (stored_in made v s)) (rule_numbered number (rules_at made v rest)) (eq-eqb s.rule.number number is)
              ∙ sym (rule_at-alive made v s alive)
          | inr dead ↦
              ap (λ (o : Option tables.Rule). rule_numbered number (cons_option o (rules_at made v rest))) (rule_at-dead made v s dead) ∙ later ∙ sym (rule_at-dead made v s dead)
        ]

-- the answer by what is found
pub none_at_number : (made : List Modification) (v number : ℕ) (stored : List StoredRule) → AreInOrder stored → None ≡ stored_numbered number stored → None ≡ rule_numbered number (rules_at made v stored)
none_at_number made v number stored in_order none = sym (rule_numbered-rules_at made v number stored in_order ∙ sym (ap (option_and_then (rule_at made v)) none))

pub alive_at_number : (made : List Modification) (v number : ℕ) (stored : List StoredRule) (s : StoredRule) → AreInOrder stored → Some s ≡ stored_numbered number stored → is_alive v s ≡ true
    → Some (stored_in made v s) ≡ rule_numbered number (rules_at made v stored)
alive_at_number made v number stored s in_order at alive =
    sym (rule_numbered-rules_at made v number stored in_order ∙ sym (ap (option_and_then (rule_at made v)) at) ∙ rule_at-alive made v s alive)

pub dead_at_number : (made : List Modification) (v number : ℕ) (stored : List StoredRule) (s : StoredRule) → AreInOrder stored → Some s ≡ stored_numbered number stored → is_alive v s ≡ false
    → None ≡ rule_numbered number (rules_at made v stored)
dead_at_number made v number stored s in_order at dead =
    sym (rule_numbered-rules_at made v number stored in_order ∙ sym (ap (option_and_then (rule_at made v)) at) ∙ rule_at-dead made v s dead)

-- ---- live rules

-- whether a rule of this number is live, by whether one is found
pub live_if_found : {A : Type 0} (f : A → tables.Rule) (o : Option A) (number : ℕ) (rules : List tables.Rule) → option_map f o ≡ rule_numbered number rules → is_some o ≡ is_live number rules
live_if_found {A} f o number rules is = same_answer o ∙ ap is_some is ∙ sym (is_live-rule_numbered number rules)
  where
    same_answer : (p : Option A) → is_some p ≡ is_some (option_map f p)
    same_answer None = refl
    same_answer (Some x) = refl

-- a live rule is found
pub not_live : (number : ℕ) (rules : List tables.Rule) → None ≡ rule_numbered number rules → is_live number rules ≡ true → ⊥
not_live number rules none live = false≢true (ap is_some none ∙ sym (is_live-rule_numbered number rules) ∙ live)
