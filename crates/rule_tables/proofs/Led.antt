-- The log leads from each rule to what it was given: as rules come, as they go, and as they are given modifications.
use Rattle.std.proofs.Common.{◌≡◌, ℕ, suc, ◌+◌, ◌≤◌, ◌<◌, Bool, false, ◌&&◌, List, [], ◌∷◌, ◌++◌, length, map, Option, Some, None, refl, sym, ap, ◌∙◌, subst, arith, ◌⊎◌, inl, inr, length-append}
use Rattle.std.specs.Prelude.{slice_get, nat_lt, is_some, not}
use Rattle.std.specs.Option.{option_map_or}
use Rattle.std.proofs.lemmas.Bool.{and_left, lt-ltb, le-ltb}
use Rattle.std.proofs.lemmas.Option.{none-some, same_Some, slice_get_within, slice_get_cases}
use Rattle.spec_tables.specs.Edits.{Edit}
use Rattle.rule_tables.specs.declared.givings.Giving.{Giving}
use Rattle.rule_tables.specs.declared.stored.Modification.{Modification}
use Rattle.rule_tables.specs.declared.stored.StoredRule.{StoredRule}
use Rattle.rule_tables.specs.Givings.{was_given, was_given_at, Leads, IsLedTo, AreLedTo, Becomes, AreGiven}
use Rattle.rule_tables.specs.Stored.{picks, acts_on, is_before, rule_at, rules_at, ended_by, with_end, AreNumbered, AreLives, AreMade, AreConsistent}
use Rattle.rule_tables.proofs.Endings.{ended_by_cases}
use Rattle.rule_tables.proofs.Ends.{with_end_cases}
use Rattle.rule_tables.proofs.FilterMaps.{filter_map_alike, from_map, push_cases, slice_get-append, slice_get-push}
use Rattle.rule_tables.proofs.Finds.{apart_alike}
use Rattle.rule_tables.proofs.GivingLog.{leads_alike, leads_nowhere, led_within, given_there}
use Rattle.rule_tables.proofs.Lives.{gone_cases}

-- the same log, modifications and rules
pub led_moved : (log new : List Giving) (made now : List Modification) (xs zs : List StoredRule) → new ≡ log → now ≡ made → zs ≡ xs → AreLedTo log made xs → AreLedTo new now zs
led_moved log new made now xs zs same_log as_made same led =
    subst (λ (g : List Giving). AreLedTo g now zs) (sym same_log)
    (subst (λ (all : List Modification). AreLedTo log all zs) (sym as_made) (subst (λ (stored : List StoredRule). AreLedTo log made stored) (sym same) led))

-- no rules
pub led_at_first : (log : List Giving) (made : List Modification) (xs : List StoredRule) → xs ≡ [] → AreLedTo log made xs
led_at_first log made xs none = subst (λ (stored : List StoredRule). AreLedTo log made stored) (sym none) (λ i s at. absurd (none-some s at))

module _ (log : List Giving) (made : List Modification) (last : ℕ) (all : AreMade made last) where
  -- a rule that comes was given nothing
  led_new : (s : StoredRule) → s.given ≡ None → last ≤ s.rule.number → IsLedTo log made s
  led_new s none late =
      subst (λ (o : Option ℕ). Leads log (was_given_at made s) (length made) o) (sym none) (leads_nowhere log (was_given_at made s) (length made) never)
    where
      never : (k : ℕ) → k < length made → was_given_at made s k ≡ false
      never k lt =
          elim (slice_get_cases made k).1 [
            | inl (m, _, at, _) ↦
                let by_then : m.number ≤ last = all k m at in
                given_there made s k m at ∙ and_left (nat_lt s.rule.number m.number) (is_before m.number s.gone && picks m.edit s.rule) (le-ltb s.rule.number m.number (omega arith))
            | inr (past, _) ↦ absurd (omega arith)
          ]

  pub led_push : (xs : List StoredRule) (s : StoredRule) → AreLedTo log made xs → s.given ≡ None → last ≤ s.rule.number → AreLedTo log made (xs ++ s ∷ [])
  led_push xs s led none late i x at =
      elim (push_cases xs s x i at) [
        | inl earlier ↦ led i x earlier
        | inr (_, is) ↦ subst (λ (y : StoredRule). IsLedTo log made y) (sym is) (led_new s none late)
      ]

  -- a rule that goes was given what it was given
  led_gone : (gone : ℕ) (s : StoredRule) → last < gone → s.gone ≡ None → IsLedTo log made s → IsLedTo log made (record s { gone = Some gone })
  led_gone gone s after on led =
      leads_alike log log (was_given_at made s) (was_given_at made (record s { gone = Some gone })) (length made) s.given (λ place g at. at) alike led
    where
      alike : (k : ℕ) → k < length made → was_given_at made (record s { gone = Some gone }) k ≡ was_given_at made s k
      alike k lt =
          elim (slice_get_cases made k).1 [
            | inl (m, _, at, _) ↦
                let by_then : m.number ≤ last = all k m at in
                given_there made (record s { gone = Some gone }) k m at
                ∙ ap (λ (b : Bool). nat_lt s.rule.number m.number && (b && picks m.edit s.rule)) (lt-ltb m.number gone (omega arith) ∙ sym (ap (is_before m.number) on))
                ∙ sym (given_there made s k m at)
            | inr (past, _) ↦ absurd (omega arith)
          ]

  pub led_ended : (xs : List StoredRule) (e : Edit) (gone : ℕ) (zs : List StoredRule) → last < gone → zs ≡ map (ended_by e gone) xs → AreLedTo log made xs → AreLedTo log made zs
  led_ended xs e gone zs after is led i z at =
      let old = from_map (ended_by e gone) xs i z (ap (λ (stored : List StoredRule). slice_get stored i) (sym is) ∙ at) in
      subst (λ (y : StoredRule). IsLedTo log made y) (sym old.2)
      (elim (ended_by_cases e gone old.0) [
        | inl (on, _, becomes) ↦ subst (λ (y : StoredRule). IsLedTo log made y) (sym becomes) (led_gone gone old.0 after on (led i old.0 old.1))
        | inr (_, stays) ↦ subst (λ (y : StoredRule). IsLedTo log made y) (sym stays) (led i old.0 old.1)
      ])

  pub led_with_end : (xs : List StoredRule) (old : Option ℕ) (gone : ℕ) (zs : List StoredRule) → last < gone → ((i : ℕ) (s : StoredRule) → old ≡ Some i → slice_get xs i ≡ Some s → s.gone ≡ None)
      → zs ≡ with_end old gone xs → AreLedTo log made xs → AreLedTo log made zs
  led_with_end xs old gone zs after on is led i z at =
      let from = with_end_cases old gone i xs z (ap (λ (stored : List StoredRule). slice_get stored i) (sym is) ∙ at) in
      elim from.2 [
        | inl (here, becomes) ↦ subst (λ (y : StoredRule). IsLedTo log made y) (sym becomes) (led_gone gone from.0 after (on i from.0 here from.1) (led i from.0 from.1))
        | inr (_, stays) ↦ subst (λ (y : StoredRule). IsLedTo log made y) (sym stays) (led i from.0 from.1)
      ]

  -- a rule that comes in place of a live one, if there is one
  pub led_added : (xs : List StoredRule) (old : Option ℕ) → ((i : ℕ) (x : StoredRule) → old ≡ Some i → slice_get xs i ≡ Some x → x.gone ≡ None)
      → (s : StoredRule) → s.gone ≡ None → s.given ≡ None → last < s.rule.number → (zs : List StoredRule) → zs ≡ with_end old s.rule.number (xs ++ s ∷ []) → AreLedTo log made xs → AreLedTo log made zs
  led_added xs old old_on s on none late zs becomes led =
      led_with_end (xs ++ s ∷ []) old s.rule.number zs late
      (λ i x is at.
      elim (push_cases xs s x i at) [
        | inl earlier ↦ old_on i x is earlier
        | inr (_, latest) ↦ ap (λ (y : StoredRule). y.gone) latest ∙ on
      ])
      becomes (led_push xs s led none (omega arith))

-- ---- a modification is given

module _ (picked : ℕ → StoredRule → Bool) (n : ℕ) (log new : List Giving) (xs zs : List StoredRule) (given : AreGiven picked n log new xs zs) where
  -- what each rule was before
  came_from : (i : ℕ) (z : StoredRule) → slice_get zs i ≡ Some z → (x : StoredRule) × (slice_get xs i ≡ Some x) × Becomes (picked i x) n (length log) new x z
  came_from i z at =
      elim (slice_get_cases xs i).1 [
        | inl (x, _, there, _) ↦ (x, there, given.each i x z there at)
        | inr (past, _) ↦
            let within : i < length zs = slice_get_within zs i z at in
            let same : length zs ≡ length xs = given.count in
            absurd (omega arith)
      ]

  -- only where it leads differs
  else_alike : (b : Bool) (x z : StoredRule) → Becomes b n (length log) new x z → z ≡ record x { given = z.given }
  else_alike b x z (inl (_, stays)) = ap (λ (y : StoredRule). record y { given = z.given }) stays
  else_alike b x z (inr (_, is)) = is.becomes ∙ ap (λ (o : Option ℕ). record x { given = o }) (sym (ap (λ (y : StoredRule). y.given) is.becomes))

  was : (i : ℕ) (z : StoredRule) → slice_get zs i ≡ Some z → (x : StoredRule) × (slice_get xs i ≡ Some x) × (z ≡ record x { given = z.given })
  was i z at = let old = came_from i z at in (old.0, old.1, else_alike (picked i old.0) old.0 z old.2)

  pub rules_alike : (made : List Modification) (v : ℕ) → rules_at made v zs ≡ rules_at made v xs
  rules_alike made v =
      filter_map_alike (rule_at made v) (rule_at made v) zs xs given.count (λ i z x at_z at_x.
      let old = was i z at_z in
      ap (rule_at made v) old.2 ∙ ap (rule_at made v) (same_Some old.0 x (sym old.1 ∙ at_x)))

  pub sound_given : (made : List Modification) (last changes : ℕ) → AreConsistent made xs last changes → AreConsistent made zs last changes
  sound_given made last changes sound = record {
    fits = sound.fits;
    in_order = λ i j s t at bt lt.
        let a = was i s at in
        let b = was j t bt in
        let one : s.rule.number ≡ a.0.rule.number = ap (λ (y : StoredRule). y.rule.number) a.2 in
        let two : t.rule.number ≡ b.0.rule.number = ap (λ (y : StoredRule). y.rule.number) b.2 in
        let rises : a.0.rule.number < b.0.rule.number = sound.in_order i j a.0 b.0 a.1 b.1 lt in
        omega arith;
    numbered = λ i s at.
        let a = was i s at in
        let one : s.rule.number ≡ a.0.rule.number = ap (λ (y : StoredRule). y.rule.number) a.2 in
        let bounds = sound.numbered i a.0 a.1 in
        let low : i < a.0.rule.number = bounds.0 in
        let high : a.0.rule.number ≤ last = bounds.1 in
        (omega arith, omega arith);
    lives = record {
      begun = λ i gone s at ends.
          let a = was i s at in
          let one : s.rule.number ≡ a.0.rule.number = ap (λ (y : StoredRule). y.rule.number) a.2 in
          let lt : a.0.rule.number < gone = sound.lives.begun i gone a.0 a.1 (sym (ap (λ (y : StoredRule). y.gone) a.2) ∙ ends) in
          omega arith;
      ended = λ i gone s at ends. let a = was i s at in sound.lives.ended i gone a.0 a.1 (sym (ap (λ (y : StoredRule). y.gone) a.2) ∙ ends);
    };
    made = sound.made;
    apart =
        apart_alike xs zs (λ i z at.
        let a = was i z at in
        (a.0, a.1, ap (λ (y : StoredRule). y.rule) a.2, ap (λ (y : StoredRule). y.gone) a.2)) sound.apart;
    few_changes = sound.few_changes;
  }

-- the next modification is given to those on which its edit acts
acts_next : (last : ℕ) (m : Modification) (i : ℕ) (xs : List StoredRule) (x : StoredRule) → m.number ≡ last + 1 → AreNumbered xs last → AreLives xs last → slice_get xs i ≡ Some x → was_given x m ≡ acts_on m.edit x
acts_next last m i xs x its_number numbered lives at =
    let high : x.rule.number ≤ last = (numbered i x at).1 in
    ap (λ (b : Bool). b && (is_before m.number x.gone && picks m.edit x.rule)) (lt-ltb x.rule.number m.number (omega arith))
    ∙ ap (λ (b : Bool). b && picks m.edit x.rule) (by (gone_cases x.gone))
  where
    by : ((x.gone ≡ None) ⊎ ((gone : ℕ) × (x.gone ≡ Some gone))) → is_before m.number x.gone ≡ not (is_some x.gone)
    by (inl on) = ap (is_before m.number) on ∙ sym (ap (λ (o : Option ℕ). not (is_some o)) on)
    by (inr (gone, ends)) =
        let le : gone ≤ last = lives.ended i gone x at ends in
        ap (is_before m.number) ends ∙ le-ltb m.number gone (omega arith) ∙ sym (ap (λ (o : Option ℕ). not (is_some o)) ends)

module _ (log new : List Giving) (made : List Modification) (m : Modification) (xs zs : List StoredRule) (last : ℕ) (its_number : m.number ≡ last + 1) (numbered : AreNumbered xs last) (lives : AreLives xs last) (led : AreLedTo log made xs) (given : AreGiven (λ i. acts_on m.edit) (length made) log new xs zs) where
  -- what came before is found as before
  rest_led : (i : ℕ) (x : StoredRule) → slice_get xs i ≡ Some x → Leads new (was_given_at (made ++ m ∷ []) x) (length made) x.given
  rest_led i x at =
      leads_alike log new (was_given_at made x) (was_given_at (made ++ m ∷ []) x) (length made) x.given given.grows
      (λ k lt. ap (λ (o : Option Modification). option_map_or (was_given x) o false) (slice_get-append made (m ∷ []) k lt)) (led i x at)

  newest_acts : (i : ℕ) (x : StoredRule) → slice_get xs i ≡ Some x → was_given_at (made ++ m ∷ []) x (length made) ≡ acts_on m.edit x
  newest_acts i x at = given_there (made ++ m ∷ []) x (length made) m (slice_get-push made m) ∙ acts_next last m i xs x its_number numbered lives at

  led_now : (i : ℕ) (x z : StoredRule) → slice_get xs i ≡ Some x → Becomes (acts_on m.edit x) (length made) (length log) new x z → Leads new (was_given_at (made ++ m ∷ []) z) (suc (length made)) z.given
  led_now i x z at (inl (idle, stays)) =
      subst (λ (y : StoredRule). Leads new (was_given_at (made ++ m ∷ []) y) (suc (length made)) y.given) (sym stays) (inl (newest_acts i x at ∙ idle, rest_led i x at))
  led_now i x z at (inr (acts, is)) =
      subst (λ (y : StoredRule). Leads new (was_given_at (made ++ m ∷ []) y) (suc (length made)) y.given) (sym is.becomes)
      (inr (
        newest_acts i x at ∙ acts,
        record {
          place = is.place;
          before = x.given;
          is = refl;
          at = is.at;
          back = λ b some.
              let within : b < length log = led_within log (was_given_at made x) (length made) x.given (led i x at) b some in
              let past : length log ≤ is.place = is.past in
              omega arith;
          rest = rest_led i x at;
        },
      ))

  pub led_modified : AreLedTo new (made ++ m ∷ []) zs
  led_modified i z at =
      let old = came_from (λ k. acts_on m.edit) (length made) log new xs zs given i z at in
      let more : suc (length made) ≡ length (made ++ m ∷ []) = omega (arith, length-append made (m ∷ [])) in
      subst (λ (n : ℕ). Leads new (was_given_at (made ++ m ∷ []) z) n z.given) more (led_now i old.0 z old.1 old.2)
