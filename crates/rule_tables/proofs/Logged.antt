-- The log and the modifications of which it tells: as rules come, as they go, and as modifications are made.
use Rattle.std.proofs.Common.{◌≡◌, ℕ, ◌+◌, ◌^◌, ◌<◌, ◌≤◌, true, List, [], ◌∷◌, ◌++◌, length, map, take, Option, Some, None, refl, sym, ap, ◌∙◌, subst, arith, inl, inr, length-append}
use Rattle.std.specs.Prelude.{slice_get, count_by, vec_len}
use Rattle.std.proofs.lemmas.List.{take_all, take-append-le}
use Rattle.spec_tables.specs.Rules as tables
use Rattle.spec_tables.specs.Edits.{Edit}
use Rattle.rule_tables.specs.declared.givings.GivingLog.{GivingLog}
use Rattle.rule_tables.specs.declared.stored.Modification.{Modification}
use Rattle.rule_tables.specs.declared.stored.StoredRule.{StoredRule}
use Rattle.rule_tables.specs.History.{EditHistory, edited_by, states_to}
use Rattle.rule_tables.specs.Givings.{logged, most_givings, AreLedTo, IsLogOf, IsLog, IsLogged}
use Rattle.rule_tables.specs.Stored.{is_modify, is_picked_by, acts_on, rules_at, ended_by, with_end, stored_numbered, AreMade, AreConsistent}
use Rattle.rule_tables.proofs.FilterMaps.{slice_get-take}
use Rattle.rule_tables.proofs.GivingSteps.{given_moved}
use Rattle.rule_tables.proofs.Histories.{same_states}
use Rattle.rule_tables.proofs.Led.{led_moved, led_at_first, led_ended, led_with_end, led_added, led_modified, rules_alike, sound_given}
use Rattle.rule_tables.proofs.Seen.{numbered_there}
use Rattle.rule_tables.proofs.Sound.{sound_modified}

-- ---- as it stands

-- a log that tells of none, and no rules
pub log_at_first : (log : GivingLog) (made : List Modification) (xs : List StoredRule) → vec_len log.givings ≡ 0 → log.modifications ≡ 0
    → xs ≡ [] → IsLog log made xs
log_at_first log made xs nothing none empty = record {
  few = omega arith;
  within = omega arith;
  led = led_at_first log.givings.items (logged log made) xs empty;
}

-- the same modifications and rules
pub log_moved : (log : GivingLog) (made now : List Modification) (xs zs : List StoredRule) → now ≡ made → zs ≡ xs
    → IsLog log made xs → IsLog log now zs
log_moved log made now xs zs as_made same is =
    subst (λ (all : List Modification). IsLog log all zs) (sym as_made)
    (subst (λ (stored : List StoredRule). IsLog log made stored) (sym same) is)

-- of the rule of a number
pub log_at_number : (log : GivingLog) (made now : List Modification) (xs slice : List StoredRule) (number : ℕ) (s : StoredRule)
    → now ≡ made → slice ≡ xs → stored_numbered number slice ≡ Some s → IsLog log made xs → IsLogOf log now s
log_at_number log made now xs slice number s as_made same numbered is =
    let there = numbered_there number slice s (sym numbered) in
    let moved = log_moved log made now xs slice as_made same is in
    record { within = moved.within; led = moved.led there.0 s there.1 }

-- ---- rules come and go

module _ (log : GivingLog) (made : List Modification) (last : ℕ) (all : AreMade made last)
    (xs : List StoredRule) (is : IsLog log made xs) where
  logged_made : AreMade (logged log made) last
  logged_made i m at = all i m (slice_get-take log.modifications made i m at)

  pub log_ended : (e : Edit) (gone : ℕ) (zs : List StoredRule) → last < gone → zs ≡ map (ended_by e gone) xs → IsLog log made zs
  log_ended e gone zs after becomes = record {
    few = is.few;
    within = is.within;
    led = led_ended log.givings.items (logged log made) last logged_made xs e gone zs after becomes is.led;
  }

  pub log_with_end : (old : Option ℕ) (gone : ℕ) (zs : List StoredRule) → last < gone
      → ((i : ℕ) (s : StoredRule) → old ≡ Some i → slice_get xs i ≡ Some s → s.gone ≡ None)
      → zs ≡ with_end old gone xs → IsLog log made zs
  log_with_end old gone zs after on becomes = record {
    few = is.few;
    within = is.within;
    led = led_with_end log.givings.items (logged log made) last logged_made xs old gone zs after on becomes is.led;
  }

  pub log_added : (old : Option ℕ) → ((i : ℕ) (x : StoredRule) → old ≡ Some i → slice_get xs i ≡ Some x → x.gone ≡ None)
      → (s : StoredRule) → s.gone ≡ None → s.given ≡ None → last < s.rule.number
      → (zs : List StoredRule) → zs ≡ with_end old s.rule.number (xs ++ s ∷ []) → IsLog log made zs
  log_added old old_on s on none late zs becomes = record {
    few = is.few;
    within = is.within;
    led =
        led_added log.givings.items (logged log made) last logged_made xs old old_on s on none late zs becomes is.led;
  }

-- ---- a modification is made

-- the same as the code comes to it
pub logged_moved : (e : Edit) (n k : ℕ) (log new : GivingLog) (stored from now to : List StoredRule)
    → k ≡ n → from ≡ stored → to ≡ now → IsLogged e n log new stored now → IsLogged e k log new from to
logged_moved e n k log new stored from now to same_place same becomes (inl (before, more, few, given)) =
    inl (
      before ∙ sym same_place,
      more ∙ ap (λ (j : ℕ). j + 1) (sym same_place),
      few,
      given_moved e e n k log.givings.items log.givings.items new.givings.items stored from now to
          refl same_place refl same becomes given,
    )
logged_moved e n k log new stored from now to same_place same becomes (inr (behind, len, items, stays)) =
    inr (behind, len, items, becomes ∙ stays ∙ sym same)

module _ (log new : GivingLog) (made : List Modification) (m : Modification) (xs zs : List StoredRule)
    (given : IsLogged m.edit (length made) log new xs zs) where
  -- what is stored stays consistent
  sound_else : (all : List Modification) (last changes : ℕ)
      → AreConsistent all xs last changes → AreConsistent all zs last changes
  sound_else all last changes sound =
      elim given [
        | inl (_, _, _, each) ↦
            sound_given (λ i. acts_on m.edit) (length made) log.givings.items new.givings.items xs zs each all last changes sound
        | inr (_, _, _, stays) ↦ subst (λ (stored : List StoredRule). AreConsistent all stored last changes) (sym stays) sound
      ]

  -- and the modifications make the same of it
  seen_alike : (all : List Modification) (v : ℕ) → rules_at all v zs ≡ rules_at all v xs
  seen_alike all v =
      elim given [
        | inl (_, _, _, each) ↦ rules_alike (λ i. acts_on m.edit) (length made) log.givings.items new.givings.items xs zs each all v
        | inr (_, _, _, stays) ↦ ap (rules_at all v) stays
      ]

  module _ (last changes : ℕ) (sound : AreConsistent made xs last changes)
      (is : IsLog log made xs) (its_number : m.number ≡ last + 1) where
    within : log.modifications ≤ length made
    within = is.within

    more : length (made ++ m ∷ []) ≡ length made + 1
    more = length-append made (m ∷ [])

    log_made : IsLog new (made ++ m ∷ []) zs
    log_made =
        elim given [
          | inl (before, next, few, each) ↦
              let all : logged log made ≡ made = take_all log.modifications made (omega arith) in
              let now : logged new (made ++ m ∷ []) ≡ made ++ m ∷ [] =
              take_all new.modifications (made ++ m ∷ []) (omega (arith, more)) in
              let led = subst (λ (part : List Modification). AreLedTo log.givings.items part xs) all is.led in
              record {
                few = few;
                within = omega (arith, more);
                led =
                    subst (λ (part : List Modification). AreLedTo new.givings.items part zs) (sym now)
                    (led_modified log.givings.items new.givings.items made m xs zs last its_number sound.numbered sound.lives led each);
              }
          | inr (behind, len, items, stays) ↦
              let now : logged new (made ++ m ∷ []) ≡ logged log made =
              ap (λ (n : ℕ). take n (made ++ m ∷ [])) behind ∙ take-append-le log.modifications made (m ∷ []) within in
              record {
                few = let few : vec_len log.givings ≤ most_givings = is.few in omega (arith, few);
                within = omega (arith, more, within);
                led = led_moved log.givings.items new.givings.items (logged log made) _ xs zs items now stays is.led;
              }
        ]

    -- what one more modification makes
    pub sound_modifying : last + 1 < 2 ^ 32 → is_modify m.edit.word ≡ true
        → (count : ℕ) → count ≡ count_by (is_picked_by m.edit.word m.edit) (rules_at made last xs)
        → AreConsistent (made ++ m ∷ []) zs m.number (changes + count) × IsLog new (made ++ m ∷ []) zs
        × (record { states = states_to m.number (λ v. rules_at (made ++ m ∷ []) v zs); changes = changes + count }
        ≡ edited_by m.edit (record { states = states_to last (λ v. rules_at made v xs); changes = changes }))
    sound_modifying room modifies count counted =
        let done = sound_modified made xs last changes sound m room modifies its_number count counted in (
          sound_else (made ++ m ∷ []) m.number (changes + count) done.0,
          log_made,
          ap (λ (states : List (List tables.Rule)). let h : EditHistory = record { states = states; changes = changes + count } in h)
              (same_states m.number (λ v. rules_at (made ++ m ∷ []) v xs) (λ v. rules_at (made ++ m ∷ []) v zs)
              (λ v le. seen_alike (made ++ m ∷ []) v))
              ∙ done.1,
        )
