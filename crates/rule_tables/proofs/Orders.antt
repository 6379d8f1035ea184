-- The numbers of rules, as they are after some edits, and of those that more edits bring: they rise, and are not too many.
use Rattle.std.proofs.Common.{◌≡◌, ℕ, zero, suc, ◌+◌, ◌≤◌, ◌<◌, Bool, true, false, cond, ◌&&◌, not, List, [], ◌∷◌, ◌++◌, length, map, Option, Some, None, refl, sym, ap, ap₂, ◌∙◌, subst, arith, ◌⊎◌, inl, inr, length-append}
use Rattle.std.specs.Prelude.{slice_get, slice_index_or, nat_le}
use Rattle.std.specs.List.{filter_map, cons_option}
use Rattle.std.specs.Option.{option_map}
use Rattle.std.proofs.lemmas.Bool.{cases_lt, and_parts, leb-true}
use Rattle.std.proofs.lemmas.Option.{none-some, same_Some, slice_get-get_or}
use Rattle.spec_tables.specs.Rules as tables
use Rattle.rule_tables.specs.declared.stored.Modification.{Modification}
use Rattle.rule_tables.specs.declared.stored.StoredRule.{StoredRule}
use Rattle.rule_tables.specs.Bare.{bare, bare_view, apart_from, AreRising}
use Rattle.rule_tables.specs.Changes.{came_at}
use Rattle.rule_tables.specs.Stored.{stored_in, is_before, is_alive, rule_at, rules_at, AreInOrder, AreNumbered}
use Rattle.rule_tables.proofs.Changing.{KeepsNumbers, kept, bare_kept, gained, gained_keeps, gained_early, all_none, apart_is}
use Rattle.rule_tables.proofs.FilterMaps.{filter_map_same, map-filter_map}
use Rattle.rule_tables.proofs.Lives.{rule_at-dead, dead_before}
use Rattle.rule_tables.proofs.Reordered.{Among, given_from}

-- ---- lists whose numbers rise

-- each is less than those behind it
abbrev Rise : List tables.Rule → Type 0
Rise [] = Unit {0}
Rise (r ∷ rs) = ((s : tables.Rule) → Among s rs → r.number < s.number) × Rise rs

rise_given : (f : StoredRule → Option tables.Rule) → KeepsNumbers f → (xs : List StoredRule) → AreInOrder xs → Rise (filter_map f xs)
rise_given f keeps [] in_order = tt
rise_given f keeps (x ∷ xs) in_order =
    by (rise_given f keeps xs (λ i j s t at there lt. in_order (suc i) (suc j) s t at there (omega arith))) (f x) refl
  where
    by : Rise (filter_map f xs) → (o : Option tables.Rule) → f x ≡ o → Rise (filter_map f (x ∷ xs))
    by rest None is = subst (λ (rs : List tables.Rule). Rise rs) (sym (ap (λ (o : Option tables.Rule). cons_option o (filter_map f xs)) is)) rest
    by rest (Some q) is =
        subst (λ (rs : List tables.Rule). Rise rs) (sym (ap (λ (o : Option tables.Rule). cons_option o (filter_map f xs)) is)) (
          λ s among.
              let from = given_from f xs s among in
              let rises : x.rule.number < from.1.rule.number = in_order 0 (suc from.0) x from.1 refl from.2 (omega arith) in
              let one : q.number ≡ x.rule.number = keeps x q is in
              let two : s.number ≡ from.1.rule.number = keeps from.1 s from.3 in
              omega arith,
          rest,
        )

among_cases : (r : tables.Rule) (rs ss : List tables.Rule) → Among r (rs ++ ss) → Among r rs ⊎ Among r ss
among_cases r [] ss among = inr among
among_cases r (q ∷ rs) ss (inl is) = inl (inl is)
among_cases r (q ∷ rs) ss (inr among) = elim (among_cases r rs ss among) [ inl first ↦ inl (inr first) | inr second ↦ inr second ]

rise_append : (rs ss : List tables.Rule) → Rise rs → Rise ss → ((q r : tables.Rule) → Among q rs → Among r ss → q.number < r.number) → Rise (rs ++ ss)
rise_append [] ss first second apart = second
rise_append (q ∷ rs) ss (below, rest) second apart = (
  λ s among. elim (among_cases s rs ss among) [ inl first ↦ below s first | inr later ↦ apart q s (inl refl) later ],
  rise_append rs ss rest second (λ p r first later. apart p r (inr first) later),
)

among_at : (rs : List tables.Rule) (k : ℕ) (t : tables.Rule) → slice_get rs k ≡ Some t → Among t rs
among_at [] k t at = absurd (none-some t at)
among_at (q ∷ rs) zero t at = inl (sym (same_Some q t at))
among_at (q ∷ rs) (suc k) t at = inr (among_at rs k t at)

rise_pairs : (rs : List tables.Rule) → Rise rs → AreRising rs
rise_pairs [] rise i j d lt within = absurd (omega arith)
rise_pairs (r ∷ rs) rise i zero d lt within = absurd (omega arith)
rise_pairs (r ∷ rs) (below, rest) zero (suc j) d lt within =
    below (slice_index_or rs j d) (among_at rs j (slice_index_or rs j d) (slice_get-get_or rs j d (omega arith)))
rise_pairs (r ∷ rs) (below, rest) (suc i) (suc j) d lt within = rise_pairs rs rest i j d (omega arith) (omega arith)

-- ---- the rules after some edits, and those that come behind them

-- of a stored rule at most one of both tells
count_step : (a b : Bool) (x : tables.Rule) (old new : List tables.Rule) (k : ℕ) → length old + length new ≤ k
    → length (cons_option (cond a (Some x) None) old) + length (cons_option (cond (b && not a) (Some x) None) new) ≤ suc k
count_step true true x old new k le = omega arith
count_step true false x old new k le = omega arith
count_step false true x old new k le = omega arith
count_step false false x old new k le = omega arith

count_both : (n m : ℕ) (xs : List StoredRule) → length (filter_map (came_at n) xs) + length (filter_map (gained n m) xs) ≤ length xs
count_both n m [] = omega arith
count_both n m (x ∷ xs) =
    let rest : length (filter_map (came_at n) xs) + length (filter_map (gained n m) xs) ≤ length xs = count_both n m xs in
    let more : length (filter_map (came_at n) (x ∷ xs)) + length (filter_map (gained n m) (x ∷ xs)) ≤ suc (length xs) =
    count_step (is_alive n x) (is_alive m x) (bare_view x.rule) (filter_map (came_at n) xs) (filter_map (gained n m) xs) (length xs) rest in
    omega arith

module _ (made : List Modification) (xs : List StoredRule) (in_order : AreInOrder xs) (n m : ℕ) where
  both_are : map bare (rules_at made n xs) ++ apart_from (rules_at made n xs) (rules_at made m xs) ≡ filter_map (came_at n) xs ++ filter_map (gained n m) xs
  both_are =
      ap₂ (λ (rs ss : List tables.Rule). rs ++ ss)
      (map-filter_map bare (rule_at made n) xs
      ∙ filter_map_same (λ s. option_map bare (rule_at made n s)) (came_at n) xs (λ i s at. bare_kept (is_alive n s) (stored_in made n s)))
      (apart_is made xs in_order n m)

  come_later : n ≤ m → (q r : tables.Rule) → Among q (filter_map (came_at n) xs) → Among r (filter_map (gained n m) xs) → q.number < r.number
  come_later le q r first second =
      let old = given_from (came_at n) xs q first in
      let new = given_from (gained n m) xs r second in
      let its = kept (is_alive n old.1) (bare_view old.1.rule) q old.3 in
      let low : old.1.rule.number ≤ n = leb-true old.1.rule.number n (and_parts (nat_le old.1.rule.number n) (is_before n old.1.gone) its.0).0 in
      let old_is : q.number ≡ old.1.rule.number = ap (λ (x : tables.Rule). x.number) its.1 in
      let new_is : r.number ≡ new.1.rule.number = gained_keeps n m new.1 r new.3 in
      elim (cases_lt n new.1.rule.number) [
        | inl high ↦ omega arith
        | inr early ↦ absurd (none-some r (sym (gained_early n m new.1 le early) ∙ new.3))
      ]

  pub rising_are : n ≤ m → AreRising (map bare (rules_at made n xs) ++ apart_from (rules_at made n xs) (rules_at made m xs))
  rising_are le =
      subst (λ (rs : List tables.Rule). AreRising rs) (sym both_are)
      (rise_pairs (filter_map (came_at n) xs ++ filter_map (gained n m) xs)
      (rise_append (filter_map (came_at n) xs) (filter_map (gained n m) xs)
      (rise_given (came_at n) (λ s r is. ap (λ (x : tables.Rule). x.number) (kept (is_alive n s) (bare_view s.rule) r is).1) xs in_order)
      (rise_given (gained n m) (gained_keeps n m) xs in_order) (come_later le)))

  pub few_are : length (map bare (rules_at made n xs) ++ apart_from (rules_at made n xs) (rules_at made m xs)) ≤ length xs
  few_are =
      subst (λ (rs : List tables.Rule). length rs ≤ length xs) (sym both_are)
      (omega (arith, length-append (filter_map (came_at n) xs) (filter_map (gained n m) xs), count_both n m xs))

-- before the first edit there are none
pub none_first : (made : List Modification) (xs : List StoredRule) (last : ℕ) → AreNumbered xs last → rules_at made 0 xs ≡ []
none_first made xs last numbered =
    all_none (rule_at made 0) xs (λ i s at.
    let bounds = numbered i s at in
    let low : i < s.rule.number = bounds.0 in
    rule_at-dead made 0 s (dead_before 0 s (omega arith)))
