-- What changes from some edits to more, by the stored rules and the ends of their lives.
use Rattle.std.proofs.Common.{◌≡◌, ℕ, zero, suc, ◌+◌, ◌≤◌, ◌<◌, Bool, true, false, cond, ◌&&◌, ◌==◌, not, List, [], ◌∷◌, ◌++◌, length, map, Option, Some, None, refl, sym, ap, ap₂, ◌∙◌, subst, arith, inl, inr}
use Rattle.std.specs.Prelude.{slice_get, filter, is_some, nat_le, IsPermutation}
use Rattle.std.specs.List.{filter_map, cons_option}
use Rattle.std.specs.Option.{option_map, option_and_then}
use Rattle.std.proofs.lemmas.Bool.{cases_Bool, cases_lt, false≢true, and_from, and_right, and_parts, eq-eqb, ne_eqb, le-leb, lt-ltb, leb-true, ltb-true, cond-true, cond-false}
use Rattle.std.proofs.lemmas.List.Elements.{filter_map-append}
use Rattle.std.proofs.lemmas.Option.{none-some, same_Some}
use Rattle.spec_tables.specs.Rules as tables
use Rattle.spec_tables.specs.Edits.{without}
use Rattle.spec_tables.specs.Live.{is_live}
use Rattle.rule_tables.specs.declared.ending.Ending.{Ending}
use Rattle.rule_tables.specs.declared.stored.Modification.{Modification}
use Rattle.rule_tables.specs.declared.stored.StoredRule.{StoredRule}
use Rattle.rule_tables.specs.Bare.{bare, bare_view, apart_from, told, IsChangedTo}
use Rattle.rule_tables.specs.Changes.{came_at, if_before, went_at}
use Rattle.rule_tables.specs.Ends.{AreEnds, IsBetween}
use Rattle.rule_tables.specs.Stored.{stored_in, is_before, is_alive, rule_at, rules_at, AreInOrder}
use Rattle.rule_tables.proofs.Between.{part_at, in_part}
use Rattle.rule_tables.proofs.FilterMaps.{filter_map_same, filter_map-map, map-filter_map, passing, filter-filter_map, any_at, none_passes}
use Rattle.rule_tables.proofs.Lives.{rule_at-alive, rule_at-dead, alive_on, dead_after, dead_before, gone_cases}
use Rattle.rule_tables.proofs.Reordered.{Among, AreUnlike, reordered, given_from, given_to, given_unlike}

-- ---- rules by their numbers

same_place : (xs : List StoredRule) → AreInOrder xs → (i j : ℕ) (s t : StoredRule) → slice_get xs i ≡ Some s → slice_get xs j ≡ Some t → s.rule.number ≡ t.rule.number → i ≡ j
same_place xs in_order i j s t at there same =
    elim (cases_lt i j) [
      | inl lt ↦ let rises : s.rule.number < t.rule.number = in_order i j s t at there lt in absurd (omega arith)
      | inr ge ↦ elim (cases_lt j i) [
        | inl gt ↦ let rises : t.rule.number < s.rule.number = in_order j i t s there at gt in absurd (omega arith)
        | inr le ↦ omega arith
      ]
    ]

-- what is given of stored rules has their numbers
abbrev pub KeepsNumbers : (StoredRule → Option tables.Rule) → Type 0
KeepsNumbers f = (s : StoredRule) (r : tables.Rule) → f s ≡ Some r → r.number ≡ s.rule.number

given_live : (f : StoredRule → Option tables.Rule) → KeepsNumbers f → (xs : List StoredRule) → AreInOrder xs → (i : ℕ) (s : StoredRule) → slice_get xs i ≡ Some s
    → is_live s.rule.number (filter_map f xs) ≡ is_some (f s)
given_live f keeps xs in_order i s at = by (f s) refl
  where
    by : (o : Option tables.Rule) → f s ≡ o → is_live s.rule.number (filter_map f xs) ≡ is_some (f s)
    by (Some r) is =
        any_at (λ (q : tables.Rule). q.number == s.rule.number) f xs i s r at is (eq-eqb r.number s.rule.number (keeps s r is)) ∙ sym (ap is_some is)
    by None is =
        none_passes (λ (q : tables.Rule). q.number == s.rule.number) f xs
        (λ j t r there gives. ne_eqb r.number s.rule.number (λ same.
        let here : i ≡ j = same_place xs in_order i j s t at there (sym same ∙ keeps t r gives) in
        none-some r (sym is ∙ ap f (same_Some s t (sym at ∙ ap (slice_get xs) here ∙ there)) ∙ gives)))
        ∙ sym (ap is_some is)

pub kept : (b : Bool) (x r : tables.Rule) → cond b (Some x) None ≡ Some r → (b ≡ true) × (r ≡ x)
kept true x r is = (refl, sym (same_Some x r is))
kept false x r is = absurd (none-some r is)

is_some_kept : (b : Bool) (x : tables.Rule) → is_some (cond b (Some x) None) ≡ b
is_some_kept true x = refl
is_some_kept false x = refl

pub bare_kept : (b : Bool) (x : tables.Rule) → option_map bare (cond b (Some x) None) ≡ cond b (Some (bare x)) None
bare_kept true x = refl
bare_kept false x = refl

and_true : (b : Bool) → (b && true) ≡ b
and_true true = refl
and_true false = refl

not_not : (b : Bool) → not (not b) ≡ b
not_not true = refl
not_not false = refl

-- a stored rule that is live after m edits and not after n
abbrev pub gained : ℕ → ℕ → StoredRule → Option tables.Rule
gained n m s = cond (is_alive m s && not (is_alive n s)) (Some (bare_view s.rule)) None

-- and one that is live after both
abbrev pub stays : ℕ → ℕ → StoredRule → Option tables.Rule
stays n m s = cond (is_alive n s && is_alive m s) (Some (bare_view s.rule)) None

pub gained_keeps : (n m : ℕ) → KeepsNumbers (gained n m)
gained_keeps n m s r is = ap (λ (x : tables.Rule). x.number) (kept (is_alive m s && not (is_alive n s)) (bare_view s.rule) r is).1

module _ (made : List Modification) (xs : List StoredRule) (in_order : AreInOrder xs) where
  live_at : (v i : ℕ) (s : StoredRule) → slice_get xs i ≡ Some s → is_live s.rule.number (rules_at made v xs) ≡ is_alive v s
  live_at v i s at =
      given_live (rule_at made v) (λ t r is. ap (λ (x : tables.Rule). x.number) (kept (is_alive v t) (stored_in made v t) r is).1) xs in_order i s at
      ∙ is_some_kept (is_alive v s) (stored_in made v s)

  -- whether a rule's number is not among those of the rules after n edits
  abbrev unseen : ℕ → tables.Rule → Bool
  unseen n r = not (is_live r.number (rules_at made n xs))

  pub apart_is : (n m : ℕ) → apart_from (rules_at made n xs) (rules_at made m xs) ≡ filter_map (gained n m) xs
  apart_is n m =
      ap (map bare) (filter-filter_map (unseen n) (rule_at made m) xs) ∙ map-filter_map bare (λ s. passing (unseen n) (rule_at made m s)) xs
      ∙ filter_map_same (λ s. option_map bare (passing (unseen n) (rule_at made m s))) (gained n m) xs each
    where
      each : (i : ℕ) (s : StoredRule) → slice_get xs i ≡ Some s → option_map bare (passing (unseen n) (rule_at made m s)) ≡ gained n m s
      each i s at =
          elim (cases_Bool (is_alive m s)) [
            | inl alive ↦
                ap (λ (o : Option tables.Rule). option_map bare (passing (unseen n) o)) (rule_at-alive made m s alive)
                ∙ ap (λ (b : Bool). option_map bare (cond (not b) (Some (stored_in made m s)) None)) (live_at n i s at)
                ∙ bare_kept (not (is_alive n s)) (stored_in made m s)
                ∙ sym (ap (λ (b : Bool). cond {A = Option tables.Rule} (b && not (is_alive n s)) (Some (bare_view s.rule)) None) alive)
            | inr dead ↦
                ap (λ (o : Option tables.Rule). option_map bare (passing (unseen n) o)) (rule_at-dead made m s dead)
                ∙ sym (ap (λ (b : Bool). cond {A = Option tables.Rule} (b && not (is_alive n s)) (Some (bare_view s.rule)) None) dead)
          ]

-- ---- those that came

-- a rule that was there after fewer edits, and is live after more, was live then
alive_back : (n m : ℕ) (s : StoredRule) → n ≤ m → s.rule.number ≤ n → is_alive m s ≡ true → is_alive n s ≡ true
alive_back n m s le early alive =
    elim (gone_cases s.gone) [
      | inl on ↦ alive_on n s on early
      | inr (gone, ends) ↦
          let later : m < gone = ltb-true m gone (sym (ap (is_before m) ends) ∙ (and_parts (nat_le s.rule.number m) (is_before m s.gone) alive).1) in
          and_from (nat_le s.rule.number n) (is_before n s.gone) (le-leb s.rule.number n early) (ap (is_before n) ends ∙ lt-ltb n gone (omega arith))
    ]

pub gained_early : (n m : ℕ) (s : StoredRule) → n ≤ m → s.rule.number ≤ n → gained n m s ≡ None
gained_early n m s le early =
    elim (cases_Bool (is_alive m s)) [
      | inl alive ↦
          ap₂ (λ (a b : Bool). cond {A = Option tables.Rule} (a && not b) (Some (bare_view s.rule)) None) alive (alive_back n m s le early alive)
      | inr dead ↦ ap (λ (b : Bool). cond {A = Option tables.Rule} (b && not (is_alive n s)) (Some (bare_view s.rule)) None) dead
    ]

gained_late : (n m : ℕ) (s : StoredRule) → n < s.rule.number → gained n m s ≡ came_at m s
gained_late n m s late =
    ap (λ (b : Bool). cond {A = Option tables.Rule} (is_alive m s && not b) (Some (bare_view s.rule)) None) (dead_before n s late)
    ∙ ap (λ (b : Bool). cond {A = Option tables.Rule} b (Some (bare_view s.rule)) None) (and_true (is_alive m s))

pub all_none : {A B : Type 0} (f : A → Option B) (xs : List A) → ((i : ℕ) (x : A) → slice_get xs i ≡ Some x → f x ≡ None) → filter_map f xs ≡ []
all_none f [] none = refl
all_none f (x ∷ xs) none = ap₂ cons_option (none 0 x refl) (all_none f xs (λ i y at. none (suc i) y at))

pub came_are : (made : List Modification) (xs part : List StoredRule) → AreInOrder xs → (n m : ℕ) → n ≤ m → IsBetween (λ (s : StoredRule). s.rule.number) n m xs part
    → filter_map (came_at m) part ≡ apart_from (rules_at made n xs) (rules_at made m xs)
came_are made xs part in_order n m le is =
    sym (apart_is made xs in_order n m ∙ ap (filter_map (gained n m)) is.whole
    ∙ filter_map-append (gained n m) is.earlier (part ++ is.later)
    ∙ ap₂ (λ (a b : List tables.Rule). a ++ b) (all_none (gained n m) is.earlier (λ i s at. gained_early n m s le (is.up_to i s at)))
    (filter_map-append (gained n m) part is.later
    ∙ ap₂ (λ (a b : List tables.Rule). a ++ b)
    (filter_map_same (gained n m) (came_at m) part (λ i s at. gained_late n m s (is.past i s at)))
    (all_none (gained n m) is.later (λ i s at.
    ap (λ (b : Bool). cond {A = Option tables.Rule} (b && not (is_alive n s)) (Some (bare_view s.rule)) None) (dead_before m s (is.beyond i s at))))
    ∙ append_nil (filter_map (came_at m) part)))
  where
    append_nil : (rs : List tables.Rule) → rs ++ [] ≡ rs
    append_nil [] = refl
    append_nil (r ∷ rs) = ap (λ (rest : List tables.Rule). r ∷ rest) (append_nil rs)

-- ---- those that went

module _ (made : List Modification) (xs : List StoredRule) (in_order : AreInOrder xs) (ends part : List Ending) (last n m : ℕ) (le : n ≤ m) (are : AreEnds ends xs last) (is : IsBetween (λ (e : Ending). e.edit) n m ends part) where
  -- the rule of an end that is told
  ended_rule : (e : Ending) (r : tables.Rule) → (j : ℕ) → slice_get part j ≡ Some e → went_at xs n e ≡ Some r
      → (s : StoredRule) × (slice_get xs e.place ≡ Some s) × (s.gone ≡ Some e.edit) × (s.rule.number ≤ n) × (r ≡ bare_view s.rule)
  ended_rule e r j at gives =
      let its = are.own (length is.earlier + j) e (part_at (λ (d : Ending). d.edit) n m ends part is j e at) in
      let told = kept (nat_le its.rule.rule.number n) (bare_view its.rule.rule) r (sym (ap (option_and_then (if_before n)) its.at) ∙ gives) in
      (its.rule, its.at, its.gone, leb-true its.rule.rule.number n told.0, told.1)

  went_gained : (r : tables.Rule) → Among r (filter_map (went_at xs n) part) → Among r (filter_map (gained m n) xs)
  went_gained r among =
      let from = given_from (went_at xs n) part r among in
      let e : Ending = from.1 in
      let told = ended_rule e r from.0 from.2 from.3 in
      let s : StoredRule = told.0 in
      let early : s.rule.number ≤ n = told.3 in
      let past : n < e.edit = is.past from.0 e from.2 in
      let alive : is_alive n s ≡ true =
      and_from (nat_le s.rule.number n) (is_before n s.gone) (le-leb s.rule.number n early) (ap (is_before n) told.2 ∙ lt-ltb n e.edit past) in
      let dead : is_alive m s ≡ false = dead_after m e.edit s told.2 (is.within from.0 e from.2) in
      given_to (gained m n) xs e.place s r told.1
      (ap₂ (λ (a b : Bool). cond {A = Option tables.Rule} (a && not b) (Some (bare_view s.rule)) None) alive dead ∙ ap (λ (x : tables.Rule). Some x) (sym told.4))

  gained_went : (r : tables.Rule) → Among r (filter_map (gained m n) xs) → Among r (filter_map (went_at xs n) part)
  gained_went r among =
      let from = given_from (gained m n) xs r among in
      let s : StoredRule = from.1 in
      let has = kept (is_alive n s && not (is_alive m s)) (bare_view s.rule) r from.3 in
      let lives = and_parts (is_alive n s) (not (is_alive m s)) has.0 in
      let begun = and_parts (nat_le s.rule.number n) (is_before n s.gone) lives.0 in
      let early : s.rule.number ≤ n = leb-true s.rule.number n begun.0 in
      elim (gone_cases s.gone) [
        | inl on ↦ absurd (false≢true (ap not (sym (alive_on m s on (omega arith))) ∙ lives.1))
        | inr (gone, goes) ↦
            let past : n < gone = ltb-true n gone (sym (ap (is_before n) goes) ∙ begun.1) in
            elim (cases_lt m gone) [
              | inl later ↦
                  let alive : is_alive m s ≡ true =
                  and_from (nat_le s.rule.number m) (is_before m s.gone) (le-leb s.rule.number m (omega arith)) (ap (is_before m) goes ∙ lt-ltb m gone later) in
                  absurd (false≢true (ap not (sym alive) ∙ lives.1))
              | inr by_then ↦
                  let e : Ending = record { place = from.0; edit = gone } in
                  let logged = are.whole from.0 gone s from.2 goes in
                  let there = in_part (λ (d : Ending). d.edit) n m ends part is logged.0 e logged.1 past by_then in
                  given_to (went_at xs n) part there.0 e r there.1
                  (ap (option_and_then (if_before n)) from.2 ∙ cond-true (nat_le s.rule.number n) (Some (bare_view s.rule)) None begun.0 ∙ ap (λ (x : tables.Rule). Some x) (sym has.1))
            ]
      ]

  gained_unlike : AreUnlike (filter_map (gained m n) xs)
  gained_unlike =
      given_unlike (gained m n) xs (λ i j s t q r lt at there first second same.
      let rises : s.rule.number < t.rule.number = in_order i j s t at there lt in
      let one : q.number ≡ s.rule.number = gained_keeps m n s q first in
      let two : r.number ≡ t.rule.number = gained_keeps m n t r second in
      omega arith)

  went_unlike : AreUnlike (filter_map (went_at xs n) part)
  went_unlike =
      given_unlike (went_at xs n) part (λ i j d e q r lt at there first second same.
      let one = ended_rule d q i at first in
      let two = ended_rule e r j there second in
      are.once (length is.earlier + i) (length is.earlier + j) d e
      (part_at (λ (c : Ending). c.edit) n m ends part is i d at) (part_at (λ (c : Ending). c.edit) n m ends part is j e there) (omega arith)
      (same_place xs in_order d.place e.place one.0 two.0 one.1 two.1
      (sym (ap (λ (x : tables.Rule). x.number) one.4) ∙ sym same ∙ ap (λ (x : tables.Rule). x.number) two.4)))

  pub went_are : IsPermutation (apart_from (rules_at made m xs) (rules_at made n xs)) (filter_map (went_at xs n) part)
  went_are =
      subst (λ (rs : List tables.Rule). IsPermutation rs (filter_map (went_at xs n) part)) (sym (apart_is made xs in_order m n))
      (reordered (filter_map (gained m n) xs) (filter_map (went_at xs n) part) gained_unlike went_unlike gained_went went_gained)

-- what places tell
pub told-map : {A : Type 0} (f : A → Option tables.Rule) (xs : List A) → told (map f xs) ≡ filter_map f xs
told-map f xs = filter_map-map (λ (o : Option tables.Rule). o) f xs

-- ---- how the rules lead to the next ones

come_behind : (xs : List StoredRule) → AreInOrder xs → (n m : ℕ) → n ≤ m → filter_map (came_at m) xs ≡ filter_map (stays n m) xs ++ filter_map (gained n m) xs
come_behind [] in_order n m le = refl
come_behind (x ∷ xs) in_order n m le =
    elim (cases_lt n x.rule.number) [
      | inl late ↦
          filter_map_same (came_at m) (gained n m) (x ∷ xs) (λ i s at. sym (gained_late n m s (all_late late i s at)))
          ∙ sym (ap (λ (rs : List tables.Rule). rs ++ filter_map (gained n m) (x ∷ xs)) (all_none (stays n m) (x ∷ xs) (λ i s at.
          ap (λ (b : Bool). cond {A = Option tables.Rule} (b && is_alive m s) (Some (bare_view s.rule)) None) (dead_before n s (all_late late i s at)))))
      | inr early ↦
          ap₂ cons_option (early_stays early) (come_behind xs (λ i j s t at there lt. in_order (suc i) (suc j) s t at there (omega arith)) n m le)
          ∙ cons_append (stays n m x) (filter_map (stays n m) xs) (filter_map (gained n m) xs)
          ∙ sym (ap (λ (o : Option tables.Rule). filter_map (stays n m) (x ∷ xs) ++ cons_option o (filter_map (gained n m) xs)) (gained_early n m x le early))
    ]
  where
    all_late : n < x.rule.number → (i : ℕ) (s : StoredRule) → slice_get (x ∷ xs) i ≡ Some s → n < s.rule.number
    all_late late zero s at = let same : x.rule.number ≡ s.rule.number = ap (λ (t : StoredRule). t.rule.number) (same_Some x s at) in omega arith
    all_late late (suc i) s at = let rises : x.rule.number < s.rule.number = in_order 0 (suc i) x s refl at (omega arith) in omega arith

    early_stays : x.rule.number ≤ n → came_at m x ≡ stays n m x
    early_stays early =
        elim (cases_Bool (is_alive m x)) [
          | inl alive ↦
              ap (λ (b : Bool). cond {A = Option tables.Rule} b (Some (bare_view x.rule)) None) alive
              ∙ sym (ap₂ (λ (a b : Bool). cond {A = Option tables.Rule} (a && b) (Some (bare_view x.rule)) None) (alive_back n m x le early alive) alive)
          | inr dead ↦
              ap (λ (b : Bool). cond {A = Option tables.Rule} b (Some (bare_view x.rule)) None) dead
              ∙ sym (cond-false (is_alive n x && is_alive m x) (Some (bare_view x.rule)) None (and_right (is_alive n x) (is_alive m x) dead))
        ]

    cons_append : (o : Option tables.Rule) (a b : List tables.Rule) → cons_option o (a ++ b) ≡ cons_option o a ++ b
    cons_append None a b = refl
    cons_append (Some r) a b = refl

module _ (made : List Modification) (xs : List StoredRule) (in_order : AreInOrder xs) (n m : ℕ) where
  -- those that went
  abbrev gone : List tables.Rule
  gone = apart_from (rules_at made m xs) (rules_at made n xs)

  abbrev other : tables.Rule → Bool
  other r = not (is_live r.number gone)

  gone_at_number : (i : ℕ) (s : StoredRule) → slice_get xs i ≡ Some s → is_live s.rule.number gone ≡ (is_alive n s && not (is_alive m s))
  gone_at_number i s at =
      ap (is_live s.rule.number) (apart_is made xs in_order m n) ∙ given_live (gained m n) (gained_keeps m n) xs in_order i s at
      ∙ is_some_kept (is_alive n s && not (is_alive m s)) (bare_view s.rule)

  other_at : (i : ℕ) (s : StoredRule) → slice_get xs i ≡ Some s → passing other (option_map bare (rule_at made n s)) ≡ stays n m s
  other_at i s at =
      elim (cases_Bool (is_alive n s)) [
        | inl alive ↦
            ap (λ (o : Option tables.Rule). passing other (option_map bare o)) (rule_at-alive made n s alive)
            ∙ ap (λ (b : Bool). cond {A = Option tables.Rule} (not b) (Some (bare_view s.rule)) None) (gone_at_number i s at)
            ∙ ap (λ (b : Bool). cond {A = Option tables.Rule} (not (b && not (is_alive m s))) (Some (bare_view s.rule)) None) alive
            ∙ ap (λ (b : Bool). cond {A = Option tables.Rule} b (Some (bare_view s.rule)) None) (not_not (is_alive m s))
            ∙ sym (ap (λ (b : Bool). cond {A = Option tables.Rule} (b && is_alive m s) (Some (bare_view s.rule)) None) alive)
        | inr dead ↦
            ap (λ (o : Option tables.Rule). passing other (option_map bare o)) (rule_at-dead made n s dead)
            ∙ sym (ap (λ (b : Bool). cond {A = Option tables.Rule} (b && is_alive m s) (Some (bare_view s.rule)) None) dead)
      ]

  stayed : without (λ r. is_live r.number gone) (map bare (rules_at made n xs)) ≡ filter_map (stays n m) xs
  stayed =
      ap (filter other) (map-filter_map bare (rule_at made n) xs)
      ∙ filter-filter_map other (λ s. option_map bare (rule_at made n s)) xs
      ∙ filter_map_same (λ s. passing other (option_map bare (rule_at made n s))) (stays n m) xs other_at

  pub changed_are : n ≤ m → IsChangedTo (rules_at made n xs) (rules_at made m xs)
  changed_are le =
      map-filter_map bare (rule_at made m) xs
      ∙ filter_map_same (λ s. option_map bare (rule_at made m s)) (came_at m) xs (λ i s at. bare_kept (is_alive m s) (stored_in made m s))
      ∙ come_behind xs in_order n m le
      ∙ ap₂ (λ (a b : List tables.Rule). a ++ b) (sym stayed) (sym (apart_is made xs in_order n m))
