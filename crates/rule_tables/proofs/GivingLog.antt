-- The log of what rules were given: where it leads, and how it grows.
use Rattle.std.proofs.Common.{◌≡◌, ℕ, zero, suc, ◌+◌, ◌-◌, ◌≤◌, ◌<◌, Bool, true, false, cond, ◌&&◌, List, length, take, get_or, Option, Some, None, refl, sym, ap, ◌∙◌, subst, arith, inl, inr}
use Rattle.std.specs.Prelude.{slice_get, nat_lt, nat_le, unwrap_or}
use Rattle.std.specs.List.{fold}
use Rattle.std.specs.Option.{option_map_or, ForSome}
use Rattle.std.proofs.lemmas.Bool.{cases_lt, and_parts, and_from, and_left, and_right, le-leb, leb-true, lt-leb, ltb-true, lt-ltb, both_ways, cond-true, cond-false, false_from_ne_true}
use Rattle.std.proofs.lemmas.List.{take_more}
use Rattle.std.proofs.lemmas.List.Sums.{fold_push}
use Rattle.std.proofs.lemmas.Option.{none-some, same_Some, slice_get_within, slice_get_cases, slice_get-get_or, get_or_from_slice_get}
use Rattle.rule_tables.specs.declared.givings.Giving.{Giving}
use Rattle.rule_tables.specs.declared.stored.Modification.{Modification}
use Rattle.rule_tables.specs.declared.stored.StoredRule.{StoredRule}
use Rattle.rule_tables.specs.Stored.{picks, is_given, given_cookie, later_given, cookie_in, last_given, is_before, is_alive}
use Rattle.rule_tables.specs.Givings.{was_given, was_given_at, Leads, Extends}

-- ---- where it leads

-- a longer log leads to the same
pub leads_alike : (log new : List Giving) (given same : ℕ → Bool) (n : ℕ) (here : Option ℕ) → Extends log new → ((k : ℕ) → k < n → same k ≡ given k)
    → Leads log given n here → Leads new same n here
leads_alike log new given same zero here grows alike led = led
leads_alike log new given same (suc n) here grows alike (inl (idle, led)) =
    inl (alike n (omega arith) ∙ idle, leads_alike log new given same n here grows (λ k lt. alike k (omega arith)) led)
leads_alike log new given same (suc n) here grows alike (inr (is, giving)) =
    inr (
      alike n (omega arith) ∙ is,
      record {
        place = giving.place;
        before = giving.before;
        is = giving.is;
        at = grows giving.place (record { modification = n; before = giving.before }) giving.at;
        back = giving.back;
        rest = leads_alike log new given same n giving.before grows (λ k lt. alike k (omega arith)) giving.rest;
      },
    )

-- where nothing was given it leads nowhere
pub leads_nowhere : (log : List Giving) (given : ℕ → Bool) (n : ℕ) → ((k : ℕ) → k < n → given k ≡ false) → Leads log given n None
leads_nowhere log given zero none = refl
leads_nowhere log given (suc n) none = inl (none n (omega arith), leads_nowhere log given n (λ k lt. none k (omega arith)))

-- it leads to places within
pub led_within : (log : List Giving) (given : ℕ → Bool) (n : ℕ) (here : Option ℕ) → Leads log given n here → ForSome here (λ place. place < length log)
led_within log given zero here led place is = absurd (none-some place (sym led ∙ is))
led_within log given (suc n) here (inl (idle, led)) place is = led_within log given n here led place is
led_within log given (suc n) here (inr (given_now, giving)) place is =
    let same : giving.place ≡ place = same_Some giving.place place (sym giving.is ∙ is) in
    let within : giving.place < length log = slice_get_within log giving.place (record { modification = n; before = giving.before }) giving.at in
    omega arith

-- from nowhere nothing was given
pub nothing_given : (log : List Giving) (given : ℕ → Bool) (n : ℕ) (here : Option ℕ) → here ≡ None → Leads log given n here → (k : ℕ) → k < n → given k ≡ false
nothing_given log given zero here none led k lt = absurd (omega arith)
nothing_given log given (suc n) here none (inl (idle, led)) k lt =
    elim (cases_lt k n) [
      | inl below ↦ nothing_given log given n here none led k below
      | inr past ↦ let same : n ≡ k = omega arith in subst (λ (j : ℕ). given j ≡ false) same idle
    ]
nothing_given log given (suc n) here none (inr (given_now, giving)) k lt = absurd (none-some giving.place (sym none ∙ giving.is))

-- What the newest giving tells of the first n modifications.
pub record IsNewest (log : List Giving) (given : ℕ → Bool) (n place : ℕ) (g : Giving) : Type 0 where
  pub at : slice_get log place ≡ Some g
  pub below : g.modification < n
  pub is : given g.modification ≡ true
  pub back : ForSome g.before (λ b. b < place)
  pub others : (k : ℕ) → g.modification < k → k < n → given k ≡ false
  pub rest : Leads log given g.modification g.before

newest_there : (log : List Giving) (given : ℕ → Bool) (n : ℕ) (here : Option ℕ) (place : ℕ) → here ≡ Some place → Leads log given n here → (g : Giving) × IsNewest log given n place g
newest_there log given zero here place is led = absurd (none-some place (sym led ∙ is))
newest_there log given (suc n) here place is (inl (idle, led)) =
    let earlier = newest_there log given n here place is led in (
      earlier.0,
      record {
        at = earlier.1.at;
        below = let lt : earlier.0.modification < n = earlier.1.below in omega arith;
        is = earlier.1.is;
        back = earlier.1.back;
        others = λ k above lt.
            elim (cases_lt k n) [
              | inl before ↦ earlier.1.others k above before
              | inr past ↦ let same : n ≡ k = omega arith in subst (λ (j : ℕ). given j ≡ false) same idle
            ];
        rest = earlier.1.rest;
      },
    )
newest_there log given (suc n) here place is (inr (given_now, giving)) =
    let same : giving.place ≡ place = same_Some giving.place place (sym giving.is ∙ is) in (
      record { modification = n; before = giving.before },
      record {
        at = ap (slice_get log) (sym same) ∙ giving.at;
        below = omega arith;
        is = given_now;
        back = λ b is_some. let lt : b < giving.place = giving.back b is_some in omega arith;
        others = λ k above lt. absurd (omega arith);
        rest = giving.rest;
      },
    )

pub newest : (log : List Giving) (given : ℕ → Bool) (n : ℕ) (here : Option ℕ) (place : ℕ) (d : Giving) → here ≡ Some place → Leads log given n here
    → IsNewest log given n place (get_or log place d)
newest log given n here place d is led =
    let found = newest_there log given n here place is led in
    subst (λ (g : Giving). IsNewest log given n place g) (sym (get_or_from_slice_get log place found.0 d found.1.at)) found.1

-- ---- what a fold over the modifications makes of it

module _ {B : Type 0} (made : List Modification) (f : B → Modification → B) (z : B) where
  abbrev so_far : ℕ → B
  so_far n = fold f z (take n made)

  fold_more : (n : ℕ) (m : Modification) → slice_get made n ≡ Some m → so_far (n + 1) ≡ f (so_far n) m
  fold_more n m at =
      ap (fold f z) (take_more made n m (slice_get_within made n m at)) ∙ fold_push f z (take n made) (get_or made n m)
      ∙ ap (f (so_far n)) (get_or_from_slice_get made n m m at)

  fold_past : (j d : ℕ) → j + d ≤ length made → ((k : ℕ) (m : Modification) (b : B) → j ≤ k → k < j + d → slice_get made k ≡ Some m → f b m ≡ b) → so_far (j + d) ≡ so_far j
  fold_past j zero le still = let same : j + 0 ≡ j = omega arith in ap so_far same
  fold_past j (suc d) le still =
      elim (slice_get_cases made (j + d)).1 [
        | inl (m, lt, at, _) ↦
            let next : j + suc d ≡ j + d + 1 = omega arith in
            ap so_far next ∙ fold_more (j + d) m at ∙ still (j + d) m (so_far (j + d)) (omega arith) (omega arith) at
            ∙ fold_past j d (omega arith) (λ k m b le lt at. still k m b le (omega arith) at)
        | inr (past, _) ↦ absurd (omega arith)
      ]

  fold_still : (j n : ℕ) → j ≤ n → n ≤ length made → ((k : ℕ) (m : Modification) (b : B) → j ≤ k → k < n → slice_get made k ≡ Some m → f b m ≡ b) → so_far n ≡ so_far j
  fold_still j n le within still =
      let all : j + (n - j) ≡ n = omega arith in
      ap so_far (sym all) ∙ fold_past j (n - j) (omega arith) (λ k m b low lt at. still k m b low (omega arith) at)

-- ---- what a rule has after edits after which it is live

-- fewer edits come before the end of a life too
earlier : (w v : ℕ) (gone : Option ℕ) → w ≤ v → is_before v gone ≡ true → is_before w gone ≡ true
earlier w v None le before = refl
earlier w v (Some gone) le before = let lt : v < gone = ltb-true v gone before in lt-ltb w gone (omega arith)

-- the modification at a place
pub given_there : (made : List Modification) (s : StoredRule) (n : ℕ) (m : Modification) → slice_get made n ≡ Some m → was_given_at made s n ≡ was_given s m
given_there made s n m at = ap (λ (o : Option Modification). option_map_or (was_given s) o false) at

module _ (made : List Modification) (s : StoredRule) (v : ℕ) (alive : is_alive v s ≡ true) where
  -- by these edits the rule was given what it was given at all, where that came by then
  pub given_by : (m : Modification) → was_given s m ≡ true → m.number ≤ v → is_given v s m ≡ true
  given_by m was le =
      let outer = and_parts (nat_lt s.rule.number m.number) (is_before m.number s.gone && picks m.edit s.rule) was in
      let inner = and_parts (is_before m.number s.gone) (picks m.edit s.rule) outer.1 in
      and_from (nat_lt s.rule.number m.number) (nat_le m.number v && picks m.edit s.rule) outer.0
      (and_from (nat_le m.number v) (picks m.edit s.rule) (le-leb m.number v le) inner.1)

  pub not_given_yet : (m : Modification) → v < m.number → is_given v s m ≡ false
  not_given_yet m lt =
      and_right (nat_lt s.rule.number m.number) (nat_le m.number v && picks m.edit s.rule)
      (and_left (nat_le m.number v) (picks m.edit s.rule) (lt-leb m.number v lt))

  never_given : (m : Modification) → was_given s m ≡ false → is_given v s m ≡ false
  never_given m never =
      false_from_ne_true (is_given v s m) (λ given.
      let outer = and_parts (nat_lt s.rule.number m.number) (nat_le m.number v && picks m.edit s.rule) given in
      let inner = and_parts (nat_le m.number v) (picks m.edit s.rule) outer.1 in
      let lives = and_parts (nat_le s.rule.number v) (is_before v s.gone) alive in
      both_ways (was_given s m) never
      (and_from (nat_lt s.rule.number m.number) (is_before m.number s.gone && picks m.edit s.rule) outer.0
      (and_from (is_before m.number s.gone) (picks m.edit s.rule) (earlier m.number v s.gone (leb-true m.number v inner.0) lives.1) inner.1)))

  module _ {B : Type 0} (f : B → Modification → B) (z : B) (ignores : (m : Modification) (b : B) → is_given v s m ≡ false → f b m ≡ b) where
    -- the newest is the last that counts
    pub fold_newest : (log : List Giving) (n place : ℕ) (g : Giving) (m : Modification) → n ≤ length made → IsNewest log (was_given_at made s) n place g → slice_get made g.modification ≡ Some m
        → fold f z (take n made) ≡ f (fold f z (take g.modification made)) m
    fold_newest log n place g m within newest at =
        let below : g.modification < n = newest.below in
        fold_still made f z (g.modification + 1) n (omega arith) within
        (λ k other b low lt there. ignores other b (never_given other (sym (given_there made s k other there) ∙ newest.others k (omega arith) lt)))
        ∙ fold_more made f z g.modification m at

    pub fold_nothing : (log : List Giving) (n : ℕ) (here : Option ℕ) → n ≤ length made → here ≡ None → Leads log (was_given_at made s) n here → fold f z (take n made) ≡ z
    fold_nothing log n here within none led =
        fold_still made f z 0 n (omega arith) within
        (λ k other b low lt there. ignores other b (never_given other (sym (given_there made s k other there) ∙ nothing_given log (was_given_at made s) n here none led k lt)))

  -- ---- its actions and its cookie

  ignored_later : (m : Modification) (last : Option Modification) → is_given v s m ≡ false → later_given v s last m ≡ last
  ignored_later m last not = cond-false (is_given v s m) (Some m) last not

  ignored_cookie : (m : Modification) (cookie : ℕ) → is_given v s m ≡ false → given_cookie v s cookie m ≡ cookie
  ignored_cookie m cookie not = cond-false (is_given v s m) (unwrap_or m.edit.cookie cookie) cookie not

  cond_same : (b : Bool) (n : ℕ) → cond b n n ≡ n
  cond_same true n = refl
  cond_same false n = refl

  module _ (log : List Giving) (n place : ℕ) (g : Giving) (m : Modification) (within : n ≤ length made) (newest : IsNewest log (was_given_at made s) n place g) (at : slice_get made g.modification ≡ Some m) where
    was : was_given s m ≡ true
    was = sym (given_there made s g.modification m at) ∙ newest.is

    pub last_found : m.number ≤ v → last_given (take n made) v s ≡ Some m
    last_found le =
        fold_newest (later_given v s) None ignored_later log n place g m within newest at
        ∙ cond-true (is_given v s m) (Some m) (last_given (take g.modification made) v s) (given_by m was le)

    pub last_before : v < m.number → last_given (take n made) v s ≡ last_given (take g.modification made) v s
    last_before lt =
        fold_newest (later_given v s) None ignored_later log n place g m within newest at
        ∙ ignored_later m (last_given (take g.modification made) v s) (not_given_yet m lt)

    pub cookie_found : (cookie : ℕ) → m.edit.cookie ≡ Some cookie → m.number ≤ v → cookie_in (take n made) v s ≡ cookie
    cookie_found cookie has le =
        fold_newest (given_cookie v s) s.rule.cookie ignored_cookie log n place g m within newest at
        ∙ cond-true (is_given v s m) (unwrap_or m.edit.cookie (cookie_in (take g.modification made) v s)) (cookie_in (take g.modification made) v s) (given_by m was le)
        ∙ ap (λ (o : Option ℕ). unwrap_or o (cookie_in (take g.modification made) v s)) has

    pub cookie_before : v < m.number → cookie_in (take n made) v s ≡ cookie_in (take g.modification made) v s
    cookie_before lt =
        fold_newest (given_cookie v s) s.rule.cookie ignored_cookie log n place g m within newest at
        ∙ ignored_cookie m (cookie_in (take g.modification made) v s) (not_given_yet m lt)

    pub cookie_kept : m.edit.cookie ≡ None → cookie_in (take n made) v s ≡ cookie_in (take g.modification made) v s
    cookie_kept none =
        fold_newest (given_cookie v s) s.rule.cookie ignored_cookie log n place g m within newest at
        ∙ ap (λ (o : Option ℕ). cond (is_given v s m) (unwrap_or o (cookie_in (take g.modification made) v s)) (cookie_in (take g.modification made) v s)) none
        ∙ cond_same (is_given v s m) (cookie_in (take g.modification made) v s)

  pub last_nothing : (log : List Giving) (n : ℕ) (here : Option ℕ) → n ≤ length made → here ≡ None → Leads log (was_given_at made s) n here → last_given (take n made) v s ≡ None
  last_nothing log n here within none led = fold_nothing (later_given v s) None ignored_later log n here within none led

  pub cookie_nothing : (log : List Giving) (n : ℕ) (here : Option ℕ) → n ≤ length made → here ≡ None → Leads log (was_given_at made s) n here → cookie_in (take n made) v s ≡ s.rule.cookie
  cookie_nothing log n here within none led = fold_nothing (given_cookie v s) s.rule.cookie ignored_cookie log n here within none led

-- ---- one step back

-- the places go down
pub back_by : (here : Option ℕ) (place : ℕ) (before : Option ℕ) → here ≡ Some place → ForSome before (λ b. b < place) → option_map_or suc before 0 < option_map_or suc here 0
back_by here place before is back = subst (λ (o : Option ℕ). option_map_or suc before 0 < option_map_or suc o 0) (sym is) (by before back)
  where
    by : (o : Option ℕ) → ForSome o (λ b. b < place) → option_map_or suc o 0 < suc place
    by None back = omega arith
    by (Some b) back = let lt : b < place = back b refl in omega arith

pub modification_there : (made : List Modification) (j n : ℕ) (m : Modification) → n ≤ length made → j < n → m ≡ get_or made j m → slice_get made j ≡ Some m
modification_there made j n m within below is = slice_get-get_or made j m (omega arith) ∙ ap (λ (k : Modification). Some k) (sym is)
