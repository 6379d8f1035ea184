-- How many rules a subtable may have, and that whatever rules it has, they have the same numbers and keys.
use Rattle.std.proofs.Common.{◌≡◌, ℕ, zero, suc, ◌+◌, ◌<◌, ◌≤◌, ◌⊎◌, inl, inr, true, false, ◌==◌, not, List, [], ◌∷◌, filter, length, refl, sym, ap, ◌∙◌, subst, arith, eq-eqb}
use Rattle.std.specs.List.{count_by}
use Rattle.std.proofs.lemmas.Bool.{not-true, cases_lt}
use Rattle.spec_keys.specs.Keys.{same}
use Rattle.ovs_fields.specs.Equality.{equal_from_same, same_from_equal}
use Rattle.spec_tables.specs.Rules.{Rule}
use Rattle.table_laws.proofs.MemberLaws.{Among, Among-filter, Among_in-filter, Among_in-map}
use Rattle.staged_lookup.specs.declared.rank.Rank.{Rank}
use Rattle.staged_lookup.specs.Numbered.{AreDistinct, without, HasNoNumber}
use Rattle.staged_lookup.specs.Ranks.{rank_of}
use Rattle.staged_lookup.specs.Subtables.{ranks_with}
use Rattle.staged_lookup.proofs.Members.{among_map, count-cons}
use Rattle.staged_lookup.proofs.Removed.{count-without, distinct_without, length-without}

pub no_rules : (rs : List Rule) → length rs ≡ 0 → rs ≡ []
no_rules [] none = refl
no_rules (r ∷ rs) none = absurd (omega (arith, none))

pub some_rule : (rs : List Rule) → (length rs ≡ 0 → ⊥) → (r : Rule) × Among r rs
some_rule [] some = absurd (some refl)
some_rule (r ∷ rs) some = (r, inl refl)

pub has_some : (r : Rule) (rs : List Rule) → Among r rs → 1 ≤ length rs
has_some r [] m = absurd m
has_some r (x ∷ rs) m = omega arith

-- there is one rule less without one of them
all_counted : (rs : List Rule) → count_by (λ (r : Rule). true) rs ≡ length rs
all_counted [] = refl
all_counted (r ∷ rs) =
    let a : count_by (λ (s : Rule). true) (r ∷ rs) ≡ 1 + count_by (λ (s : Rule). true) rs = count-cons (λ (s : Rule). true) r rs in
    let rest = all_counted rs in
    omega (arith, a, rest)

pub one_less : (r : Rule) (rs : List Rule) → Among r rs → AreDistinct rs → length (without r.number rs) + 1 ≡ length rs
one_less r rs m distinct =
    let a = all_counted rs in
    let b = all_counted (without r.number rs) in
    let c = count-without (λ (s : Rule). true) r rs m distinct in
    omega (arith, a, b, c)

-- distinct rules whose numbers are below one are no more than it says
pub few_below : (n : ℕ) (rs : List Rule) → AreDistinct rs → ((r : Rule) → Among r rs → r.number < n) → length rs ≤ n
few_below zero [] distinct below = omega arith
few_below zero (r ∷ rs) distinct below = let b = below r (inl refl) in absurd (omega (arith, b))
few_below (suc n) rs distinct below =
    let rest = few_below n (without n rs) (distinct_without n rs distinct) left in
    let l = length-without n rs distinct in
    omega (arith, rest, l)
  where
    by : (r : Rule) → r.number < suc n → (r.number == n) ≡ false → (r.number < n) ⊎ (n ≤ r.number) → r.number < n
    by r below_next other (inl less) = less
    by r below_next other (inr no_less) =
        let is : r.number ≡ n = omega (arith, below_next, no_less) in
        let e : false ≡ true = sym other ∙ eq-eqb r.number n is in
        absurd (cc)

    left : (r : Rule) → Among r (without n rs) → r.number < n
    left r m =
        let a = Among-filter (λ (s : Rule). not (s.number == n)) r rs m in
        by r (below r a.0) (not-true (r.number == n) a.1) (cases_lt r.number n)

-- rules that have the same ranks at each key have the same numbers and keys
module _ (some all : List Rule) (alike : (q : List ℕ) → ranks_with q some ≡ ranks_with q all) where
  pub has_too : (r : Rule) → Among r some → (s : Rule) × Among s all × (s.number ≡ r.number) × (s.matching.key ≡ r.matching.key)
  has_too r m =
      let key = r.matching.key in
      let has_key = λ (x : Rule). same key x.matching.key in
      let ranked = Among_in-map rank_of r (filter has_key some) (Among_in-filter has_key r some m (same_from_equal key key refl)) in
      let other = among_map rank_of (rank_of r) (filter has_key all) (subst (Among (rank_of r)) (alike key) ranked) in
      let is = Among-filter has_key other.0 all other.1 in
      (other.0, is.0, ap (λ (k : Rank). k.number) (sym other.2), sym (equal_from_same key other.0.matching.key is.1))

pub lacks_too : (some all : List Rule) (number : ℕ) → ((q : List ℕ) → ranks_with q some ≡ ranks_with q all) → HasNoNumber number some → HasNoNumber number all
lacks_too some all number alike fresh r m of_number =
    let other = has_too all some (λ q. sym (alike q)) r m in
    fresh other.0 other.1 (other.2 ∙ of_number)
