-- What a version becomes, as its tables are led to the next one.
use Rattle.std.proofs.Common.{◌≡◌, ◌≤◌, Bool, true, false, ◌==◌, not, if◌then◌else◌, List, [], ◌∷◌, ◌++◌, map, filter, inl, inr, refl, sym, ap, ap₂, ◌∙◌, subst, arith, eqb-true, eq-eqb}
use Rattle.std.specs.Prelude.{IsPermutation}
use Rattle.std.specs.List.{count_by, list_any}
use Rattle.std.proofs.lemmas.Bool.{cond-true, cond-false, false≢true, or_left, or_right}
use Rattle.std.proofs.lemmas.List.Elements.{filter-append}
use Rattle.std.proofs.lemmas.List.Sorted.{IsPermutation-sym, sum_by-IsPermutation, Contains-permutation, list_any-IsPermutation}
use Rattle.spec_tables.specs.Rules.{Rule}
use Rattle.spec_tables.specs.Edits as edits
use Rattle.spec_tables.specs.Live.{is_live}
use Rattle.table_laws.proofs.MemberLaws.{Among, Among-filter, Among-append_left, Among_from-Contains, Contains_from-Among}
use Rattle.rule_tables.specs.Bare.{bare, apart_from, AreRising}
use Rattle.staged_lookup.specs.Numbered.{AreDistinct}
use Rattle.staged_lookup.proofs.Members.{any_among, among_map}
use Rattle.tuple_classifier.specs.Changing.{but, CanGo}
use Rattle.tuple_classifier.proofs.GoLaws.{filter_alike}
use Rattle.tuple_classifier.proofs.Rising.{rises, rising_front, rising_distinct}
use Rattle.tuple_classifier.proofs.TableLaws.{untrue, distinct_filter}

-- tests of numbers alone pass bare rules alike
pub bare_filter : (p : Rule → Bool) → ((r : Rule) → p (bare r) ≡ p r) → (rs : List Rule) → map bare (filter p rs) ≡ filter p (map bare rs)
bare_filter p same [] = refl
bare_filter p same (r ∷ rs) = at (p r) refl (bare_filter p same rs)
  where
    at : (t : Bool) → p r ≡ t → map bare (filter p rs) ≡ filter p (map bare rs) → map bare (if t then r ∷ filter p rs else filter p rs) ≡ filter p (bare r ∷ map bare rs)
    at true e ih = ap (λ (xs : List Rule). bare r ∷ xs) ih ∙ sym (cond-true (p (bare r)) (bare r ∷ filter p (map bare rs)) (filter p (map bare rs)) (same r ∙ e))
    at false e ih = ih ∙ sym (cond-false (p (bare r)) (bare r ∷ filter p (map bare rs)) (filter p (map bare rs)) (same r ∙ e))

any_from : (p : Rule → Bool) (r : Rule) (rs : List Rule) → Among r rs → p r ≡ true → list_any p rs ≡ true
any_from p r [] m e = absurd m
any_from p r (s ∷ rs) (inl q) e = or_left (p s) (list_any p rs) (sym (ap p q) ∙ e)
any_from p r (s ∷ rs) (inr m) e = or_right (p s) (list_any p rs) (any_from p r rs m e)

-- the rules before, those after, and what went of them as it is told
module _ (old new gone : List Rule) (is : IsPermutation (apart_from new old) gone) where
  come : List Rule
  come = apart_from old new

  went_are : apart_from new old ≡ edits.without (λ (r : Rule). is_live r.number new) (map bare old)
  went_are = bare_filter (λ (r : Rule). not (is_live r.number new)) (λ r. refl) old

  told_old : (r : Rule) → Among r gone → Among r (map bare old)
  told_old r m =
      let there = Contains-permutation gone (apart_from new old) r (IsPermutation-sym (apart_from new old) gone is) (Contains_from-Among gone r m) in
      let went : Among r (edits.without (λ (s : Rule). is_live s.number new) (map bare old)) = subst (Among r) went_are (Among_from-Contains (apart_from new old) r there) in
      (Among-filter (λ (s : Rule). not (is_live s.number new)) r (map bare old) went).0

  told_once : AreDistinct (map bare old) → AreDistinct gone
  told_once distinct n =
      let same = sum_by-IsPermutation (λ (r : Rule). if r.number == n then 1 else 0) (apart_from new old) gone is in
      let once : count_by (λ (r : Rule). r.number == n) (apart_from new old) ≤ 1 =
      subst AreDistinct (sym went_are) (distinct_filter (λ (r : Rule). not (is_live r.number new)) (map bare old) distinct) n in
      omega (arith, same, once)

  pub can_go : AreRising (map bare old ++ apart_from old new) → CanGo (map bare old ++ apart_from old new) gone
  can_go rising = record {
    distinct = rising_distinct (map bare old ++ apart_from old new) (rises (map bare old ++ apart_from old new) rising);
    once = told_once (rising_distinct (map bare old) (rising_front (map bare old) (apart_from old new) (rises (map bare old ++ apart_from old new) rising)));
    among = λ r m. Among-append_left r (map bare old) (apart_from old new) (told_old r m);
  }

  -- those that come have other numbers than those that went
  stays : (r : Rule) → Among r (apart_from old new) → is_live r.number gone ≡ false
  stays r m =
      let s = among_map bare r (edits.without (λ (x : Rule). is_live x.number old) new) m in
      let fresh = (Among-filter (λ (x : Rule). not (is_live x.number old)) s.0 new s.1).1 in
      untrue (is_live r.number gone) (λ (e : is_live r.number gone ≡ true).
      let g = any_among (λ (x : Rule). x.number == r.number) gone e in
      let t = among_map bare g.0 old (told_old g.0 g.1) in
      let number : t.0.number ≡ s.0.number =
      sym (ap (λ (x : Rule). x.number) t.2) ∙ eqb-true g.0.number r.number g.2 ∙ ap (λ (x : Rule). x.number) s.2 in
      let there : is_live s.0.number old ≡ true = any_from (λ (x : Rule). x.number == s.0.number) t.0 old t.1 (eq-eqb t.0.number s.0.number number) in
      false≢true (sym (ap not there) ∙ fresh))

  all_stay : (rs : List Rule) → ((r : Rule) → Among r rs → is_live r.number gone ≡ false) → but gone rs ≡ rs
  all_stay [] stay = refl
  all_stay (r ∷ rs) stay =
      cond-true (not (is_live r.number gone)) (r ∷ but gone rs) (but gone rs) (ap not (stay r (inl refl)))
      ∙ ap (λ (xs : List Rule). r ∷ xs) (all_stay rs (λ s m. stay s (inr m)))

  -- without what went, and with what came, they are those of the next version
  pub gone_are : but gone (map bare old ++ apart_from old new) ≡ edits.without (λ (r : Rule). is_live r.number (apart_from new old)) (map bare old) ++ apart_from old new
  gone_are =
      filter-append (λ (r : Rule). not (is_live r.number gone)) (map bare old) (apart_from old new)
      ∙ ap₂ (λ (xs ys : List Rule). xs ++ ys)
      (filter_alike (λ (r : Rule). not (is_live r.number gone)) (λ (r : Rule). not (is_live r.number (apart_from new old))) (map bare old)
      (λ r m. ap not (sym (list_any-IsPermutation (λ (s : Rule). s.number == r.number) (apart_from new old) gone is))))
      (all_stay (apart_from old new) stays)
