-- Rules that went are taken out one by one.
use Rattle.std.proofs.Common.{◌≡◌, ℕ, suc, ◌+◌, ◌<◌, Bool, true, false, ◌==◌, ◌&&◌, ◌||◌, not, if◌then◌else◌, List, [], ◌∷◌, ◌++◌, take, drop, filter, Option, Some, inl, inr, refl, sym, ap, ap₂, ◌∙◌, subst, arith, eqb-true, eq-eqb}
use Rattle.std.specs.Prelude.{slice_get}
use Rattle.std.specs.List.{count_by}
use Rattle.std.proofs.lemmas.List.Sums.{sum_by-append}
use Rattle.spec_tables.specs.Rules.{Rule}
use Rattle.spec_tables.specs.Live.{is_live}
use Rattle.table_laws.proofs.MemberLaws.{Among, Among_in-filter, Among-append_right}
use Rattle.rule_tables.specs.Bare.{told}
use Rattle.staged_lookup.specs.Numbered.{AreDistinct, without}
use Rattle.staged_lookup.proofs.Members.{any_among, counted_from}
use Rattle.tuple_classifier.specs.Changing.{but, CanGo}
use Rattle.tuple_classifier.proofs.Lengths.{not_equal}
use Rattle.tuple_classifier.proofs.TableLaws.{untrue, distinct_filter}
use Rattle.tuple_classifier.proofs.Told.{told_more, told_around}

pub filter_twice : {X : Type 0} (p q : X → Bool) (xs : List X) → filter p (filter q xs) ≡ filter (λ x. q x && p x) xs
filter_twice p q [] = refl
filter_twice {X} p q (x ∷ xs) = at (q x) (filter_twice p q xs)
  where
    at : (t : Bool) → filter p (filter q xs) ≡ filter (λ y. q y && p y) xs
        → filter p (if t then x ∷ filter q xs else filter q xs) ≡ (if t && p x then x ∷ filter (λ y. q y && p y) xs else filter (λ y. q y && p y) xs)
    at true ih = ap (λ (ys : List X). if p x then x ∷ ys else ys) ih
    at false ih = ih

pub filter_alike : {X : Type 0} (p q : X → Bool) (xs : List X) → ((x : X) → Among x xs → p x ≡ q x) → filter p xs ≡ filter q xs
filter_alike p q [] alike = refl
filter_alike {X} p q (x ∷ xs) alike =
    ap₂ (λ (t : Bool) (ys : List X). if t then x ∷ ys else ys) (alike x (inl refl)) (filter_alike p q xs (λ y m. alike y (inr m)))

turned : (a b : ℕ) → (a == b) ≡ (b == a)
turned a b = at (a == b) refl
  where
    at : (t : Bool) → (a == b) ≡ t → (a == b) ≡ (b == a)
    at true e = e ∙ sym (eq-eqb b a (sym (eqb-true a b e)))
    at false e = e ∙ sym (not_equal b a (λ (q : b ≡ a). absurd (clash (sym (eq-eqb a b (sym q)) ∙ e))))
      where
        clash : true ≡ false → ⊥
        clash h = absurd (cc)

-- one more that went
live_more : (number : ℕ) (gone : List Rule) (r : Rule) → is_live number (gone ++ r ∷ []) ≡ (is_live number gone || (number == r.number))
live_more number [] r = or_false (r.number == number) ∙ turned r.number number
  where
    or_false : (t : Bool) → (t || false) ≡ t
    or_false true = refl
    or_false false = refl
live_more number (g ∷ gone) r = ap (λ (t : Bool). (g.number == number) || t) (live_more number gone r) ∙ grouped (g.number == number) (is_live number gone) (number == r.number)
  where
    grouped : (a b c : Bool) → (a || (b || c)) ≡ ((a || b) || c)
    grouped true b c = refl
    grouped false b c = refl

not_either : (a b : Bool) → (not a && not b) ≡ not (a || b)
not_either true b = refl
not_either false b = refl

but_more : (gone : List Rule) (r : Rule) (rules : List Rule) → without r.number (but gone rules) ≡ but (gone ++ r ∷ []) rules
but_more gone r rules =
    filter_twice (λ (x : Rule). not (x.number == r.number)) (λ (x : Rule). not (is_live x.number gone)) rules
    ∙ filter_alike (λ (x : Rule). not (is_live x.number gone) && not (x.number == r.number)) (λ (x : Rule). not (is_live x.number (gone ++ r ∷ []))) rules
    (λ x m. not_either (is_live x.number gone) (x.number == r.number) ∙ ap not (sym (live_more x.number gone r)))

-- those before it have other numbers
first_of_number : (xs ys : List Rule) (r : Rule) → AreDistinct (xs ++ r ∷ ys) → is_live r.number xs ≡ false
first_of_number xs ys r distinct =
    untrue (is_live r.number xs) (λ (e : is_live r.number xs ≡ true).
    let p : Rule → Bool = λ s. s.number == r.number in
    let m = any_among p xs e in
    let here : 0 < count_by p xs = counted_from p m.0 xs m.1 m.2 in
    let again : 0 < count_by p (r ∷ ys) = counted_from p r (r ∷ ys) (inl refl) (eq-eqb r.number r.number refl) in
    let both = sum_by-append (λ (s : Rule). if p s then 1 else 0) xs (r ∷ ys) in
    let once = distinct r.number in
    omega (arith, here, again, both, once))

-- the rule of a place goes from these without the first that went
module _ (rules : List Rule) (os : List (Option Rule)) (n : ℕ) (r : Rule) (can : CanGo rules (told os)) (at : slice_get os n ≡ Some (Some r)) where
  around : told os ≡ told (take n os) ++ r ∷ told (drop (suc n) os)
  around = told_around os n r at

  pub go_among : Among r (but (told (take n os)) rules)
  go_among =
      Among_in-filter (λ (x : Rule). not (is_live x.number (told (take n os)))) r rules
      (can.among r (subst (Among r) (sym around) (Among-append_right r (told (take n os)) (r ∷ told (drop (suc n) os)) (inl refl))))
      (ap not (first_of_number (told (take n os)) (told (drop (suc n) os)) r (subst AreDistinct around can.once)))

  pub go_distinct : AreDistinct (but (told (take n os)) rules)
  go_distinct = distinct_filter (λ (x : Rule). not (is_live x.number (told (take n os)))) rules can.distinct

  pub go_more : without r.number (but (told (take n os)) rules) ≡ but (told (take (n + 1) os)) rules
  go_more = but_more (told (take n os)) r rules ∙ ap (λ (gone : List Rule). but gone rules) (sym (told_more os n r at))
