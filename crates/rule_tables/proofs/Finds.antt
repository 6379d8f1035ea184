-- The live rule that an edit names, as rules come and go.
use Rattle.std.proofs.Common.{◌≡◌, ℕ, ◌<◌, Bool, true, false, ◌&&◌, ◌==◌, List, [], ◌∷◌, ◌++◌, length, Option, Some, None, refl, sym, ap, ap₂, ◌∙◌, arith, inl, inr, eq-eqb}
use Rattle.std.specs.Prelude.{slice_get, is_some, if◌then◌else◌, count_by, map, not}
use Rattle.std.proofs.lemmas.Bool.{cases_Bool, false≢true, both_ways, eqb-true, and_parts, and_from}
use Rattle.std.proofs.lemmas.Option.{none-some, same_Some, slice_get_within}
use Rattle.spec_keys.specs.Keys.{same}
use Rattle.spec_tables.specs.declared.edit_word.EditWord.{EditWord}
use Rattle.spec_tables.specs.declared.edit_word.EditWord.TheVariants.{Add, Modify, ModifyStrict, Delete, DeleteStrict}
use Rattle.spec_tables.specs.Rules as tables
use Rattle.spec_tables.specs.Edits.{Edit, is_named_by, table_of}
use Rattle.ovs_fields.specs.Equality.{equal_from_same, same_from_equal}
use Rattle.rule_tables.specs.declared.rule.Rule.{Rule}
use Rattle.rule_tables.specs.declared.stored.StoredRule.{StoredRule}
use Rattle.rule_tables.specs.Views.{rule_view}
use Rattle.rule_tables.specs.Givings.{is_place}
use Rattle.rule_tables.specs.RulePlaces.{IsNamedPlace}
use Rattle.rule_tables.specs.Stored.{is_modify, picks, acts_on, names, with_end, ended_by, AreApart}
use Rattle.rule_tables.proofs.Counts.{count_none, count_one}
use Rattle.rule_tables.proofs.Endings.{none_from, ended_by_cases}
use Rattle.rule_tables.proofs.Ends.{length-with_end, with_end_cases}
use Rattle.rule_tables.proofs.FilterMaps.{from_map, is_mapped, push_cases}

-- a modify that is not loose is strict
pub strict_modify : (word : EditWord) → is_modify word ≡ true → (word ≡ Modify → ⊥) → word ≡ ModifyStrict
strict_modify Add is other = absurd (false≢true is)
strict_modify Modify is other = absurd (other refl)
strict_modify ModifyStrict is other = refl
strict_modify Delete is other = absurd (false≢true is)
strict_modify DeleteStrict is other = absurd (false≢true is)

-- ---- what an edit names a rule by

pub record IsNamed (e : Edit) (r : tables.Rule) : Type 0 where
  pub table : r.table ≡ table_of e
  pub priority : r.priority ≡ e.priority
  pub key : r.matching.key ≡ e.matching.key
  pub mask : r.matching.mask ≡ e.matching.mask

pub named_parts : (e : Edit) (r : tables.Rule) → is_named_by e r ≡ true → IsNamed e r
named_parts e r named =
    let outer = and_parts (r.table == table_of e) ((r.priority == e.priority) && tables.is_same_match r.matching e.matching) named in
    let inner = and_parts (r.priority == e.priority) (tables.is_same_match r.matching e.matching) outer.1 in
    let alike = and_parts (same r.matching.key e.matching.key) (same r.matching.mask e.matching.mask) inner.1 in
    record {
      table = eqb-true r.table (table_of e) outer.0;
      priority = eqb-true r.priority e.priority inner.0;
      key = equal_from_same r.matching.key e.matching.key alike.0;
      mask = equal_from_same r.matching.mask e.matching.mask alike.1;
    }

pub named_from_parts : (e : Edit) (r : tables.Rule) → IsNamed e r → is_named_by e r ≡ true
named_from_parts e r named =
    and_from (r.table == table_of e) ((r.priority == e.priority) && tables.is_same_match r.matching e.matching) (eq-eqb r.table (table_of e) named.table)
    (and_from (r.priority == e.priority) (tables.is_same_match r.matching e.matching) (eq-eqb r.priority e.priority named.priority)
    (and_from (same r.matching.key e.matching.key) (same r.matching.mask e.matching.mask)
    (same_from_equal r.matching.key e.matching.key named.key) (same_from_equal r.matching.mask e.matching.mask named.mask)))

-- what names two rules is named by the same
pub named_alike : (e f : Edit) (r s : tables.Rule) → is_named_by f r ≡ true → is_named_by f s ≡ true → is_named_by e s ≡ true → is_named_by e r ≡ true
named_alike e f r s one other mine =
    let a = named_parts f r one in
    let b = named_parts f s other in
    let c = named_parts e s mine in
    named_from_parts e r (record {
      table = a.table ∙ sym b.table ∙ c.table;
      priority = a.priority ∙ sym b.priority ∙ c.priority;
      key = a.key ∙ sym b.key ∙ c.key;
      mask = a.mask ∙ sym b.mask ∙ c.mask;
    })

-- ---- a live rule that is named

pub names_parts : (e : Edit) (s : StoredRule) → names e s ≡ true → (s.gone ≡ None) × (is_named_by e (rule_view s.rule []) ≡ true)
names_parts e s named =
    let parts = and_parts (not (is_some s.gone)) (is_named_by e (rule_view s.rule [])) named in
    (none_from s.gone parts.0, parts.1)

pub names_live : (e : Edit) (s : StoredRule) → s.gone ≡ None → is_named_by e (rule_view s.rule []) ≡ true → names e s ≡ true
names_live e s on named = ap (λ (o : Option ℕ). not (is_some o) && is_named_by e (rule_view s.rule [])) on ∙ named

-- rules each of which was there, and was named by each edit that names it still
apart_from : (xs zs : List StoredRule) → ((i : ℕ) (z : StoredRule) → slice_get zs i ≡ Some z → (x : StoredRule) × (slice_get xs i ≡ Some x) × ((e : Edit) → names e z ≡ true → names e x ≡ true))
    → AreApart xs → AreApart zs
apart_from xs zs was apart e i j s t at bt one other =
    let a = was i s at in
    let b = was j t bt in
    apart e i j a.0 b.0 a.1 b.1 (a.2 e one) (b.2 e other)

pub apart_alike : (xs zs : List StoredRule) → ((i : ℕ) (z : StoredRule) → slice_get zs i ≡ Some z → (x : StoredRule) × (slice_get xs i ≡ Some x) × (z.rule ≡ x.rule) × (z.gone ≡ x.gone))
    → AreApart xs → AreApart zs
apart_alike xs zs was =
    apart_from xs zs (λ i z at.
    let old = was i z at in
    (old.0, old.1, λ e named. sym (ap₂ (λ (o : Option ℕ) (r : Rule). not (is_some o) && is_named_by e (rule_view r [])) old.3 old.2) ∙ named))

pub apart_ended : (e : Edit) (gone : ℕ) (xs : List StoredRule) → AreApart xs → AreApart (map (ended_by e gone) xs)
apart_ended e gone xs =
    apart_from xs (map (ended_by e gone) xs) (λ i z at.
    let old = from_map (ended_by e gone) xs i z at in (
      old.0,
      old.1,
      λ f named.
          elim (ended_by_cases e gone old.0) [
            | inl (_, _, becomes) ↦ absurd (none-some gone (sym (names_parts f z named).0 ∙ ap (λ (y : StoredRule). y.gone) (old.2 ∙ becomes)))
            | inr (_, stays) ↦ sym (ap (names f) (old.2 ∙ stays)) ∙ named
          ],
    ))

module _ (xs : List StoredRule) (apart : AreApart xs) (e : Edit) where
  -- where the rule that an edit names stands, and that it is live
  pub named_within : (old : Option ℕ) → IsNamedPlace xs e old → (i : ℕ) → old ≡ Some i → i < length xs
  named_within None none i is = absurd (none-some i is)
  named_within (Some place) (s, at, named) i is =
      let within : place < length xs = slice_get_within xs place s at in
      let here : place ≡ i = same_Some place i is in
      omega arith

  named_old : (old : Option ℕ) → IsNamedPlace xs e old → (i : ℕ) (x : StoredRule) → old ≡ Some i → slice_get xs i ≡ Some x → names e x ≡ true
  named_old None none i x is at = absurd (none-some i is)
  named_old (Some place) (s, there, named) i x is at =
      ap (names e) (same_Some x s (sym at ∙ sym (ap (slice_get xs) (same_Some place i is)) ∙ there)) ∙ named

  pub named_on : (old : Option ℕ) → IsNamedPlace xs e old → (i : ℕ) (x : StoredRule) → old ≡ Some i → slice_get xs i ≡ Some x → x.gone ≡ None
  named_on old named i x is at = (names_parts e x (named_old old named i x is at)).0

  -- no other is named
  pub named_there : (old : Option ℕ) → IsNamedPlace xs e old → (i : ℕ) (x : StoredRule) → slice_get xs i ≡ Some x → names e x ≡ true → old ≡ Some i
  named_there None none i x at named = absurd (both_ways (names e x) (none i x at) named)
  named_there (Some place) (s, there, its) i x at named = ap (λ (k : ℕ). Some k) (apart e place i s x there at its named)

  module _ (strict : (r : Rule) → picks e r ≡ is_named_by e (rule_view r [])) (old : Option ℕ) (named : IsNamedPlace xs e old) where
    acts_as_named : (x : StoredRule) → acts_on e x ≡ names e x
    acts_as_named x = ap (λ (b : Bool). not (is_some x.gone) && b) (strict x.rule)

    acts : (i : ℕ) (x : StoredRule) → slice_get xs i ≡ Some x → old ≡ Some i → acts_on e x ≡ true
    acts i x at is = acts_as_named x ∙ named_old old named i x is at

    idle : (i : ℕ) (x : StoredRule) → slice_get xs i ≡ Some x → (old ≡ Some i → ⊥) → acts_on e x ≡ false
    idle i x at other =
        elim (cases_Bool (names e x)) [
          | inl its ↦ absurd (other (named_there old named i x at its))
          | inr apart_from_it ↦ acts_as_named x ∙ apart_from_it
        ]

    -- the rule whose life ends is the one that the edit acts on
    pub ended_as_named : (gone : ℕ) → with_end old gone xs ≡ map (ended_by e gone) xs
    ended_as_named gone =
        is_mapped (ended_by e gone) xs (with_end old gone xs) (length-with_end old gone xs) (λ i x y at bt.
        let from = with_end_cases old gone i xs y bt in
        let same_one : from.0 ≡ x = same_Some from.0 x (sym from.1 ∙ at) in
        elim from.2 [
          | inl (here, made) ↦ made ∙ ap (λ (z : StoredRule). record z { gone = Some gone }) same_one ∙ sym (ends x (acts i x at here))
          | inr (other, made) ↦ made ∙ same_one ∙ sym (stays x (idle i x at other))
        ])
      where
        ends : (x : StoredRule) → acts_on e x ≡ true → ended_by e gone x ≡ record x { gone = Some gone }
        ends x its = ap (λ (b : Bool). if b then record x { gone = Some gone } else x) its

        stays : (x : StoredRule) → acts_on e x ≡ false → ended_by e gone x ≡ x
        stays x not_its = ap (λ (b : Bool). if b then record x { gone = Some gone } else x) not_its

    -- it acts on the one that stands there
    pub acts_where_found : (i : ℕ) (x : StoredRule) → slice_get xs i ≡ Some x → is_place old i ≡ acts_on e x
    acts_where_found i x at =
        elim (cases_Bool (is_place old i)) [
          | inl here ↦ here ∙ sym (acts i x at (from_place old i here))
          | inr other ↦ other ∙ sym (idle i x at (λ some. both_ways (is_place old i) other (to_place old i some)))
        ]
      where
        from_place : (o : Option ℕ) (k : ℕ) → is_place o k ≡ true → o ≡ Some k
        from_place None k is = absurd (false≢true is)
        from_place (Some place) k is = ap (λ (n : ℕ). Some n) (eqb-true place k is)

        to_place : (o : Option ℕ) (k : ℕ) → o ≡ Some k → is_place o k ≡ true
        to_place None k is = absurd (none-some k is)
        to_place (Some place) k is = eq-eqb place k (same_Some place k is)

    -- it acts on one rule, or on none
    pub count_named : count_by (acts_on e) xs ≡ (if is_some old then 1 else 0)
    count_named = by old refl
      where
        at_place : (o : Option ℕ) → IsNamedPlace xs e o → (place : ℕ) → o ≡ Some place → (s : StoredRule) × (slice_get xs place ≡ Some s)
        at_place None none place is = absurd (none-some place is)
        at_place (Some k) (s, at, _) place is = (s, sym (ap (slice_get xs) (same_Some k place is)) ∙ at)

        by : (o : Option ℕ) → old ≡ o → count_by (acts_on e) xs ≡ (if is_some o then 1 else 0)
        by None is = count_none (acts_on e) xs (λ i x at. idle i x at (λ some. none-some i (sym is ∙ some)))
        by (Some place) is =
            let there = at_place old named place is in
            count_one (acts_on e) xs place there.0 there.1 (acts place there.0 there.1 is)
            (λ i y at other. idle i y at (λ some. other (same_Some i place (sym some ∙ is))))

  -- one more rule, which the edit names, in place of the one that it named
  pub apart_added : (old : Option ℕ) → IsNamedPlace xs e old → (gone : ℕ) (s : StoredRule) → is_named_by e (rule_view s.rule []) ≡ true → AreApart (with_end old gone xs ++ s ∷ [])
  apart_added old named gone s its f i j a b at bt one other =
      elim (push_cases (with_end old gone xs) s a i at) [
        | inl earlier ↦
            elim (push_cases (with_end old gone xs) s b j bt) [
              | inl also ↦
                  let x = was f i a earlier one in
                  let y = was f j b also other in
                  apart f i j x.0 y.0 x.1 y.1 x.2 y.2
              | inr (_, latest) ↦ absurd (none_left f i a earlier one (ap (names f) (sym latest) ∙ other))
            ]
        | inr (last_one, latest) ↦
            elim (push_cases (with_end old gone xs) s b j bt) [
              | inl earlier ↦ absurd (none_left f j b earlier other (ap (names f) (sym latest) ∙ one))
              | inr (also, _) ↦ last_one ∙ sym also
            ]
      ]
    where
      -- a rule that is live still was live, and isn't the one that the edit named
      was : (f : Edit) (i : ℕ) (y : StoredRule) → slice_get (with_end old gone xs) i ≡ Some y → names f y ≡ true → (x : StoredRule) × (slice_get xs i ≡ Some x) × (names f x ≡ true) × (old ≡ Some i → ⊥)
      was f i y there live =
          let from = with_end_cases old gone i xs y there in
          elim from.2 [
            | inl (_, made) ↦ absurd (none-some gone (sym (names_parts f y live).0 ∙ ap (λ (z : StoredRule). z.gone) made))
            | inr (apart_from_it, made) ↦ (from.0, from.1, sym (ap (names f) made) ∙ live, apart_from_it)
          ]

      none_left : (f : Edit) (i : ℕ) (y : StoredRule) → slice_get (with_end old gone xs) i ≡ Some y → names f y ≡ true → names f s ≡ true → ⊥
      none_left f i y there live new =
          let x = was f i y there live in
          let now = names_parts f x.0 x.2 in
          x.3 (named_there old named i x.0 x.1
          (names_live e x.0 now.0 (named_alike e f (rule_view x.0.rule []) (rule_view s.rule []) now.1 (names_parts f s new).1 its)))
