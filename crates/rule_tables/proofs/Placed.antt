-- The index of the live rules, as they come and go.
use Rattle.std.proofs.Common.{◌≡◌, ℕ, zero, suc, ◌<◌, Bool, true, cond, ◌==◌, List, [], ◌∷◌, ◌++◌, length, Option, Some, None, refl, sym, ap, ap₂, ◌∙◌, subst, arith, ◌⊎◌, inl, inr}
use Rattle.std.specs.Prelude.{slice_get, filter, not, nat_eq}
use Rattle.std.proofs.lemmas.Bool.{cases_Bool, false≢true, eqb-true, eq-eqb, cond-true, cond-false}
use Rattle.std.proofs.lemmas.Option.{none-some, same_Some, slice_get_within, slice_get_cases}
use Rattle.spec_tables.specs.Rules as tables
use Rattle.spec_tables.specs.Edits.{Edit, is_named_by, table_of}
use Rattle.rule_tables.specs.declared.givings.GivingLog.{GivingLog}
use Rattle.rule_tables.specs.declared.places.RulePlaces.{RulePlaces}
use Rattle.rule_tables.specs.declared.rule.Rule.{Rule}
use Rattle.rule_tables.specs.declared.stored.StoredRule.{StoredRule}
use Rattle.rule_tables.specs.Givings.{Becomes, IsLogged}
use Rattle.rule_tables.specs.RulePlaces.{rule_hash, edit_hash, identity_hash, IsLiveAt, IsIndex, ArePlaced}
use Rattle.rule_tables.specs.Stored.{acts_on, ended}
use Rattle.rule_tables.specs.Views.{match_view, rule_view}
use Rattle.rule_tables.proofs.Ends.{ended_cases}
use Rattle.rule_tables.proofs.FilterMaps.{push_cases, slice_get-append, slice_get-push}
use Rattle.rule_tables.proofs.Finds.{named_parts}

-- ---- what edits name rules by

-- a rule that an edit names has the edit's hash
pub named_hash : (e : Edit) (r : Rule) → is_named_by e (rule_view r []) ≡ true → rule_hash r ≡ edit_hash e
named_hash e r named =
    let parts = named_parts e (rule_view r []) named in
    let matching : match_view r.matching ≡ e.matching =
    ap₂ (λ (key mask : List ℕ). let m : tables.Match = record { key = key; mask = mask } in m) parts.key parts.mask in
    ap₂ (λ (table priority : ℕ). identity_hash table priority (match_view r.matching)) parts.table parts.priority
    ∙ ap (identity_hash (table_of e) e.priority) matching

-- ---- lists of places

-- what stays in a filtered list, and what doesn't
filter_keeps : {X : Type 0} (p : X → Bool) (xs : List X) (k : ℕ) (x : X) → slice_get xs k ≡ Some x → p x ≡ true → (j : ℕ) × (slice_get (filter p xs) j ≡ Some x)
filter_keeps p [] k x at passes = absurd (none-some x at)
filter_keeps p (y ∷ ys) zero x at passes =
    (0, ap (λ zs. slice_get zs 0) (cond-true (p y) (y ∷ filter p ys) (filter p ys) (ap p (same_Some y x at) ∙ passes)) ∙ at)
filter_keeps p (y ∷ ys) (suc k) x at passes =
    let rest = filter_keeps p ys k x at passes in
    elim (cases_Bool (p y)) [
      | inl stays ↦ (suc rest.0, ap (λ zs. slice_get zs (suc rest.0)) (cond-true (p y) (y ∷ filter p ys) (filter p ys) stays) ∙ rest.1)
      | inr goes ↦ (rest.0, ap (λ zs. slice_get zs rest.0) (cond-false (p y) (y ∷ filter p ys) (filter p ys) goes) ∙ rest.1)
    ]

cons_cases : {X : Type 0} (y : X) (ys : List X) (j : ℕ) (x : X) → slice_get (y ∷ ys) j ≡ Some x → (y ≡ x) ⊎ ((i : ℕ) × (slice_get ys i ≡ Some x))
cons_cases y ys zero x at = inl (same_Some y x at)
cons_cases y ys (suc i) x at = inr (i, at)

filter_from : {X : Type 0} (p : X → Bool) (xs : List X) (j : ℕ) (x : X) → slice_get (filter p xs) j ≡ Some x → (k : ℕ) × (slice_get xs k ≡ Some x) × (p x ≡ true)
filter_from p [] j x at = absurd (none-some x at)
filter_from {X} p (y ∷ ys) j x at =
    elim (cases_Bool (p y)) [
      | inl stays ↦
          elim (cons_cases y (filter p ys) j x (sym (ap (λ zs. slice_get zs j) (cond-true (p y) (y ∷ filter p ys) (filter p ys) stays)) ∙ at)) [
            | inl here ↦ (0, ap (λ (z : X). Some z) here, ap p (sym here) ∙ stays)
            | inr (i, there) ↦ let rest = filter_from p ys i x there in (suc rest.0, rest.1, rest.2)
          ]
      | inr goes ↦
          let rest = filter_from p ys j x (sym (ap (λ zs. slice_get zs j) (cond-false (p y) (y ∷ filter p ys) (filter p ys) goes)) ∙ at) in
          (suc rest.0, rest.1, rest.2)
    ]

-- ---- the index

-- the same places and rules
pub index_moved : (by_hash by_hash' : ℕ → Option ℕ) (others others' : List ℕ) (xs zs : List StoredRule) → ((hash : ℕ) → by_hash' hash ≡ by_hash hash) → others' ≡ others → zs ≡ xs
    → IsIndex by_hash others xs → IsIndex by_hash' others' zs
index_moved by_hash by_hash' others others' xs zs alike same_others same_rules is =
    subst (λ (stored : List StoredRule). IsIndex by_hash' others' stored) (sym same_rules)
    (subst (λ (rest : List ℕ). IsIndex by_hash' rest xs) (sym same_others) (record {
      live = λ i s at on.
          elim (is.live i s at on) [
            | inl here ↦ inl (alike (rule_hash s.rule) ∙ here)
            | inr there ↦ inr there
          ];
      first = λ hash i leads. is.first hash i (sym (alike hash) ∙ leads);
      other = is.other;
    }))

pub placed_moved : (places new : RulePlaces) (xs zs : List StoredRule) → new ≡ places → zs ≡ xs → ArePlaced places xs → ArePlaced new zs
placed_moved places new xs zs same_places same_rules placed =
    subst (λ (p : RulePlaces). ArePlaced p zs) (sym same_places) (subst (λ (stored : List StoredRule). ArePlaced places stored) (sym same_rules) placed)

-- rules of which only differs what they were given
index_alike : (by_hash : ℕ → Option ℕ) (others : List ℕ) (xs zs : List StoredRule) → length zs ≡ length xs
    → ((i : ℕ) (s t : StoredRule) → slice_get xs i ≡ Some s → slice_get zs i ≡ Some t → (t.rule ≡ s.rule) × (t.gone ≡ s.gone))
    → IsIndex by_hash others xs → IsIndex by_hash others zs
index_alike by_hash others xs zs count each is = record {
  live = λ i t at on.
      let old = was i t at in
      let alike = each i old.0 t old.1 at in
      subst (λ (r : Rule). (by_hash (rule_hash r) ≡ Some i) ⊎ ((k : ℕ) × (slice_get others k ≡ Some i))) (sym alike.0) (is.live i old.0 old.1 (sym alike.1 ∙ on));
  first = λ hash i leads.
      let old = is.first hash i leads in
      let now = becomes i old.0 in
      (now.0, ap rule_hash now.1 ∙ old.1);
  other = λ k i at. (becomes i (is.other k i at)).0;
}
  where
    was : (i : ℕ) (t : StoredRule) → slice_get zs i ≡ Some t → (s : StoredRule) × (slice_get xs i ≡ Some s)
    was i t at =
        elim (slice_get_cases xs i).1 [
          | inl (s, _, there, _) ↦ (s, there)
          | inr (past, _) ↦ let within : i < length zs = slice_get_within zs i t at in absurd (omega arith)
        ]

    becomes : (i : ℕ) (old : IsLiveAt xs i) → (now : IsLiveAt zs i) × (now.rule.rule ≡ old.rule.rule)
    becomes i old =
        elim (slice_get_cases zs i).1 [
          | inl (t, _, there, _) ↦
              let alike = each i old.rule t old.at there in
              (record { rule = t; at = there; on = alike.1 ∙ old.on }, alike.0)
          | inr (past, _) ↦ let within : i < length xs = slice_get_within xs i old.rule old.at in absurd (omega arith)
        ]

-- a modification is given to rules
pub index_logged : (e : Edit) (n : ℕ) (log new : GivingLog) (xs zs : List StoredRule) (by_hash : ℕ → Option ℕ) (others : List ℕ) → IsLogged e n log new xs zs → IsIndex by_hash others xs → IsIndex by_hash others zs
index_logged e n log new xs zs by_hash others (inl (a, b, d, given)) is =
    index_alike by_hash others xs zs given.count (λ i s t at now. by (acts_on e s) s t (given.each i s t at now)) is
  where
    by : (p : Bool) (s t : StoredRule) → Becomes p n (length log.givings.items) new.givings.items s t → (t.rule ≡ s.rule) × (t.gone ≡ s.gone)
    by p s t (inl (idle, same)) = (ap (λ (y : StoredRule). y.rule) same, ap (λ (y : StoredRule). y.gone) same)
    by p s t (inr (acts, made)) = (ap (λ (y : StoredRule). y.rule) made.becomes, ap (λ (y : StoredRule). y.gone) made.becomes)
index_logged e n log new xs zs by_hash others (inr (a, b, d, same)) is = subst (λ (stored : List StoredRule). IsIndex by_hash others stored) (sym same) is

-- ---- a rule comes

-- the places of one hash, with the one that stood first
abbrev pub with_other : Option ℕ → List ℕ → List ℕ
with_other None others = others
with_other (Some other) others = others ++ other ∷ []

kept_other : (old : Option ℕ) (others : List ℕ) (k i : ℕ) → slice_get others k ≡ Some i → slice_get (with_other old others) k ≡ Some i
kept_other None others k i at = at
kept_other (Some other) others k i at = slice_get-append others (other ∷ []) k (slice_get_within others k i at) ∙ at

new_other : (old : Option ℕ) (others : List ℕ) (i : ℕ) → old ≡ Some i → (k : ℕ) × (slice_get (with_other old others) k ≡ Some i)
new_other None others i is = absurd (none-some i is)
new_other (Some other) others i is = (length others, slice_get-push others other ∙ is)

other_cases : (old : Option ℕ) (others : List ℕ) (k i : ℕ) → slice_get (with_other old others) k ≡ Some i → (slice_get others k ≡ Some i) ⊎ (old ≡ Some i)
other_cases None others k i at = inl at
other_cases (Some other) others k i at =
    elim (push_cases others other i k at) [
      | inl earlier ↦ inl earlier
      | inr (_, is) ↦ inr (ap (λ (o : ℕ). Some o) (sym is))
    ]

pub index_push : (by_hash by_hash' : ℕ → Option ℕ) (others others' : List ℕ) (xs : List StoredRule) (s : StoredRule) (hash place : ℕ) (old : Option ℕ) → IsIndex by_hash others xs
    → place ≡ length xs → rule_hash s.rule ≡ hash → s.gone ≡ None → old ≡ by_hash hash
    → ((q : ℕ) → by_hash' q ≡ cond (nat_eq hash q) (Some place) (by_hash q)) → others' ≡ with_other old others → IsIndex by_hash' others' (xs ++ s ∷ [])
index_push by_hash by_hash' others others' xs s hash place old is next its_hash on old_is put becomes =
    subst (λ (rest : List ℕ). IsIndex by_hash' rest (xs ++ s ∷ [])) (sym becomes) (record {
      live = λ i x at lives.
          elim (push_cases xs s x i at) [
            | inl earlier ↦
                elim (is.live i x earlier lives) [
                  | inl leads ↦
                      elim (cases_Bool (nat_eq hash (rule_hash x.rule))) [
                        | inl same_hash ↦ inr (new_other old others i (old_is ∙ ap by_hash (eqb-true hash (rule_hash x.rule) same_hash) ∙ leads))
                        | inr apart ↦ inl (put (rule_hash x.rule) ∙ cond-false (nat_eq hash (rule_hash x.rule)) (Some place) (by_hash (rule_hash x.rule)) apart ∙ leads)
                      ]
                  | inr (k, there) ↦ inr (k, kept_other old others k i there)
                ]
            | inr (latest, made) ↦
                let mine : hash ≡ rule_hash x.rule = sym its_hash ∙ ap (λ (y : StoredRule). rule_hash y.rule) (sym made) in
                inl (put (rule_hash x.rule) ∙ cond-true (nat_eq hash (rule_hash x.rule)) (Some place) (by_hash (rule_hash x.rule)) (eq-eqb hash (rule_hash x.rule) mine)
                ∙ ap (λ (n : ℕ). Some n) (next ∙ sym latest))
          ];
      first = λ q i leads.
          elim (cases_Bool (nat_eq hash q)) [
            | inl same_hash ↦
                let here : i ≡ length xs = sym (same_Some place i (sym (cond-true (nat_eq hash q) (Some place) (by_hash q) same_hash) ∙ sym (put q) ∙ leads)) ∙ next in
                (record { rule = s; at = ap (slice_get (xs ++ s ∷ [])) here ∙ slice_get-push xs s; on = on }, its_hash ∙ eqb-true hash q same_hash)
            | inr apart ↦
                let old_one = is.first q i (sym (cond-false (nat_eq hash q) (Some place) (by_hash q) apart) ∙ sym (put q) ∙ leads) in
                (earlier i old_one.0, old_one.1)
          ];
      other = λ k i at.
          elim (other_cases old others k i at) [
            | inl there ↦ earlier i (is.other k i there)
            | inr was ↦ earlier i (is.first hash i (sym old_is ∙ was)).0
          ];
    })
  where
    earlier : (i : ℕ) → IsLiveAt xs i → IsLiveAt (xs ++ s ∷ []) i
    earlier i it = record { rule = it.rule; at = slice_get-append xs (s ∷ []) i (slice_get_within xs i it.rule it.at) ∙ it.at; on = it.on }

-- ---- a rule goes

-- what stands elsewhere stays
ended_apart : (place gone i : ℕ) (xs : List StoredRule) → (i ≡ place → ⊥) → slice_get (ended place gone xs) i ≡ slice_get xs i
ended_apart place gone i [] apart = refl
ended_apart zero gone zero (x ∷ xs) apart = absurd (apart refl)
ended_apart zero gone (suc i) (x ∷ xs) apart = refl
ended_apart (suc place) gone zero (x ∷ xs) apart = refl
ended_apart (suc place) gone (suc i) (x ∷ xs) apart = ended_apart place gone i xs (λ same. apart (ap suc same))

-- that the place which a hash leads to is given up, if it leads to this one
abbrev pub IsGivenUp : (ℕ → Option ℕ) → (ℕ → Option ℕ) → ℕ → ℕ → Type 0
IsGivenUp by_hash by_hash' hash place =
    ((by_hash hash ≡ Some place) × ((q : ℕ) → by_hash' q ≡ cond (nat_eq hash q) None (by_hash q)))
    ⊎ ((by_hash hash ≡ Some place → ⊥) × ((q : ℕ) → by_hash' q ≡ by_hash q))

leads_still : (by_hash by_hash' : ℕ → Option ℕ) (hash place : ℕ) → IsGivenUp by_hash by_hash' hash place → (q i : ℕ) → (i ≡ place → ⊥) → by_hash q ≡ Some i → by_hash' q ≡ Some i
leads_still by_hash by_hash' hash place (inl (here, removed)) q i apart leads =
    elim (cases_Bool (nat_eq hash q)) [
      | inl same_hash ↦ absurd (apart (same_Some i place (sym leads ∙ sym (ap by_hash (eqb-true hash q same_hash)) ∙ here)))
      | inr other ↦ removed q ∙ cond-false (nat_eq hash q) None (by_hash q) other ∙ leads
    ]
leads_still by_hash by_hash' hash place (inr (_, stays)) q i apart leads = stays q ∙ leads

led_before : (by_hash by_hash' : ℕ → Option ℕ) (hash place : ℕ) → IsGivenUp by_hash by_hash' hash place → (q i : ℕ) → by_hash' q ≡ Some i → (by_hash q ≡ Some i) × ((hash ≡ q) → i ≡ place → ⊥)
led_before by_hash by_hash' hash place (inl (here, removed)) q i leads =
    elim (cases_Bool (nat_eq hash q)) [
      | inl same_hash ↦ absurd (none-some i (sym (cond-true (nat_eq hash q) None (by_hash q) same_hash) ∙ sym (removed q) ∙ leads))
      | inr other ↦
          (sym (cond-false (nat_eq hash q) None (by_hash q) other) ∙ sym (removed q) ∙ leads, λ same_hash _. false≢true (sym other ∙ eq-eqb hash q same_hash))
    ]
led_before by_hash by_hash' hash place (inr (not_here, stays)) q i leads =
    (sym (stays q) ∙ leads, λ same_hash here. not_here (ap by_hash same_hash ∙ sym (stays q) ∙ leads ∙ ap (λ (n : ℕ). Some n) here))

pub index_ended : (by_hash by_hash' : ℕ → Option ℕ) (others others' : List ℕ) (xs : List StoredRule) (s : StoredRule) (hash place gone : ℕ) → IsIndex by_hash others xs
    → slice_get xs place ≡ Some s → rule_hash s.rule ≡ hash → IsGivenUp by_hash by_hash' hash place → others' ≡ filter (λ other. not (other == place)) others
    → IsIndex by_hash' others' (ended place gone xs)
index_ended by_hash by_hash' others others' xs s hash place gone is at its_hash given_up becomes =
    subst (λ (rest : List ℕ). IsIndex by_hash' rest (ended place gone xs)) (sym becomes) (record {
      live = λ i x there lives.
          let old = ended_cases place gone i xs x there in
          elim old.2 [
            | inl (_, made) ↦ absurd (none-some gone (sym lives ∙ ap (λ (y : StoredRule). y.gone) made))
            | inr (apart, stays) ↦
                subst (λ (y : StoredRule). (by_hash' (rule_hash y.rule) ≡ Some i) ⊎ ((k : ℕ) × (slice_get (filter (λ other. not (other == place)) others) k ≡ Some i))) (sym stays)
                (elim (is.live i old.0 old.1 (sym (ap (λ (y : StoredRule). y.gone) stays) ∙ lives)) [
                  | inl leads ↦ inl (leads_still by_hash by_hash' hash place given_up (rule_hash old.0.rule) i apart leads)
                  | inr (k, among) ↦ inr (filter_keeps (λ other. not (other == place)) others k i among (stays_in i apart))
                ])
          ];
      first = λ q i leads.
          let before = led_before by_hash by_hash' hash place given_up q i leads in
          let old = is.first q i before.0 in
          (elsewhere i (λ here. before.1 (sym its_hash ∙ ap (λ (y : StoredRule). rule_hash y.rule) (same_Some s old.0.rule (sym at ∙ sym (ap (slice_get xs) here) ∙ old.0.at)) ∙ old.1) here) old.0, old.1);
      other = λ k i among.
          let old = filter_from (λ other. not (other == place)) others k i among in
          elsewhere i (λ here. false≢true (sym (ap not (eq-eqb i place here)) ∙ old.2)) (is.other old.0 i old.1);
    })
  where
    elsewhere : (i : ℕ) → (i ≡ place → ⊥) → IsLiveAt xs i → IsLiveAt (ended place gone xs) i
    elsewhere i apart it = record { rule = it.rule; at = ended_apart place gone i xs apart ∙ it.at; on = it.on }

    stays_in : (i : ℕ) → (i ≡ place → ⊥) → not (i == place) ≡ true
    stays_in i apart =
        elim (cases_Bool (i == place)) [
          | inl here ↦ absurd (apart (eqb-true i place here))
          | inr other ↦ ap not other
        ]
