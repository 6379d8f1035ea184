-- Commit turns the base key into the current one.
use Rattle.std.proofs.Common.{◌≡◌, ◌≢◌, ℕ, ◌+◌, ◌%◌, ◌<◌, ◌≤◌, min, Bool, true, false, ◌&&◌, ◌||◌, ◌==◌, if◌then◌else◌, List, [], ◌∷◌, ◌++◌, map, length, set, bit_and, bit_xor, ◌⊎◌, inl, inr, refl, sym, ap, ap₂, ◌∙◌, subst, eqb-true, arith, length-set, get_or-set_same, get_or-set_other}
use Rattle.std.specs.Int.{bit_at}
use Rattle.std.specs.List.{list_any}
use Rattle.std.proofs.lemmas.Bool.{and_parts}
use Rattle.std.proofs.lemmas.Bool.Decides.{nat_tests}
use Rattle.std.proofs.lemmas.List.Folds.{list_any-append}
use Rattle.std.proofs.lemmas.Nat.Bits.{bit_at_and, bit_at_xor, bit_at-lt, same_from_bits}
use Rattle.spec_keys.specs.declared.field_id.FieldId.{FieldId}
use Rattle.spec_keys.specs.declared.field_id.FieldId.TheVariants.{VlanTci, VlanTpid, VlanTci2, VlanTpid2}
use Rattle.spec_keys.specs.Fields.{place_of, field_count}
use Rattle.spec_keys.specs.Keys.{number_at, value_of}
use Rattle.spec_actions.specs.declared.action.DpAction.{DpAction}
use Rattle.spec_actions.specs.declared.action.DpAction.TheVariants.{Set, PopVlan, PushVlan}
use Rattle.spec_xlate.specs.Tags.{VlanTag, tag_fields, is_tag, tags_of, outer_tag, inner_tag, no_tag, with_tags, popped, is_same_tag, outer_tags, commit_tags}
use Rattle.spec_xlate.specs.Commit.{fields_before_tags, fields_after_tags, commit, commit_field, commit_fields}
use Rattle.spec_base.specs.Bits.{merged}
use Rattle.table_laws.specs.Applied.{after_action, applied, frame_fields, is_proper}
use Rattle.table_laws.proofs.KeysAlike.{bit_at-merged, eqb-false}

pub applied-append : (xs ys : List DpAction) (key : List ℕ) → applied (xs ++ ys) key ≡ applied ys (applied xs key)
applied-append [] ys key = refl
applied-append (x ∷ xs) ys key = applied-append xs ys (after_action key x)

-- the bits that differ, written into either number, give the second
merged-changed : (x b c : ℕ) → (x ≡ b) ⊎ (x ≡ c) → merged x (bit_and c (bit_xor b c)) (bit_xor b c) ≡ c
merged-changed x b c h = same_from_bits _ _ (λ i. bit_at-merged x (bit_and c (bit_xor b c)) (bit_xor b c) i ∙ parts i ∙ at (bit_at x i) (bit_at b i) (bit_at c i) (bit_at-lt b i) (bit_at-lt c i) (either i h))
  where
    either : (i : ℕ) → (x ≡ b) ⊎ (x ≡ c) → (bit_at x i ≡ bit_at b i) ⊎ (bit_at x i ≡ bit_at c i)
    either i (inl e) = inl (ap (λ (z : ℕ). bit_at z i) e)
    either i (inr e) = inr (ap (λ (z : ℕ). bit_at z i) e)

    parts : (i : ℕ) → (bit_at x i + min ((bit_at x i + bit_at (bit_and c (bit_xor b c)) i) % 2) (bit_at (bit_xor b c) i)) % 2
        ≡ (bit_at x i + min ((bit_at x i + min (bit_at c i) ((bit_at b i + bit_at c i) % 2)) % 2) ((bit_at b i + bit_at c i) % 2)) % 2
    parts i = ap₂ (λ (u v : ℕ). (bit_at x i + min ((bit_at x i + u) % 2) v) % 2) (bit_at_and c (bit_xor b c) i ∙ ap (min (bit_at c i)) (bit_at_xor b c i)) (bit_at_xor b c i)

    at : (u v w : ℕ) → v < 2 → w < 2 → (u ≡ v) ⊎ (u ≡ w) → (u + min ((u + min w ((v + w) % 2)) % 2) ((v + w) % 2)) % 2 ≡ w
    at u v w lv lw (inl e) = omega arith
    at u v w lv lw (inr e) = omega arith

-- ---- fields

-- A step turns key k into l: these places have the numbers of the current key, and all others are as they were.
pub record Turns (places : ℕ → Bool) (current k l : List ℕ) : Type 0 where
  pub lengths : length l ≡ length k
  pub those : (q : ℕ) → places q ≡ true → number_at l q ≡ number_at current q
  pub others : (q : ℕ) → places q ≡ false → number_at l q ≡ number_at k q

-- each place has the number of the base key or that of the current one
abbrev pub Between : List ℕ → List ℕ → List ℕ → Type 0
Between base current k = (q : ℕ) → (number_at k q ≡ number_at base q) ⊎ (number_at k q ≡ number_at current q)

Turns-Between : (places : ℕ → Bool) (base current k l : List ℕ) → Between base current k → Turns places current k l → Between base current l
Turns-Between places base current k l b t q = at (places q) refl (b q)
  where
    at : (u : Bool) → places q ≡ u → (number_at k q ≡ number_at base q) ⊎ (number_at k q ≡ number_at current q)
        → (number_at l q ≡ number_at base q) ⊎ (number_at l q ≡ number_at current q)
    at true e h = inr (t.those q e)
    at false e (inl h) = inl (t.others q e ∙ h)
    at false e (inr h) = inr (t.others q e ∙ h)

Turns-join : (xs ys : ℕ → Bool) (current k l m : List ℕ) → Turns xs current k l → Turns ys current l m
    → Turns (λ q. xs q || ys q) current k m
Turns-join xs ys current k l m t u = record {
  lengths = u.lengths ∙ t.lengths;
  those = λ q. those (xs q) refl (ys q) refl;
  others = λ q. others (xs q) refl (ys q) refl;
}
  where
    those : {q : ℕ} (x : Bool) → xs q ≡ x → (y : Bool) → ys q ≡ y → (x || y) ≡ true → number_at m q ≡ number_at current q
    those {q} x e true f h = u.those q f
    those {q} true e false f h = u.others q f ∙ t.those q e
    those {q} false e false f h = absurd (cc)

    others : {q : ℕ} (x : Bool) → xs q ≡ x → (y : Bool) → ys q ≡ y → (x || y) ≡ false → number_at m q ≡ number_at k q
    others {q} true e y f h = absurd (cc)
    others {q} false e true f h = absurd (cc)
    others {q} false e false f h = u.others q f ∙ t.others q e

-- one place written
set-Turns : (f : ℕ) (x : ℕ) (current k : List ℕ) → f < length k → x ≡ number_at current f → Turns (λ q. q == f) current k (set k f x)
set-Turns f x current k l e = record {
  lengths = length-set k f x;
  those = λ q h. let i = eqb-true q f h in ap (number_at (set k f x)) i ∙ get_or-set_same k f x 0 l ∙ e ∙ ap (number_at current) (sym i);
  others = λ q h. get_or-set_other k f q x 0 (eqb-false q f h);
}

none-Turns : (current k : List ℕ) (f : ℕ) → number_at k f ≡ number_at current f → Turns (λ q. q == f) current k k
none-Turns current k f e = record { lengths = refl; those = λ q h. let i = eqb-true q f h in ap (number_at k) i ∙ e ∙ ap (number_at current) (sym i); others = λ q h. refl }

-- a field has its place in every key
pub place_of-lt : (f : FieldId) → place_of f < field_count
place_of-lt VlanTci = omega arith
place_of-lt f = omega arith

commit_field-Turns : (f : FieldId) (base current k : List ℕ) → length k ≡ field_count
    → (value_of k f ≡ value_of base f) ⊎ (value_of k f ≡ value_of current f)
    → Turns (λ q. q == place_of f) current k (applied (commit_field f (value_of base f) (value_of current f)) k)
unfolding commit_field
commit_field-Turns f base current k len b = at (value_of base f == value_of current f) refl b
  where
    at : (t : Bool) → (value_of base f == value_of current f) ≡ t → (value_of k f ≡ value_of base f) ⊎ (value_of k f ≡ value_of current f)
        → Turns (λ q. q == place_of f) current k (applied (if t then [] else Set f (bit_and (value_of current f) (bit_xor (value_of base f) (value_of current f))) (bit_xor (value_of base f) (value_of current f)) ∷ []) k)
    at true e (inl h) = none-Turns current k (place_of f) (h ∙ eqb-true _ _ e)
    at true e (inr h) = none-Turns current k (place_of f) h
    at false e h = set-Turns (place_of f) _ current k (let l = place_of-lt f in omega arith) (merged-changed (value_of k f) (value_of base f) (value_of current f) h)

commit_fields-Turns : (fs : List FieldId) (base current k : List ℕ) → length k ≡ field_count → Between base current k
    → Turns (λ q. list_any (λ f. q == place_of f) fs) current k (applied (commit_fields fs base current) k)
unfolding commit_fields
commit_fields-Turns [] base current k len b = record { lengths = refl; those = λ q h. absurd (no h); others = λ q h. refl }
  where
    no : false ≡ true → ⊥
    no h = cc
commit_fields-Turns (f ∷ fs) base current k len b =
    let one = commit_field-Turns f base current k len (b (place_of f)) in
    let mid = applied (commit_field f (value_of base f) (value_of current f)) k in
    let more = commit_fields-Turns fs base current mid (one.lengths ∙ len) (Turns-Between (λ q. q == place_of f) base current k mid b one) in
    subst (λ (z : List ℕ). Turns (λ q. (q == place_of f) || list_any (λ g. q == place_of g) fs) current k z)
    (sym (applied-append (commit_field f (value_of base f) (value_of current f)) (commit_fields fs base current) k))
    (Turns-join (λ q. q == place_of f) (λ q. list_any (λ g. q == place_of g) fs) current k mid _ one more)

-- ---- tags

abbrev tag_places : ℕ → Bool
tag_places q = list_any (λ f. q == place_of f) tag_fields

-- A key was turned into one with these tags, an outer and an inner one.
record HasTags (from k : List ℕ) (outer inner : VlanTag) : Type 0 where
  lengths : length k ≡ length from
  outer_is : outer_tag k ≡ outer
  inner_is : inner_tag k ≡ inner
  others : (q : ℕ) → tag_places q ≡ false → number_at k q ≡ number_at from q

no_place : (q : ℕ) (f : FieldId) → tag_places (place_of f) ≡ true → tag_places q ≡ false → q ≢ place_of f
no_place q f there away e = let h : true ≡ false = sym there ∙ ap tag_places (sym e) ∙ away in absurd (cc)

-- tags that are written
with_tags-HasTags : (from k : List ℕ) (o i o' i' : VlanTag) → length from ≡ field_count → HasTags from k o i → HasTags from (with_tags o' i' k) o' i'
with_tags-HasTags from k o i o' i' len h = record {
  lengths = length-set k3 (place_of VlanTpid2) i'.tpid ∙ l3;
  outer_is = ap₂ (λ (p c : ℕ). record { tpid = p; tci = c }) tpid tci;
  inner_is = ap₂ (λ (p c : ℕ). record { tpid = p; tci = c }) tpid2 tci2;
  others = λ q away. beside q k3 VlanTpid2 i'.tpid refl away ∙ (beside q k2 VlanTci2 i'.tci refl away ∙ (beside q k1 VlanTpid o'.tpid refl away
      ∙ (beside q k VlanTci o'.tci refl away ∙ h.others q away)));
}
  where
    beside : (q : ℕ) (l : List ℕ) (f : FieldId) (x : ℕ) → tag_places (place_of f) ≡ true → tag_places q ≡ false → number_at (set l (place_of f) x) q ≡ number_at l q
    beside q l f x there away = get_or-set_other l (place_of f) q x 0 (no_place q f there away)

    k1 : List ℕ
    k1 = set k (place_of VlanTci) o'.tci

    k2 : List ℕ
    k2 = set k1 (place_of VlanTpid) o'.tpid

    k3 : List ℕ
    k3 = set k2 (place_of VlanTci2) i'.tci

    l0 : length k ≡ field_count
    l0 = h.lengths ∙ len

    l1 : length k1 ≡ length from
    l1 = length-set k (place_of VlanTci) o'.tci ∙ h.lengths

    l2 : length k2 ≡ length from
    l2 = length-set k1 (place_of VlanTpid) o'.tpid ∙ l1

    l3 : length k3 ≡ length from
    l3 = length-set k2 (place_of VlanTci2) i'.tci ∙ l2

    apart : (l : List ℕ) (f g : FieldId) (x : ℕ) → (place_of g == place_of f) ≡ false → number_at (set l (place_of f) x) (place_of g) ≡ number_at l (place_of g)
    apart l f g x ne = get_or-set_other l (place_of f) (place_of g) x 0 (eqb-false _ _ ne)

    tpid2 : value_of (with_tags o' i' k) VlanTpid2 ≡ i'.tpid
    tpid2 = get_or-set_same k3 (place_of VlanTpid2) i'.tpid 0 (omega (arith, l3, len))

    tci2 : value_of (with_tags o' i' k) VlanTci2 ≡ i'.tci
    tci2 = apart k3 VlanTpid2 VlanTci2 i'.tpid refl ∙ get_or-set_same k2 (place_of VlanTci2) i'.tci 0 (omega (arith, l2, len))

    tpid : value_of (with_tags o' i' k) VlanTpid ≡ o'.tpid
    tpid = apart k3 VlanTpid2 VlanTpid i'.tpid refl ∙ (apart k2 VlanTci2 VlanTpid i'.tci refl ∙ get_or-set_same k1 (place_of VlanTpid) o'.tpid 0 (omega (arith, l1, len)))

    tci : value_of (with_tags o' i' k) VlanTci ≡ o'.tci
    tci = apart k3 VlanTpid2 VlanTci i'.tpid refl ∙ (apart k2 VlanTci2 VlanTci i'.tci refl ∙ (apart k1 VlanTpid VlanTci o'.tpid refl
        ∙ get_or-set_same k (place_of VlanTci) o'.tci 0 (omega (arith, l0))))

-- a tag that is popped, and one that is pushed
pop-HasTags : (from k : List ℕ) (o i : VlanTag) → length from ≡ field_count → HasTags from k o i → HasTags from (popped k) i no_tag
pop-HasTags from k o i len h = subst (λ (t : VlanTag). HasTags from (with_tags t no_tag k) i no_tag) (sym h.inner_is) (with_tags-HasTags from k o i i no_tag len h)

push-HasTags : (from k : List ℕ) (o i t : VlanTag) → length from ≡ field_count → HasTags from k o i → HasTags from (after_action k (PushVlan t.tpid t.tci)) t o
push-HasTags from k o i t len h = subst (λ (u : VlanTag). HasTags from (with_tags t u k) t o) (sym h.outer_is) (with_tags-HasTags from k o i t o len h)

-- the outer and the inner one of at most two tags, the innermost first
abbrev outer_of : List VlanTag → VlanTag
outer_of [] = no_tag
outer_of (t ∷ []) = t
outer_of (i ∷ o ∷ ts) = o

abbrev inner_of : List VlanTag → VlanTag
inner_of [] = no_tag
inner_of (t ∷ []) = no_tag
inner_of (i ∷ o ∷ ts) = i

-- the tags of a proper key are all that it has of tags
record AreTags (key : List ℕ) (ts : List VlanTag) : Type 0 where
  outer_is : outer_tag key ≡ outer_of ts
  inner_is : inner_tag key ≡ inner_of ts

same_tag : (t o : VlanTag) → is_same_tag t o ≡ true → t ≡ o
same_tag t o e =
    let parts = and_parts (t.tci == o.tci) (t.tpid == o.tpid) e in
    ap₂ (λ (p c : ℕ). record { tpid = p; tci = c }) (eqb-true t.tpid o.tpid parts.1) (eqb-true t.tci o.tci parts.0)

proper-AreTags : (key : List ℕ) → is_proper key ≡ true → AreTags key (tags_of key)
proper-AreTags key = at (is_tag (outer_tag key).tci) (is_tag (inner_tag key).tci)
  where
    at : (u v : Bool) → (if u then (v || is_same_tag (inner_tag key) no_tag) else (is_same_tag (outer_tag key) no_tag && is_same_tag (inner_tag key) no_tag)) ≡ true
        → AreTags key (if u then (if v then inner_tag key ∷ outer_tag key ∷ [] else outer_tag key ∷ []) else [])
    at true true h = record { outer_is = refl; inner_is = refl }
    at true false h = record { outer_is = refl; inner_is = same_tag (inner_tag key) no_tag h }
    at false v h =
        let parts = and_parts (is_same_tag (outer_tag key) no_tag) (is_same_tag (inner_tag key) no_tag) h in
        record { outer_is = same_tag (outer_tag key) no_tag parts.0; inner_is = same_tag (inner_tag key) no_tag parts.1 }

eqb-comm : (x y : ℕ) → (y == x) ≡ (x == y)
eqb-comm x y = at (x == y) refl
  where
    at : (t : Bool) → (x == y) ≡ t → (y == x) ≡ t
    at true e = ap₂ (λ (u v : ℕ). u == v) (sym (eqb-true x y e)) (eqb-true x y e) ∙ e
    at false e = grind (arith, nat_tests)

same_tag-comm : (t o : VlanTag) → is_same_tag o t ≡ is_same_tag t o
same_tag-comm t o = ap₂ (λ (u v : Bool). u && v) (eqb-comm t.tci o.tci) (eqb-comm t.tpid o.tpid)

-- the actions for the tags of one list that the other doesn't share
abbrev popping : List VlanTag → List DpAction
popping ts = map (λ t. PopVlan) ts

abbrev pushing : List VlanTag → List DpAction
pushing ts = map (λ t. PushVlan t.tpid t.tci) ts

module _ (k : List ℕ) (len : length k ≡ field_count) where
  -- what pops and pushes of these lists lead to
  Leads : List VlanTag → List VlanTag → List VlanTag → Type 0
  Leads gone new after = HasTags k (applied (popping gone ++ pushing new) k) (outer_of after) (inner_of after)

  pop : {l : List ℕ} (o i : VlanTag) → HasTags k l o i → HasTags k (popped l) i no_tag
  pop {l} o i h = pop-HasTags k l o i len h

  push : {l : List ℕ} (o i t : VlanTag) → HasTags k l o i → HasTags k (after_action l (PushVlan t.tpid t.tci)) t o
  push {l} o i t h = push-HasTags k l o i t len h

  -- the innermost tags are others
  anew : (before after : List VlanTag) → length before ≤ 2 → length after ≤ 2 → HasTags k k (outer_of before) (inner_of before) → Leads before after after
  unfolding Leads
  anew before after lb la h = pushed_all after la (popped_all before lb h)
    where
      popped_all : (ts : List VlanTag) → length ts ≤ 2 → HasTags k k (outer_of ts) (inner_of ts) → HasTags k (applied (popping ts) k) no_tag no_tag
      popped_all [] l h = h
      popped_all (t ∷ []) l h = pop t no_tag h
      popped_all (i ∷ o ∷ []) l h = pop i no_tag (pop o i h)
      popped_all (x ∷ y ∷ z ∷ ts) l h = absurd (omega arith)

      pushed_all : (ts : List VlanTag) → length ts ≤ 2 → HasTags k (applied (popping before) k) no_tag no_tag → Leads before ts ts
      pushed_all ts l h = subst (λ (z : List ℕ). HasTags k z (outer_of ts) (inner_of ts)) (sym (applied-append (popping before) (pushing ts) k)) (at ts l)
        where
          at : (ts : List VlanTag) → length ts ≤ 2 → HasTags k (applied (pushing ts) (applied (popping before) k)) (outer_of ts) (inner_of ts)
          at [] l = h
          at (t ∷ []) l = push no_tag no_tag t h
          at (i ∷ o ∷ []) l = push i no_tag o (push no_tag no_tag i h)
          at (x ∷ y ∷ z ∷ ts) l = absurd (omega arith)

  -- the innermost tags are the same
  kept : (t : VlanTag) (bs cs : List VlanTag) → length bs ≤ 1 → length cs ≤ 1 → HasTags k k (outer_of (t ∷ bs)) (inner_of (t ∷ bs))
      → Leads (outer_tags bs cs) (outer_tags cs bs) (t ∷ cs)
  unfolding Leads outer_tags
  kept t [] [] lb la h = h
  kept t [] (o ∷ []) lb la h = push t no_tag o h
  kept t (b ∷ []) [] lb la h = pop b t h
  kept t (b ∷ []) (o ∷ []) lb la h = at (is_same_tag b o) refl
    where
      at : (u : Bool) → is_same_tag b o ≡ u → Leads (if u then [] else b ∷ []) (if is_same_tag o b then [] else o ∷ []) (t ∷ o ∷ [])
      at true e = subst (λ (v : Bool). Leads [] (if v then [] else o ∷ []) (t ∷ o ∷ [])) (sym (same_tag-comm b o ∙ e)) (subst (λ (x : VlanTag). HasTags k k x t) (same_tag b o e) h)
      at false e = subst (λ (v : Bool). Leads (b ∷ []) (if v then [] else o ∷ []) (t ∷ o ∷ [])) (sym (same_tag-comm b o ∙ e)) (push t no_tag o (pop b t h))
  kept t (x ∷ y ∷ bs) cs lb la h = absurd (omega arith)
  kept t bs (x ∷ y ∷ cs) lb la h = absurd (omega arith)

  committed_tags : (before after : List VlanTag) → length before ≤ 2 → length after ≤ 2 → HasTags k k (outer_of before) (inner_of before)
      → Leads (outer_tags before after) (outer_tags after before) after
  unfolding outer_tags
  committed_tags [] [] lb la h = anew [] [] lb la h
  committed_tags [] (o ∷ os) lb la h = anew [] (o ∷ os) lb la h
  committed_tags (t ∷ ts) [] lb la h = anew (t ∷ ts) [] lb la h
  committed_tags (t ∷ ts) (o ∷ os) lb la h = at (is_same_tag t o) refl
    where
      at : (u : Bool) → is_same_tag t o ≡ u → Leads (if u then outer_tags ts os else t ∷ ts) (if is_same_tag o t then outer_tags os ts else o ∷ os) (o ∷ os)
      at true e =
          subst (λ (v : Bool). Leads (outer_tags ts os) (if v then outer_tags os ts else o ∷ os) (o ∷ os)) (sym (same_tag-comm t o ∙ e))
          (subst (λ (x : VlanTag). Leads (outer_tags ts os) (outer_tags os ts) (x ∷ os)) (same_tag t o e) (kept t ts os (omega arith) (omega arith) h))
      at false e = subst (λ (v : Bool). Leads (t ∷ ts) (if v then outer_tags os ts else o ∷ os) (o ∷ os)) (sym (same_tag-comm t o ∙ e)) (anew (t ∷ ts) (o ∷ os) lb la h)

few_tags : (key : List ℕ) → length (tags_of key) ≤ 2
few_tags key = at (is_tag (outer_tag key).tci) (is_tag (inner_tag key).tci)
  where
    at : (u v : Bool) → length (if u then (if v then inner_tag key ∷ outer_tag key ∷ [] else outer_tag key ∷ []) else []) ≤ 2
    at true true = omega arith
    at true false = omega arith
    at false v = omega arith

tag_tci : {t o : VlanTag} → t ≡ o → t.tci ≡ o.tci
tag_tci e = ap (λ (t : VlanTag). t.tci) e

tag_tpid : {t o : VlanTag} → t ≡ o → t.tpid ≡ o.tpid
tag_tpid e = ap (λ (t : VlanTag). t.tpid) e

-- the tags of a key that has those of the base key become those of the current one
tags-Turns : (base current k : List ℕ) → length k ≡ field_count → is_proper base ≡ true → is_proper current ≡ true
    → ((q : ℕ) → tag_places q ≡ true → number_at k q ≡ number_at base q)
    → Turns tag_places current k (applied (commit_tags (tags_of base) (tags_of current)) k)
unfolding commit_tags Leads
tags-Turns base current k len pb pc same = record { lengths = turned.lengths; those = those; others = turned.others }
  where
    has : AreTags base (tags_of base)
    has = proper-AreTags base pb

    aim : AreTags current (tags_of current)
    aim = proper-AreTags current pc

    begin : HasTags k k (outer_of (tags_of base)) (inner_of (tags_of base))
    begin = record {
      lengths = refl;
      outer_is = ap₂ (λ (p c : ℕ). record { tpid = p; tci = c }) (same (place_of VlanTpid) refl) (same (place_of VlanTci) refl) ∙ has.outer_is;
      inner_is = ap₂ (λ (p c : ℕ). record { tpid = p; tci = c }) (same (place_of VlanTpid2) refl) (same (place_of VlanTci2) refl) ∙ has.inner_is;
      others = λ q away. refl;
    }

    turned : HasTags k (applied (commit_tags (tags_of base) (tags_of current)) k) (outer_of (tags_of current)) (inner_of (tags_of current))
    turned = committed_tags k len (tags_of base) (tags_of current) (few_tags base) (few_tags current) begin

    outer : outer_tag (applied (commit_tags (tags_of base) (tags_of current)) k) ≡ outer_tag current
    outer = turned.outer_is ∙ sym aim.outer_is

    inner : inner_tag (applied (commit_tags (tags_of base) (tags_of current)) k) ≡ inner_tag current
    inner = turned.inner_is ∙ sym aim.inner_is

    at_place : (f : FieldId) (q : ℕ) → (q == place_of f) ≡ true → value_of (applied (commit_tags (tags_of base) (tags_of current)) k) f ≡ value_of current f
        → number_at (applied (commit_tags (tags_of base) (tags_of current)) k) q ≡ number_at current q
    at_place f q e h = ap (number_at _) (eqb-true q (place_of f) e) ∙ h ∙ sym (ap (number_at current) (eqb-true q (place_of f) e))

    those : (q : ℕ) → tag_places q ≡ true → number_at (applied (commit_tags (tags_of base) (tags_of current)) k) q ≡ number_at current q
    those q h = one (q == place_of VlanTci) refl (q == place_of VlanTpid) refl (q == place_of VlanTci2) refl (q == place_of VlanTpid2) refl h
      where
        one : (a : Bool) → (q == place_of VlanTci) ≡ a → (b : Bool) → (q == place_of VlanTpid) ≡ b → (c : Bool) → (q == place_of VlanTci2) ≡ c
            → (d : Bool) → (q == place_of VlanTpid2) ≡ d → (a || (b || (c || (d || false)))) ≡ true
            → number_at (applied (commit_tags (tags_of base) (tags_of current)) k) q ≡ number_at current q
        one true e b f c g d i h = at_place VlanTci q e (tag_tci outer)
        one false e true f c g d i h = at_place VlanTpid q f (tag_tpid outer)
        one false e false f true g d i h = at_place VlanTci2 q g (tag_tci inner)
        one false e false f false g true i h = at_place VlanTpid2 q i (tag_tpid inner)
        one false e false f false g false i h = absurd (cc)

-- ---- the whole

pub commit-Turns : (base current : List ℕ) → length base ≡ field_count → is_proper base ≡ true → is_proper current ≡ true
    → Turns (λ q. list_any (λ f. q == place_of f) frame_fields) current base (applied (commit base current) base)
unfolding commit
commit-Turns base current len pb pc =
    let before = commit_fields fields_before_tags base current in
    let tags = commit_tags (tags_of base) (tags_of current) in
    let after = commit_fields fields_after_tags base current in
    let b0 : Between base current base = λ q. inl refl in
    let k1 = applied before base in
    let t1 = commit_fields-Turns fields_before_tags base current base len b0 in
    let b1 = Turns-Between (λ q. list_any (λ f. q == place_of f) fields_before_tags) base current base k1 b0 t1 in
    let k2 = applied tags k1 in
    let t2 = tags-Turns base current k1 (t1.lengths ∙ len) pb pc (λ q h. t1.others q (not_before q h)) in
    let b2 = Turns-Between tag_places base current k1 k2 b1 t2 in
    let t3 = commit_fields-Turns fields_after_tags base current k2 (t2.lengths ∙ t1.lengths ∙ len) b2 in
    let t = Turns-join (λ q. list_any (λ f. q == place_of f) fields_before_tags) _ current base k1 _ t1 (Turns-join tag_places (λ q. list_any (λ f. q == place_of f) fields_after_tags) current k1 k2 _ t2 t3) in
    let e : applied (before ++ (tags ++ after)) base ≡ applied after k2 = applied-append before (tags ++ after) base ∙ applied-append tags after k1 in
    record { lengths = ap length e ∙ t.lengths; those = λ q h. ap (λ (z : List ℕ). number_at z q) e ∙ t.those q (sym (regroup q) ∙ h); others = λ q h. ap (λ (z : List ℕ). number_at z q) e ∙ t.others q (sym (regroup q) ∙ h) }
  where
    -- the fields that are committed before tags are none of theirs
    not_before : (q : ℕ) → tag_places q ≡ true → list_any (λ f. q == place_of f) fields_before_tags ≡ false
    not_before q h = one (q == place_of VlanTci) refl (q == place_of VlanTpid) refl (q == place_of VlanTci2) refl (q == place_of VlanTpid2) refl h
      where
        at_place : (f : FieldId) → (q == place_of f) ≡ true → list_any (λ g. place_of f == place_of g) fields_before_tags ≡ false
            → list_any (λ g. q == place_of g) fields_before_tags ≡ false
        at_place f e h = ap (λ (z : ℕ). list_any (λ g. z == place_of g) fields_before_tags) (eqb-true q (place_of f) e) ∙ h

        one : (a : Bool) → (q == place_of VlanTci) ≡ a → (b : Bool) → (q == place_of VlanTpid) ≡ b → (c : Bool) → (q == place_of VlanTci2) ≡ c
            → (d : Bool) → (q == place_of VlanTpid2) ≡ d → (a || (b || (c || (d || false)))) ≡ true
            → list_any (λ g. q == place_of g) fields_before_tags ≡ false
        one true e b f c g d i h = at_place VlanTci e refl
        one false e true f c g d i h = at_place VlanTpid f refl
        one false e false f true g d i h = at_place VlanTci2 g refl
        one false e false f false g true i h = at_place VlanTpid2 i refl
        one false e false f false g false i h = absurd (cc)

    regroup : (q : ℕ)
        → list_any (λ f. q == place_of f) frame_fields ≡ (list_any (λ f. q == place_of f) fields_before_tags || (tag_places q || list_any (λ f. q == place_of f) fields_after_tags))
    regroup q = list_any-append (λ f. q == place_of f) fields_before_tags (tag_fields ++ fields_after_tags) ∙ ap (λ (t : Bool). list_any (λ f. q == place_of f) fields_before_tags || t) (list_any-append (λ f. q == place_of f) tag_fields fields_after_tags)
