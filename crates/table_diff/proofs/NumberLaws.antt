-- The number of a field after what a translation emits.
use Rattle.std.proofs.Common.{◌≡◌, ℕ, ◌+◌, ◌%◌, ◌<◌, min, Bool, true, false, ◌||◌, ◌==◌, if◌then◌else◌, List, [], ◌∷◌, ◌++◌, map, bit_and, bit_xor, ◌⊎◌, inl, inr, refl, sym, ap, ap₂, ◌∙◌, eqb-true, arith}
use Rattle.std.specs.Int.{bit_at}
use Rattle.std.specs.List.{list_any}
use Rattle.std.proofs.lemmas.Nat.Bits.{bit_at_and, bit_at_xor, bit_at-lt, same_from_bits}
use Rattle.spec_base.specs.Bits.{merged}
use Rattle.spec_keys.specs.declared.field_id.FieldId.{FieldId}
use Rattle.spec_keys.specs.Fields.{place_of}
use Rattle.spec_keys.specs.Keys.{number_at, value_of}
use Rattle.spec_actions.specs.declared.action.DpAction.{DpAction}
use Rattle.spec_actions.specs.declared.action.DpAction.TheVariants.{Output, PopVlan, PushVlan, Set}
use Rattle.spec_xlate.specs.Tags.{VlanTag, tags_of, outer_tags, commit_tags}
use Rattle.spec_xlate.specs.Commit.{commit, commit_field, commit_fields, fields_before_tags, fields_after_tags}
use Rattle.table_laws.proofs.KeysAlike.{bit_at-merged}
use Rattle.table_diff.specs.Sending.{is_same_field, is_frame_field, number_after}

pub number_after-append : (f : FieldId) (xs ys : List DpAction) (x : ℕ) → number_after f (xs ++ ys) x ≡ number_after f ys (number_after f xs x)
number_after-append f [] ys x = refl
number_after-append f (Output n ∷ xs) ys x = number_after-append f xs ys x
number_after-append f (PopVlan ∷ xs) ys x = number_after-append f xs ys x
number_after-append f (PushVlan t c ∷ xs) ys x = number_after-append f xs ys x
number_after-append f (Set g v m ∷ xs) ys x = number_after-append f xs ys (if is_same_field f g then merged x v m else x)

pub number_after-outputs : (f : FieldId) (ps : List ℕ) (x : ℕ) → number_after f (map Output ps) x ≡ x
number_after-outputs f [] x = refl
number_after-outputs f (p ∷ ps) x = number_after-outputs f ps x

-- ---- a commit

pops-keep : (f : FieldId) (ts : List VlanTag) (x : ℕ) → number_after f (map (λ (t : VlanTag). PopVlan) ts) x ≡ x
pops-keep f [] x = refl
pops-keep f (t ∷ ts) x = pops-keep f ts x

pushes-keep : (f : FieldId) (ts : List VlanTag) (x : ℕ) → number_after f (map (λ (t : VlanTag). PushVlan t.tpid t.tci) ts) x ≡ x
pushes-keep f [] x = refl
pushes-keep f (t ∷ ts) x = pushes-keep f ts x

tags-keep : (f : FieldId) (before after : List VlanTag) (x : ℕ) → number_after f (commit_tags before after) x ≡ x
unfolding commit_tags
tags-keep f before after x =
    let pops = map (λ (t : VlanTag). PopVlan) (outer_tags before after) in
    let pushes = map (λ (t : VlanTag). PushVlan t.tpid t.tci) (outer_tags after before) in
    number_after-append f pops pushes x
    ∙ pushes-keep f (outer_tags after before) (number_after f pops x)
    ∙ pops-keep f (outer_tags before after) x

-- the bits that differ, written into either number, give the second
merged-changed : (x b c : ℕ) → (x ≡ b) ⊎ (x ≡ c) → merged x (bit_and c (bit_xor b c)) (bit_xor b c) ≡ c
merged-changed x b c h = same_from_bits _ _ (λ i. bit_at-merged x (bit_and c (bit_xor b c)) (bit_xor b c) i ∙ parts i ∙ at (bit_at x i) (bit_at b i) (bit_at c i) (bit_at-lt b i) (bit_at-lt c i) (either i h))
  where
    either : (i : ℕ) → (x ≡ b) ⊎ (x ≡ c) → (bit_at x i ≡ bit_at b i) ⊎ (bit_at x i ≡ bit_at c i)
    either i (inl e) = inl (ap (λ (z : ℕ). bit_at z i) e)
    either i (inr e) = inr (ap (λ (z : ℕ). bit_at z i) e)

    parts : (i : ℕ) → (bit_at x i + min ((bit_at x i + bit_at (bit_and c (bit_xor b c)) i) % 2) (bit_at (bit_xor b c) i)) % 2
        ≡ (bit_at x i + min ((bit_at x i + min (bit_at c i) ((bit_at b i + bit_at c i) % 2)) % 2) ((bit_at b i + bit_at c i) % 2)) % 2
    parts i = ap₂ (λ (u v : ℕ). (bit_at x i + min ((bit_at x i + u) % 2) v) % 2) (bit_at_and c (bit_xor b c) i ∙ ap (min (bit_at c i)) (bit_at_xor b c i)) (bit_at_xor b c i)

    at : (u v w : ℕ) → v < 2 → w < 2 → (u ≡ v) ⊎ (u ≡ w) → (u + min ((u + min w ((v + w) % 2)) % 2) ((v + w) % 2)) % 2 ≡ w
    at u v w lv lw (inl e) = omega arith
    at u v w lv lw (inr e) = omega arith

module _ (f : FieldId) (base current : List ℕ) where
  -- a number is the one before or the one after
  abbrev IsEither : ℕ → Type 0
  IsEither x = (x ≡ value_of base f) ⊎ (x ≡ value_of current f)

  -- a field is turned where it is this one
  turned : (g : FieldId) (x : ℕ) → IsEither x → number_after f (commit_field g (value_of base g) (value_of current g)) x ≡ (if is_same_field f g then value_of current f else x)
  unfolding commit_field
  turned g x is = at (is_same_field f g) refl
    where
      at : (t : Bool) → is_same_field f g ≡ t → number_after f (commit_field g (value_of base g) (value_of current g)) x ≡ (if t then value_of current f else x)
      at true e = own (value_of base g) (value_of current g) (ap (number_at base) place) (ap (number_at current) place) (value_of base g == value_of current g) refl
        where
          place : place_of g ≡ place_of f
          place = sym (eqb-true (place_of f) (place_of g) e)

          same : (b c : ℕ) → b ≡ value_of base f → c ≡ value_of current f → b ≡ c → IsEither x → x ≡ value_of current f
          same b c eb ec bc (inl h) = h ∙ sym eb ∙ bc ∙ ec
          same b c eb ec bc (inr h) = h

          either : (b c : ℕ) → b ≡ value_of base f → c ≡ value_of current f → IsEither x → (x ≡ b) ⊎ (x ≡ c)
          either b c eb ec (inl h) = inl (h ∙ sym eb)
          either b c eb ec (inr h) = inr (h ∙ sym ec)

          own : (b c : ℕ) → b ≡ value_of base f → c ≡ value_of current f → (u : Bool) → (b == c) ≡ u
              → number_after f (if u then [] else Set g (bit_and c (bit_xor b c)) (bit_xor b c) ∷ []) x ≡ value_of current f
          own b c eb ec true u = same b c eb ec (eqb-true b c u) is
          own b c eb ec false u =
              ap (λ (z : Bool). if z then merged x (bit_and c (bit_xor b c)) (bit_xor b c) else x) e
              ∙ merged-changed x b c (either b c eb ec is) ∙ ec
      at false e = other (value_of base g) (value_of current g) (value_of base g == value_of current g)
        where
          other : (b c : ℕ) (u : Bool) → number_after f (if u then [] else Set g (bit_and c (bit_xor b c)) (bit_xor b c) ∷ []) x ≡ x
          other b c true = refl
          other b c false = ap (λ (z : Bool). if z then merged x (bit_and c (bit_xor b c)) (bit_xor b c) else x) e

  still-either : (t : Bool) (x : ℕ) → IsEither x → IsEither (if t then value_of current f else x)
  still-either true x is = inr refl
  still-either false x is = is

  all-turned : (gs : List FieldId) (x : ℕ) → IsEither x → number_after f (commit_fields gs base current) x ≡ (if list_any (is_same_field f) gs then value_of current f else x)
  unfolding commit_fields
  all-turned [] x is = refl
  all-turned (g ∷ gs) x is =
      number_after-append f (commit_field g (value_of base g) (value_of current g)) (commit_fields gs base current) x
      ∙ ap (number_after f (commit_fields gs base current)) (turned g x is)
      ∙ all-turned gs (if is_same_field f g then value_of current f else x) (still-either (is_same_field f g) x is)
      ∙ joined (is_same_field f g) (list_any (is_same_field f) gs)
    where
      joined : (s t : Bool) → (if t then value_of current f else (if s then value_of current f else x)) ≡ (if s || t then value_of current f else x)
      joined true true = refl
      joined true false = refl
      joined false t = refl

  pub number_after-commit : is_frame_field f ≡ true → number_after f (commit base current) (value_of base f) ≡ value_of current f
  unfolding commit
  number_after-commit is =
      let before = commit_fields fields_before_tags base current in
      let tags = commit_tags (tags_of base) (tags_of current) in
      let after = commit_fields fields_after_tags base current in
      let first = list_any (is_same_field f) fields_before_tags in
      let x = if first then value_of current f else value_of base f in
      number_after-append f before (tags ++ after) (value_of base f)
      ∙ ap (number_after f (tags ++ after)) (all-turned fields_before_tags (value_of base f) (inl refl))
      ∙ number_after-append f tags after x
      ∙ ap (number_after f after) (tags-keep f (tags_of base) (tags_of current) x)
      ∙ all-turned fields_after_tags x (still-either first (value_of base f) (inl refl))
      ∙ at first (list_any (is_same_field f) fields_after_tags) is
    where
      at : (s t : Bool) → (s || t) ≡ true → (if t then value_of current f else (if s then value_of current f else value_of base f)) ≡ value_of current f
      at true true e = refl
      at true false e = refl
      at false true e = refl
      at false false e = absurd (cc e)
