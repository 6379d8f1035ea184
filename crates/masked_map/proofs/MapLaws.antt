-- Entries of a map whose keys are equal where their lists are, seen by these lists.
use Rattle.std.proofs.Common.{◌≡◌, ℕ, Bool, true, false, cond, List, [], ◌∷◌, ◌++◌, append_assoc, filter, length, slice_get, Option, Some, None, refl, sym, ap, ◌∙◌, inl, inr, arith}
use Rattle.std.specs.Prelude.{if◌then◌else◌}
use Rattle.std.specs.List.{IsDistinct, AllByRecursion}
use Rattle.std.specs.Map.{KeepsOthers, lookup, keys_of, values_of}
use Rattle.std.specs.HashMap.{UpdatesBy}
use Rattle.std.proofs.lemmas.Bool.{cases_Bool, cond-true, cond-false}
use Rattle.std.proofs.lemmas.Option.{same_Some}
use Rattle.indexmap.specs.IndexMap.{IndexMap, get_by}
use Rattle.spec_keys.specs.Keys.{masked, same}
use Rattle.ovs_fields.specs.Equality.{equal_from_same}
use Rattle.masked_map.specs.Maps.{listed, wanted_values}

module _ {K V : Type 0} (list : K → List ℕ) where
  pub lookup_listed : (q : List ℕ) (es : List (K × V)) → lookup (same q) (listed list es) ≡ lookup (λ k. same q (list k)) es
  lookup_listed q [] = refl
  lookup_listed q (e ∷ es) = ap (cond (same q (list e.0)) (Some e.1)) (lookup_listed q es)

  -- what a key finds is what stands at its list
  pub lookup_at : (es : List (K × V)) (k : K) (q : List ℕ) → list k ≡ q → lookup (λ r. same (list k) (list r)) es ≡ lookup (same q) (listed list es)
  lookup_at es k q is = ap (λ l. lookup (λ r. same l (list r)) es) is ∙ sym (lookup_listed q es)

  -- what is found by any list after an update at one
  pub updated_at : {S : Type 0} (old new : IndexMap K V S) (key : List ℕ) (w : Option V)
      → UpdatesBy (λ (a b : K). same (list a) (list b)) (λ (r : K). same key (list r)) old new w
      → (q : List ℕ) → lookup (same q) (listed list new.entries) ≡ (if same q key then w else lookup (same q) (listed list old.entries))
  unfolding KeepsOthers
  updated_at {S} old new key w updates q =
      lookup_listed q new.entries
      ∙ elim (cases_Bool (same q key)) [
        | inl holds ↦
            ap (λ (l : List ℕ). get_by (λ (k : K). same l (list k)) new) (equal_from_same q key holds)
            ∙ updates.1
            ∙ sym (cond-true (same q key) w (get_by (λ (k : K). same q (list k)) old) holds)
        | inr fails ↦
            updates.3 (λ k. same q (list k))
            (λ x y first. ap (λ (l : List ℕ). same l (list y)) (equal_from_same q (list x) first))
            (λ k first. ap (same q) (sym (equal_from_same key (list k) first)) ∙ fails)
            ∙ sym (cond-false (same q key) w (get_by (λ (k : K). same q (list k)) old) fails)
      ]
      ∙ ap (λ o. if same q key then w else o) (sym (lookup_listed q old.entries))

  -- and after one at a key of this list
  pub updated_at_key : {S : Type 0} (old new : IndexMap K V S) (k : K) (key : List ℕ) (w : Option V) → list k ≡ key
      → UpdatesBy (λ (a b : K). same (list a) (list b)) (λ (r : K). same (list k) (list r)) old new w
      → (q : List ℕ) → lookup (same q) (listed list new.entries) ≡ (if same q key then w else lookup (same q) (listed list old.entries))
  updated_at_key {S} old new k key w is updates q =
      updated_at old new (list k) w updates q ∙ ap (λ l. if same q l then w else lookup (same q) (listed list old.entries)) is

  -- keys that are distinct have distinct lists
  apart : (k : K) (es : List (K × V)) → AllByRecursion (λ r. same (list k) (list r) ≡ false) (keys_of es) → AllByRecursion (λ l. same (list k) l ≡ false) (keys_of (listed list es))
  apart k [] all = tt
  apart k (e ∷ es) all = (all.0, apart k es all.1)

  pub distinct_listed : (es : List (K × V)) → IsDistinct (λ (a b : K). same (list a) (list b)) (keys_of es) → IsDistinct same (keys_of (listed list es))
  unfolding IsDistinct
  distinct_listed [] all = tt
  distinct_listed (e ∷ es) all = (apart e.0 es all.0, distinct_listed es all.1)

-- an entry of a walk adds its value where the key has the wanted bits
module _ {K V : Type 0} (list : K → List ℕ) (wanted mask : List ℕ) where
  wanted_values-cons : (e : K × V) (es : List (K × V)) (t : Bool) → same wanted (masked (list e.0) mask) ≡ t
      → wanted_values wanted mask (listed list (e ∷ es)) ≡ (if t then e.1 ∷ wanted_values wanted mask (listed list es) else wanted_values wanted mask (listed list es))
  wanted_values-cons e es true is = ap (λ u. values_of (if u then (list e.0, e.1) ∷ rest else rest)) is
    where
      rest : List (List ℕ × V)
      rest = filter (λ (x : List ℕ × V). same wanted (masked x.0 mask)) (listed list es)
  wanted_values-cons e es false is = ap (λ u. values_of (if u then (list e.0, e.1) ∷ rest else rest)) is
    where
      rest : List (List ℕ × V)
      rest = filter (λ (x : List ℕ × V). same wanted (masked x.0 mask)) (listed list es)

  pub wanted_added : (found more : List V) (e : K × V) (es all : List (K × V)) → all ≡ e ∷ es → more ≡ found ++ e.1 ∷ [] → same wanted (masked (list e.0) mask) ≡ true
      → more ++ wanted_values wanted mask (listed list es) ≡ found ++ wanted_values wanted mask (listed list all)
  wanted_added found more e es all first added is =
      ap (λ vs. vs ++ wanted_values wanted mask (listed list es)) added
      ∙ append_assoc found (e.1 ∷ []) (wanted_values wanted mask (listed list es))
      ∙ ap (λ vs. found ++ vs) (sym (wanted_values-cons e es true is))
      ∙ ap (λ xs. found ++ wanted_values wanted mask (listed list xs)) (sym first)

  pub wanted_passed : (found : List V) (e : K × V) (es all : List (K × V)) → all ≡ e ∷ es → same wanted (masked (list e.0) mask) ≡ false
      → found ++ wanted_values wanted mask (listed list es) ≡ found ++ wanted_values wanted mask (listed list all)
  wanted_passed found e es all first is =
      ap (λ vs. found ++ vs) (sym (wanted_values-cons e es false is))
      ∙ ap (λ xs. found ++ wanted_values wanted mask (listed list xs)) (sym first)

-- a test that the only key passes finds its value
pub only_found : {K V : Type 0} (test : K → Bool) (es : List (K × V)) (k : K) (v : V) → length es ≡ 1 → slice_get es 0 ≡ Some (k, v) → test k ≡ true → lookup test es ≡ Some v
only_found test [] k v one at holds = absurd (omega (arith, one))
only_found {K} {V} test (e ∷ []) k v one at holds =
    ap (λ (x : K × V). cond (test x.0) (Some x.1) None) (same_Some e (k, v) at) ∙ ap (λ (t : Bool). cond t (Some v) None) holds
only_found test (e ∷ f ∷ es) k v one at holds = absurd (omega (arith, one))

-- .. and one that it fails, nothing
pub none_but_only : {K V : Type 0} (test : K → Bool) (es : List (K × V)) (k : K) (v : V) → length es ≡ 1 → slice_get es 0 ≡ Some (k, v) → test k ≡ false → lookup test es ≡ None
none_but_only test [] k v one at fails = absurd (omega (arith, one))
none_but_only {K} {V} test (e ∷ []) k v one at fails =
    ap (λ (x : K × V). cond (test x.0) (Some x.1) None) (same_Some e (k, v) at) ∙ ap (λ (t : Bool). cond t (Some v) None) fails
none_but_only test (e ∷ f ∷ es) k v one at fails = absurd (omega (arith, one))
