-- The trie of a field, as rules come and go, and what it tells of a key.
use Rattle.std.proofs.Common.{◌≡◌, ℕ, suc, ◌+◌, ◌-◌, ◌^◌, ◌<◌, Bool, true, false, ◌&&◌, ◌==◌, not, if◌then◌else◌, List, length, map, refl, sym, ap, ap₂, ◌∙◌, subst, arith, eq-eqb}
use Rattle.std.specs.Int.{bit_at}
use Rattle.spec_keys.specs.declared.field_id.FieldId.{FieldId}
use Rattle.spec_keys.specs.Fields.{width_of}
use Rattle.spec_keys.specs.Keys.{value_of, masked}
use Rattle.spec_tables.specs.Rules.{Rule}
use Rattle.spec_xlate.specs.Lookup.{Prefix, prefix_of, prefixes, deciding, some_begins}
use Rattle.table_laws.specs.Members.{Among}
use Rattle.address_prefixes.specs.declared.tracker.found.Found.{Found}
use Rattle.address_prefixes.specs.Looks.{begun, IsFound}
use Rattle.address_prefixes.specs.Prefixes as tries
use Rattle.address_prefixes.specs.Prefixes.{Prefixes, is_same, prefix_at, times}
use Rattle.address_prefixes.proofs.tracker.AlikeLists.{deciding_same, some_begins_same}
use Rattle.address_prefixes.proofs.tracker.Times.{as_long, is_same_self, stands}
use Rattle.address_prefixes.specs.declared.field_prefix.FieldPrefix.{FieldPrefix}
use Rattle.address_prefixes.specs.OfField.{IsPrefixOf, IsTrieOf, is_of_key, HasOnceMore, AreAlike, IsThere}
use Rattle.address_prefixes.specs.RuleLists.{HasOneMore}
use Rattle.address_prefixes.proofs.FieldLaws.{states, times_stated, length-prefixes, stated_prefix, states_is, stated_among, prefixes_alike}
use Rattle.address_prefixes.proofs.Lengths.{not_zero}

-- ---- rules come and go

module _ (f : FieldId) (r : Rule) (key : List ℕ) (p : FieldPrefix) (prefix : IsPrefixOf p f r.matching.mask) (normalised : masked r.matching.key r.matching.mask ≡ r.matching.key) (of_key : r.matching.key ≡ key) where
  own_is : (q : Prefix) → is_of_key p.field p.length key q ≡ states f q r
  own_is q = ap (λ (h : FieldId). is_of_key h p.length key q) prefix.field_is ∙ sym (states_is f r key p.length q normalised of_key prefix.length_is)

  pub trie_more : (old new : Prefixes) (rs all : List Rule) → IsTrieOf old f rs → HasOnceMore p.field p.length key old new → HasOneMore r rs all → IsTrieOf new f all
  trie_more old new rs all is more one = record {
    width_is = more.same_width ∙ is.width_is;
    stand = λ q.
        let a = more.more q in
        let b = is.stand q in
        let c = times_stated f q rs in
        let d = times_stated f q all in
        let e = one (states f q) in
        let g = ap {B = ℕ} (λ (t : Bool). if t then 1 else 0) (own_is q) in
        omega (arith, a, b, c, d, e, g);
  }

  pub trie_less : (old new : Prefixes) (rs left : List Rule) → IsTrieOf old f rs → HasOnceMore p.field p.length key new old → HasOneMore r left rs → IsTrieOf new f left
  trie_less old new rs left is more one = record {
    width_is = sym more.same_width ∙ is.width_is;
    stand = λ q.
        let a = more.more q in
        let b = is.stand q in
        let c = times_stated f q rs in
        let d = times_stated f q left in
        let e = one (states f q) in
        let g = ap {B = ℕ} (λ (t : Bool). if t then 1 else 0) (own_is q) in
        omega (arith, a, b, c, d, e, g);
  }

  -- its prefix stands there
  pub trie_has : (t : Prefixes) (rs : List Rule) → IsTrieOf t f rs → Among r rs → IsThere p.field p.length key t
  trie_has t rs is m some =
      let long : (prefix_of f r).length ≡ p.length = sym prefix.length_is in
      let there : ((prefix_of f r).length == 0) ≡ false = ap (λ (n : ℕ). n == 0) long ∙ not_zero p.length some in
      let own : prefix_of f r ≡ prefix_at (width_of p.field) (value_of key p.field) p.length =
      stated_prefix f r normalised there ∙ ap₂ (λ (k : List ℕ) (n : ℕ). prefix_at (width_of f) (value_of k f) n) of_key long
      ∙ ap (λ (g : FieldId). prefix_at (width_of g) (value_of key g) p.length) (sym prefix.field_is) in
      subst (λ (q : Prefix). 0 < times q t.list) own (subst (λ (n : ℕ). 0 < n) (sym (is.stand (prefix_of f r))) (stands (prefix_of f r) (prefixes f rs) (stated_among f rs r m there)))

-- a trie that has it once more
pub one_more_at : (f : FieldId) (n v : ℕ) (key : List ℕ) (old new : Prefixes) → old.width ≡ width_of f → new.width ≡ old.width → v ≡ value_of key f → 0 < n
    → tries.HasOneMore (prefix_at old.width v n) old.list new.list → HasOnceMore f n key old new
one_more_at f n v key old new wide same is some more = record {
  same_width = same;
  more = λ q.
      let own : is_of_key f n key q ≡ is_same q (prefix_at old.width v n) =
      ap₂ (λ (t : Bool) (p : Prefix). not t && is_same q p) (not_zero n some) (ap₂ (λ (w x : ℕ). prefix_at w x n) (sym wide) (sym is)) in
      more q ∙ ap (λ (t : Bool). times q old.list + (if t then 1 else 0)) (sym own);
}

-- of 0 bits there is none to put in
pub none_more : (f : FieldId) (n : ℕ) (key : List ℕ) (t : Prefixes) → n ≡ 0 → HasOnceMore f n key t t
none_more f n key t none = record {
  same_width = refl;
  more = λ q.
      let own : is_of_key f n key q ≡ false = ap (λ (u : Bool). not u && is_same q (prefix_at (width_of f) (value_of key f) n)) (eq-eqb n 0 none) in
      let zero = ap {B = ℕ} (λ (u : Bool). if u then 1 else 0) own in
      omega (arith, zero);
}

-- one that was just put in does
pub once_there : (f : FieldId) (n : ℕ) (key : List ℕ) (old new : Prefixes) → HasOnceMore f n key old new → IsThere f n key new
once_there f n key old new more some =
    let own = prefix_at (width_of f) (value_of key f) n in
    let self : is_of_key f n key own ≡ true = ap₂ (λ (t u : Bool). not t && u) (not_zero n some) (is_same_self own) in
    let one = ap {B = ℕ} (λ (t : Bool). if t then 1 else 0) self in
    let a = more.more own in
    omega (arith, a, one)

-- one that was put in and taken out changes nothing
pub in_and_out : (f : FieldId) (n : ℕ) (key : List ℕ) (old mid new : Prefixes) → HasOnceMore f n key old mid → HasOnceMore f n key new mid → AreAlike old new
in_and_out f n key old mid new more less = record {
  same_width = sym less.same_width ∙ more.same_width;
  same = λ q.
      let a = more.more q in
      let b = less.more q in
      omega (arith, a, b);
}

pub trie_alike : (old new : Prefixes) (f : FieldId) (rs : List Rule) → IsTrieOf old f rs → AreAlike old new → IsTrieOf new f rs
trie_alike old new f rs is alike = record { width_is = alike.same_width ∙ is.width_is; stand = λ q. alike.same q ∙ is.stand q }

-- as many as there are rules, at most
pub trie_few : (t : Prefixes) (f : FieldId) (rs : List Rule) → IsTrieOf t f rs → length rs + 1 < 2 ^ 32 → length t.list + 1 < 2 ^ 32
trie_few t f rs is few =
    let a = as_long t.list (prefixes f rs) is.stand in
    let b = length-prefixes f rs in
    omega (arith, a, b, few)

-- those of other rules of the same matches
pub trie_same : {X : Type 0} (g h : X → Rule) → ((x : X) → (g x).matching ≡ (h x).matching) → (t : Prefixes) (f : FieldId) (xs : List X) → IsTrieOf t f (map g xs) → IsTrieOf t f (map h xs)
trie_same g h same t f xs is = record { width_is = is.width_is; stand = λ q. is.stand q ∙ ap (times q) (prefixes_alike f g h same xs) }

-- ---- what it tells of a key

pub trie_tells : (t : Prefixes) (f : FieldId) (key : List ℕ) (rs : List Rule) (found : Found) → IsTrieOf t f rs
    → ((n : ℕ) → bit_at found.lengths n ≡ begun t.width (value_of key f) n t.list) → found.bits ≡ deciding t.width (value_of key f) t.list
    → IsFound (width_of f) (value_of key f) found (prefixes f rs)
trie_tells t f key rs found is lengths decides = record {
  lengths = λ n.
      lengths n ∙ ap (λ (w : ℕ). begun w (value_of key f) n t.list) is.width_is
      ∙ ap {B = ℕ} (λ (u : Bool). if u then 1 else 0) (some_begins_same t.list (prefixes f rs) is.stand (width_of f) (value_of key f) (suc n));
  bits = decides ∙ ap (λ (w : ℕ). deciding w (value_of key f) t.list) is.width_is ∙ deciding_same t.list (prefixes f rs) is.stand (width_of f) (value_of key f);
}

-- whether it begins with a prefix of n bits
pub begins_told : (w x n : ℕ) (ps : List Prefix) (found : Found) → IsFound w x found ps → 0 < n → (bit_at found.lengths (n - 1) == 1) ≡ some_begins w x n ps
begins_told w x n ps found is some =
    let back : suc (n - 1) ≡ n = omega (arith, some) in
    ap (λ (b : ℕ). b == 1) (is.lengths (n - 1)) ∙ one (some_begins w x (suc (n - 1)) ps) ∙ ap (λ (m : ℕ). some_begins w x m ps) back
  where
    one : (t : Bool) → ((if t then 1 else 0) == 1) ≡ t
    one true = refl
    one false = refl
