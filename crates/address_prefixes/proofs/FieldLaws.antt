-- The prefixes that rules state of a field.
use Rattle.std.proofs.Common.{◌≡◌, ℕ, ◌+◌, ◌≤◌, Bool, true, false, ◌&&◌, ◌==◌, not, if◌then◌else◌, List, [], ◌∷◌, length, map, count_by, bit_and, refl, sym, ap, ap₂, ◌∙◌, arith}
use Rattle.std.proofs.lemmas.List.Sums.{sum_by-cons}
use Rattle.spec_base.specs.Bits.{leading_bits}
use Rattle.spec_keys.specs.declared.field_id.FieldId.{FieldId}
use Rattle.spec_keys.specs.Fields.{width_of, place_of}
use Rattle.spec_keys.specs.Keys.{value_of, masked}
use Rattle.spec_tables.specs.Rules as tables
use Rattle.spec_tables.specs.Rules.{Rule}
use Rattle.spec_xlate.specs.Lookup.{Prefix, prefix_length, prefix_of, prefixes}
use Rattle.table_laws.proofs.KeyLaws.{number_at-masked}
use Rattle.table_laws.proofs.MemberLaws.{Among, Among_in-filter, Among_in-map}
use Rattle.table_laws.proofs.PrefixLaws.{prefix_length-is}
use Rattle.address_prefixes.specs.Prefixes.{is_same, prefix_at, times}
use Rattle.address_prefixes.proofs.tracker.Times.{times-cons, times-none}
use Rattle.address_prefixes.specs.OfField.{is_of_key}

-- whether a rule states this prefix of a field
abbrev pub states : FieldId → Prefix → Rule → Bool
states f q r = not ((prefix_of f r).length == 0) && is_same q (prefix_of f r)

-- a prefix stands among them as often as rules state it
pub times_stated : (f : FieldId) (q : Prefix) (rs : List Rule) → times q (prefixes f rs) ≡ count_by (states f q) rs
times_stated f q [] = times-none q
times_stated f q (r ∷ rs) = at (not ((prefix_of f r).length == 0)) (times_stated f q rs) ∙ sym (sum_by-cons (λ (x : Rule). if states f q x then 1 else 0) r rs)
  where
    at : (t : Bool) → times q (prefixes f rs) ≡ count_by (states f q) rs
        → times q (if t then prefix_of f r ∷ prefixes f rs else prefixes f rs) ≡ (if t && is_same q (prefix_of f r) then 1 else 0) + count_by (states f q) rs
    at true ih = times-cons q (prefix_of f r) (prefixes f rs) ∙ ap (λ (n : ℕ). (if is_same q (prefix_of f r) then 1 else 0) + n) ih
    at false ih = omega (arith, ih)

-- and they are no more than the rules
pub length-prefixes : (f : FieldId) (rs : List Rule) → length (prefixes f rs) ≤ length rs
length-prefixes f [] = omega arith
length-prefixes f (r ∷ rs) = at (not ((prefix_of f r).length == 0)) (length-prefixes f rs)
  where
    at : (t : Bool) → length (prefixes f rs) ≤ length rs → length (if t then prefix_of f r ∷ prefixes f rs else prefixes f rs) ≤ length (r ∷ rs)
    at true ih = omega (arith, ih)
    at false ih = omega (arith, ih)

-- what a rule states is the prefix of its key, which has no bits outside the mask
pub stated_prefix : (f : FieldId) (r : Rule) → masked r.matching.key r.matching.mask ≡ r.matching.key → (prefix_length (width_of f) (value_of r.matching.mask f) == 0) ≡ false
    → prefix_of f r ≡ prefix_at (width_of f) (value_of r.matching.key f) (prefix_length (width_of f) (value_of r.matching.mask f))
stated_prefix f r normalised long =
    let n : ℕ = prefix_length (width_of f) (value_of r.matching.mask f) in
    let is = prefix_length-is (width_of f) (value_of r.matching.mask f) long in
    let cut : value_of r.matching.key f ≡ bit_and (value_of r.matching.key f) (leading_bits (width_of f) n) =
    ap (λ (k : List ℕ). value_of k f) (sym normalised) ∙ number_at-masked r.matching.key r.matching.mask (place_of f) ∙ ap (bit_and (value_of r.matching.key f)) is in
    ap made cut
  where
    made : ℕ → Prefix
    made v = record { value = v; length = prefix_length (width_of f) (value_of r.matching.mask f) }

-- so a rule states just that prefix
pub states_is : (f : FieldId) (r : Rule) (key : List ℕ) (n : ℕ) (q : Prefix) → masked r.matching.key r.matching.mask ≡ r.matching.key → r.matching.key ≡ key
    → n ≡ prefix_length (width_of f) (value_of r.matching.mask f) → states f q r ≡ is_of_key f n key q
states_is f r key n q normalised of_key long = at (prefix_length (width_of f) (value_of r.matching.mask f) == 0) refl
  where
    at : (t : Bool) → (prefix_length (width_of f) (value_of r.matching.mask f) == 0) ≡ t → states f q r ≡ is_of_key f n key q
    at true e =
        ap (λ (u : Bool). not u && is_same q (prefix_of f r)) e
        ∙ sym (ap (λ (u : Bool). not u && is_same q (prefix_at (width_of f) (value_of key f) n)) (ap (λ (m : ℕ). m == 0) long ∙ e))
    at false e =
        ap (λ (p : Prefix). not ((prefix_of f r).length == 0) && is_same q p) (stated_prefix f r normalised e)
        ∙ ap₂ (λ (m : ℕ) (k : List ℕ). not (m == 0) && is_same q (prefix_at (width_of f) (value_of k f) m)) (sym long) of_key

pub stated_among : (f : FieldId) (rs : List Rule) (r : Rule) → Among r rs → (prefix_length (width_of f) (value_of r.matching.mask f) == 0) ≡ false → Among (prefix_of f r) (prefixes f rs)
stated_among f rs r m some = Among_in-filter (λ (q : Prefix). not (q.length == 0)) (prefix_of f r) (map (prefix_of f) rs) (Among_in-map (prefix_of f) r rs m) (ap not some)

-- rules of the same matches state the same prefixes
pub prefixes_alike : {X : Type 0} (f : FieldId) (g h : X → Rule) → ((x : X) → (g x).matching ≡ (h x).matching) → (xs : List X) → prefixes f (map g xs) ≡ prefixes f (map h xs)
prefixes_alike f g h same [] = refl
prefixes_alike {X} f g h same (x ∷ xs) = ap₂ with_one (same x) (prefixes_alike f g h same xs)
  where
    own : tables.Match → Prefix
    own m = record { value = value_of m.key f; length = prefix_length (width_of f) (value_of m.mask f) }

    with_one : tables.Match → List Prefix → List Prefix
    with_one m ps = if not ((own m).length == 0) then own m ∷ ps else ps
