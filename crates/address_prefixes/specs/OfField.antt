-- The prefixes of one field: the one that a mask has, those that rules state, and what these tell of a key.
use Rattle.std.specs.Prelude.{◌≡◌, ℕ, ◌+◌, ◌<◌, Bool, ◌&&◌, ◌==◌, not, if◌then◌else◌, List, Option, IfSome}
use Rattle.spec_keys.specs.declared.field_id.FieldId.{FieldId}
use Rattle.spec_keys.specs.Fields.{width_of}
use Rattle.spec_keys.specs.Keys.{value_of}
use Rattle.spec_tables.specs.Rules.{Rule}
use Rattle.spec_xlate.specs.Lookup.{Prefix, prefix_length, prefixes}
use Rattle.ovs_fields.specs.Packed.{numbers}
use Rattle.ovs_fields.specs.declared.key.Key.{Key}
use Rattle.address_prefixes.specs.declared.tracker.found.Found.{Found}
use Rattle.address_prefixes.specs.Looks.{IsFound}
use Rattle.address_prefixes.specs.Prefixes.{Prefixes, is_same, prefix_at, times}
use Rattle.address_prefixes.specs.declared.field_prefix.FieldPrefix.{FieldPrefix}

-- it is the prefix of a field that a mask has
pub record IsPrefixOf (p : FieldPrefix) (f : FieldId) (mask : List ℕ) : Type 0 where
  pub field_is : p.field ≡ f
  pub length_is : p.length ≡ prefix_length (width_of f) (value_of mask f)

-- each prefix stands in the trie as often as these rules state it of a field
pub record IsTrieOf (t : Prefixes) (f : FieldId) (rs : List Rule) : Type 0 where
  pub width_is : t.width ≡ width_of f
  pub stand : (q : Prefix) → times q t.list ≡ times q (prefixes f rs)

-- whether a prefix is that of n bits which a key has of a field; none has 0 bits
abbrev pub is_of_key : FieldId → ℕ → List ℕ → Prefix → Bool
is_of_key f n key q = not (n == 0) && is_same q (prefix_at (width_of f) (value_of key f) n)

-- the second trie has the prefix of n bits that a key has of a field once more than the first
pub record HasOnceMore (f : FieldId) (n : ℕ) (key : List ℕ) (old new : Prefixes) : Type 0 where
  pub same_width : new.width ≡ old.width
  pub more : (q : Prefix) → times q new.list ≡ times q old.list + (if is_of_key f n key q then 1 else 0)

-- each prefix stands in both as often
pub record AreAlike (old new : Prefixes) : Type 0 where
  pub same_width : new.width ≡ old.width
  pub same : (q : Prefix) → times q new.list ≡ times q old.list

-- the prefix of n bits that a key has of a field stands in the trie
abbrev pub IsThere : FieldId → ℕ → List ℕ → Prefixes → Type 0
IsThere f n key t = 0 < n → 0 < times (prefix_at (width_of f) (value_of key f) n) t.list

-- what was found, if it was, is what the prefixes tell of a key that these rules state of a field
abbrev pub IsKnown : Option Found → FieldId → List ℕ → List Rule → Type 0
IsKnown known f key rs = IfSome known (λ found. IsFound (width_of f) (value_of key f) found (prefixes f rs))

-- what was known of the rules of the trie is known of them still
abbrev pub StaysKnown : Prefixes → Option Found → Option Found → FieldId → Key → Type 0
StaysKnown t old new f key = (rs : List Rule) → IsTrieOf t f rs → IsKnown old f (numbers key) rs → IsKnown new f (numbers key) rs

-- it holds of all rules of the trie of which this is known, and of each mask with this prefix
abbrev pub ForMasks : Prefixes → Option Found → FieldPrefix → FieldId → Key → (List Rule → List ℕ → Type 0) → Type 0
ForMasks t known p f key Holds = (rs : List Rule) (mask : List ℕ) → IsTrieOf t f rs → IsKnown known f (numbers key) rs → IsPrefixOf p f mask → Holds rs mask
