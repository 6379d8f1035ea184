-- What holds of any keys, and of any switch.
use Rattle.std.specs.Prelude.{ℕ, List, All, IsTrue}
use Rattle.spec_keys.specs.Keys.{IsKey, IsClean}
use Rattle.spec_actions.specs.Sound.{AreSound}
use Rattle.spec_xlate.specs.Commit.{commit}
use Rattle.spec_xlate.specs.Translation.{Switch}
use Rattle.table_laws.specs.Applied.{applied, is_proper}

-- It holds of any base key and current key with proper tags, and of the key that a frame of the base key has after the
-- actions that commit appends.
abbrev pub OfCommits : (List ℕ → List ℕ → List ℕ → Type 0) → Type 0
OfCommits claim =
    (base current : List ℕ)
    → IsKey base → IsTrue (is_proper base) → IsTrue (is_proper current)
    → claim base current (applied (commit base current) base)

-- It holds of any switch, and of any two keys that frames can have.
abbrev pub OfKeys : (Switch → List ℕ → List ℕ → Type 0) → Type 0
OfKeys claim = (sw : Switch) (a b : List ℕ) → IsKey a → IsKey b → IsClean a → IsClean b → claim sw a b

-- The masks of all rules are within the widths of the fields.
abbrev pub HasMasksWithin : Switch → Type 0
HasMasksWithin sw = (table : ℕ) → All (λ r. IsKey r.matching.mask) (sw.tables table)

-- The actions of all rules are sound.
abbrev pub HasSoundRules : Switch → Type 0
HasSoundRules sw = (table : ℕ) → All (λ r. AreSound r.actions) (sw.tables table)
