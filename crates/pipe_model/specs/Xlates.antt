-- A translation with the bits that it consulted, and for which other packets it stands.
use Rattle.std.specs.Prelude.{◌≡◌, ℕ, List, IsTrue}
use Rattle.spec_keys.specs.Keys.{agree, IsKey, IsClean}
use Rattle.spec_xlate.specs.Translation.{Switch, Translation, pipe}
use Rattle.spec_xlate.specs.Consulted.{consulted}

-- the packet's key, the version of the tables, what they make of the packet, and the bits consulted
pub record Xlate : Type 0 where
  pub key : List ℕ
  pub version : ℕ
  pub translation : Translation
  pub mask : List ℕ

-- Every packet whose key agrees with this one's on the mask is translated alike, where both keys are clean; and its
-- translation consults the same bits (wildcard soundness).
pub record IsWildcardSound (sw : Switch) (x : Xlate) : Type 0 where
  pub same_translation : (other : List ℕ) → IsKey other → IsClean x.key → IsClean other → IsTrue (agree x.key other x.mask) → pipe sw other ≡ x.translation
  pub same_bits : (other : List ℕ) → IsKey other → IsClean x.key → IsClean other → IsTrue (agree x.key other x.mask) → consulted sw other ≡ x.mask
