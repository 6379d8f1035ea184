-- What compact fields feed to a hash function: what a whole key with their numbers does.
use Rattle.std.specs.Prelude.{◌≡◌, ℕ, IsTrue, List}
use Rattle.std.specs.Hash.{on_Alike, same_Alike}
use Rattle.spec_keys.specs.Keys.{same}
use Rattle.ovs_fields.specs.Equality.{Decides-same}
use Rattle.ovs_fields.specs.Feeding.{list_writes}
use Rattle.masked_map.specs.declared.fields.CompactFields.{CompactFields}
use Rattle.masked_map.specs.Compact.{list_of}

abbrev pub compact_writes : CompactFields → List (List ℕ)
compact_writes f = list_writes (list_of f)

-- equal ones feed the same
pub compact_writes_alike : (a b : CompactFields) → IsTrue (same (list_of a) (list_of b)) → compact_writes a ≡ compact_writes b
compact_writes_alike = (on_Alike (λ (f : CompactFields). list_of f) (same_Alike {E = same} list_writes Decides-same)).fed
