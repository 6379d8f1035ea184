-- What a key and a mask feed to a hash function.
use Rattle.std.specs.Prelude.{◌≡◌, ℕ, IsTrue, List}
use Rattle.std.specs.Hash.{on_Alike, same_Alike}
use Rattle.spec_keys.specs.Keys.{same}
use Rattle.ovs_fields.specs.declared.key.Key.{Key}
use Rattle.ovs_fields.specs.declared.mask.Mask.{Mask}
use Rattle.ovs_fields.specs.Equality.{Decides-same}
use Rattle.ovs_fields.specs.Feeding.{list_writes}
use Rattle.ovs_fields.specs.Packed.{numbers, bits}

abbrev pub key_writes : Key → List (List ℕ)
key_writes k = list_writes (numbers k)

abbrev pub mask_writes : Mask → List (List ℕ)
mask_writes m = list_writes (bits m)

-- equal keys feed the same, and so do equal masks
pub key_writes_alike : (a b : Key) → IsTrue (same (numbers a) (numbers b)) → key_writes a ≡ key_writes b
key_writes_alike = (on_Alike (λ (k : Key). numbers k) (same_Alike {E = same} list_writes Decides-same)).fed

pub mask_writes_alike : (a b : Mask) → IsTrue (same (bits a) (bits b)) → mask_writes a ≡ mask_writes b
mask_writes_alike = (on_Alike (λ (m : Mask). bits m) (same_Alike {E = same} list_writes Decides-same)).fed
