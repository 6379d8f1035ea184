-- What contracts see of the packed types: lists with a number for each field, in the order of the fields.
use Rattle.std.specs.Prelude.{ℕ, List}
use Rattle.ovs_fields.specs.declared.key.Key.{Key}
use Rattle.ovs_fields.specs.declared.mask.Mask.{Mask}
use Rattle.ovs_fields.specs.Lists.{list_of}

-- the numbers of a key
abbrev pub numbers : Key → List ℕ
numbers k = list_of k.fields

-- the bits of a mask
abbrev pub bits : Mask → List ℕ
bits m = list_of m.fields
