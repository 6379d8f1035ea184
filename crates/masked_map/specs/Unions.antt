-- The bits of several masks, of which those of compact masks stand apart.
use Rattle.std.specs.Prelude.{ℕ, List}
use Rattle.spec_keys.specs.Keys.{joined}
use Rattle.ovs_fields.specs.Packed.{bits}
use Rattle.masked_map.specs.declared.mask_union.MaskUnion.{MaskUnion}
use Rattle.masked_map.specs.Compact.{list_of}

abbrev pub union_of : MaskUnion → List ℕ
union_of u = joined (bits u.rest) (list_of u.compact.fields)
