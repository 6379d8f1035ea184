-- The fields in parts, one behind the other.
use Rattle.std.specs.Prelude.{List, [], ◌∷◌}
use Rattle.spec_keys.specs.declared.field_id.FieldId.{FieldId}
use Rattle.spec_keys.specs.declared.field_id.FieldId.TheVariants.{DlSrc, DlDst, DlType, VlanTci, NwSrc, NwDst, Ipv6Src, Ipv6Dst, NwProto, NwTos, NwTtl, IpFrag, ArpSha, ArpTha, TpSrc, TpDst, VlanTpid, VlanTci2, VlanTpid2}
use Rattle.spec_keys.specs.Fields.{register_fields}

abbrev pub registers : List FieldId
registers = register_fields

abbrev pub ethernet : List FieldId
ethernet = DlSrc ∷ DlDst ∷ DlType ∷ VlanTci ∷ []

abbrev pub network : List FieldId
network = NwSrc ∷ NwDst ∷ Ipv6Src ∷ Ipv6Dst ∷ NwProto ∷ NwTos ∷ NwTtl ∷ IpFrag ∷ []

abbrev pub others : List FieldId
others = ArpSha ∷ ArpTha ∷ TpSrc ∷ TpDst ∷ VlanTpid ∷ VlanTci2 ∷ VlanTpid2 ∷ []
