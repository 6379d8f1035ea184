-- The part of a mask that is of packets.
use Rattle.std.proofs.Common.{◌≡◌, List, [], ◌∷◌}
use Rattle.std.specs.Int.Bits.{or_zero_l, or_zero_r}
use Rattle.spec_keys.specs.declared.field_id.FieldId.{FieldId}
use Rattle.spec_keys.specs.declared.field_id.FieldId.TheVariants.{InPort, DlSrc, DlDst, DlType, VlanTci, NwSrc, NwDst, Ipv6Src, Ipv6Dst, NwProto, NwTos, NwTtl, IpFrag, ArpSha, ArpTha, TpSrc, TpDst, VlanTpid, VlanTci2, VlanTpid2}
use Rattle.spec_keys.specs.Fields.{register_fields}
use Rattle.spec_keys.specs.Keys.{none, joined, only_at}
use Rattle.spec_xlate.specs.Consulted.{without}
use Rattle.ovs_fields.specs.declared.fields.Fields.{Fields}
use Rattle.ovs_fields.specs.Lists.{list_of}
use Rattle.xlate_pipeline.specs.Parts.{with_part}

abbrev pub packet_fields : List FieldId
packet_fields = InPort ∷ DlSrc ∷ DlDst ∷ DlType ∷ VlanTci ∷ NwSrc ∷ NwDst ∷ Ipv6Src ∷ Ipv6Dst ∷ NwProto ∷ NwTos ∷ NwTtl ∷ IpFrag ∷ ArpSha ∷ ArpTha ∷ TpSrc ∷ TpDst ∷ VlanTpid ∷ VlanTci2 ∷ VlanTpid2 ∷ []

-- what it has of them is all but metadata and the registers
pub with_part-without : (f : Fields) → with_part (list_of f) packet_fields none ≡ without register_fields (list_of f)
unfolding none joined only_at
with_part-without f = simp (or_zero_l, or_zero_r)
