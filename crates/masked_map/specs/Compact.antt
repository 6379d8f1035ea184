-- The compact fields as a list, in the order of all fields. The wide ones are 0.
use Rattle.std.specs.Prelude.{ℕ, List, [], ◌∷◌, ◌++◌}
use Rattle.spec_keys.specs.declared.field_id.FieldId.{FieldId}
use Rattle.spec_keys.specs.declared.field_id.FieldId.TheVariants.{InPort, DlSrc, DlDst, DlType, VlanTci, NwSrc, NwDst, NwProto, NwTos, NwTtl, IpFrag, TpSrc, TpDst, VlanTpid}
use Rattle.spec_keys.specs.Fields.{register_fields}
use Rattle.spec_keys.specs.Keys.{value_of}
use Rattle.ovs_fields.specs.Runs.{ipv6_addresses, arp_addresses, inner_tag}
use Rattle.masked_map.specs.declared.fields.CompactFields.{CompactFields}

-- the fields that are 0 in most keys and masks
abbrev pub wide_fields : List FieldId
wide_fields = register_fields ++ (ipv6_addresses ++ (arp_addresses ++ inner_tag))

abbrev pub list_of : CompactFields → List ℕ
list_of f =
    f.in_port ∷ 0 ∷ 0 ∷ 0 ∷ 0 ∷ 0 ∷ 0 ∷ 0 ∷ 0 ∷ 0 ∷ 0 ∷ 0 ∷ 0 ∷ 0 ∷ 0 ∷ 0 ∷ 0 ∷ 0 ∷ f.dl_src ∷ f.dl_dst ∷
    f.dl_type ∷ f.vlan_tci ∷ f.nw_src ∷ f.nw_dst ∷ 0 ∷ 0 ∷ f.nw_proto ∷ f.nw_tos ∷
    f.nw_ttl ∷ f.ip_frag ∷ 0 ∷ 0 ∷ f.tp_src ∷ f.tp_dst ∷ f.vlan_tpid ∷ 0 ∷ 0 ∷ []

-- the numbers of a key with 0 in the wide fields
abbrev pub compacted : List ℕ → List ℕ
compacted l =
    value_of l InPort ∷ 0 ∷ 0 ∷ 0 ∷ 0 ∷ 0 ∷ 0 ∷ 0 ∷ 0 ∷ 0 ∷ 0 ∷ 0 ∷ 0 ∷ 0 ∷ 0 ∷ 0 ∷ 0 ∷ 0 ∷ value_of l DlSrc ∷ value_of l DlDst ∷
    value_of l DlType ∷ value_of l VlanTci ∷ value_of l NwSrc ∷ value_of l NwDst ∷ 0 ∷ 0 ∷ value_of l NwProto ∷ value_of l NwTos ∷
    value_of l NwTtl ∷ value_of l IpFrag ∷ 0 ∷ 0 ∷ value_of l TpSrc ∷ value_of l TpDst ∷ value_of l VlanTpid ∷ 0 ∷ 0 ∷ []
