-- The packed numbers as a list, in the order of the fields.
use Rattle.std.specs.Prelude.{ℕ, List, [], ◌∷◌}
use Rattle.ovs_fields.specs.declared.fields.Fields.{Fields}

abbrev pub list_of : Fields → List ℕ
list_of f =
    f.in_port ∷ f.metadata ∷ f.reg0 ∷ f.reg1 ∷ f.reg2 ∷ f.reg3 ∷ f.reg4 ∷ f.reg5 ∷ f.reg6 ∷ f.reg7 ∷
    f.reg8 ∷ f.reg9 ∷ f.reg10 ∷ f.reg11 ∷ f.reg12 ∷ f.reg13 ∷ f.reg14 ∷ f.reg15 ∷ f.dl_src ∷ f.dl_dst ∷
    f.dl_type ∷ f.vlan_tci ∷ f.nw_src ∷ f.nw_dst ∷ f.ipv6_src ∷ f.ipv6_dst ∷ f.nw_proto ∷ f.nw_tos ∷
    f.nw_ttl ∷ f.ip_frag ∷ f.arp_sha ∷ f.arp_tha ∷ f.tp_src ∷ f.tp_dst ∷ f.vlan_tpid ∷ f.vlan_tci2 ∷ f.vlan_tpid2 ∷ []

-- the same from a field on: long tests over the fields are proved part by part
abbrev pub from_reg7 : Fields → List ℕ
from_reg7 f =
    f.reg7 ∷ f.reg8 ∷ f.reg9 ∷ f.reg10 ∷ f.reg11 ∷ f.reg12 ∷ f.reg13 ∷ f.reg14 ∷ f.reg15 ∷ f.dl_src ∷ f.dl_dst ∷
    f.dl_type ∷ f.vlan_tci ∷ f.nw_src ∷ f.nw_dst ∷ f.ipv6_src ∷ f.ipv6_dst ∷ f.nw_proto ∷ f.nw_tos ∷ f.nw_ttl ∷
    f.ip_frag ∷ f.arp_sha ∷ f.arp_tha ∷ f.tp_src ∷ f.tp_dst ∷ f.vlan_tpid ∷ f.vlan_tci2 ∷ f.vlan_tpid2 ∷ []

abbrev pub from_dl_src : Fields → List ℕ
from_dl_src f =
    f.dl_src ∷ f.dl_dst ∷ f.dl_type ∷ f.vlan_tci ∷ f.nw_src ∷ f.nw_dst ∷ f.ipv6_src ∷ f.ipv6_dst ∷ f.nw_proto ∷
    f.nw_tos ∷ f.nw_ttl ∷ f.ip_frag ∷ f.arp_sha ∷ f.arp_tha ∷ f.tp_src ∷ f.tp_dst ∷ f.vlan_tpid ∷ f.vlan_tci2 ∷
    f.vlan_tpid2 ∷ []

abbrev pub from_nw_tos : Fields → List ℕ
from_nw_tos f =
    f.nw_tos ∷ f.nw_ttl ∷ f.ip_frag ∷ f.arp_sha ∷ f.arp_tha ∷ f.tp_src ∷ f.tp_dst ∷ f.vlan_tpid ∷ f.vlan_tci2 ∷
    f.vlan_tpid2 ∷ []
