use Rattle.std.proofs.Common.{refl, lit<, ◌∙◌}
use Rattle.spec_keys.specs.declared.field_id.FieldId.TheVariants.{InPort, DlSrc, DlDst, DlType, VlanTci, NwSrc, NwDst, NwProto, NwTos, NwTtl, IpFrag, TpSrc, TpDst, VlanTpid}
use Rattle.ovs_fields.specs.Packed.{bits}
use Rattle.ovs_fields.proofs.KeyLaws.{within_width}
use Rattle.masked_map.specs.Compact.{list_of}
use Rattle.masked_map.proofs.CompactLaws.{add_one, joined-compact}
use Rattle.masked_map.proofs.compact_mask.CompactMask.add_to.Goals as goal

pub add-requires : goal.add-requires
add-requires c = within_width (list_of c.args.self.now.fields) InPort c.args.self.now.within

pub add-requires-2 : goal.add-requires-2
add-requires-2 c = within_width (list_of c.args.self.now.fields) DlSrc c.args.self.now.within

pub add-requires-3 : goal.add-requires-3
add-requires-3 c = within_width (list_of c.args.self.now.fields) DlDst c.args.self.now.within

pub add-requires-4 : goal.add-requires-4
add-requires-4 c = within_width (list_of c.args.self.now.fields) DlType c.args.self.now.within

pub add-requires-5 : goal.add-requires-5
add-requires-5 c = within_width (list_of c.args.self.now.fields) VlanTci c.args.self.now.within

pub add-requires-6 : goal.add-requires-6
add-requires-6 c = within_width (list_of c.args.self.now.fields) NwSrc c.args.self.now.within

pub add-requires-7 : goal.add-requires-7
add-requires-7 c = within_width (list_of c.args.self.now.fields) NwDst c.args.self.now.within

pub add-requires-8 : goal.add-requires-8
add-requires-8 c = within_width (list_of c.args.self.now.fields) NwProto c.args.self.now.within

pub add-requires-9 : goal.add-requires-9
add-requires-9 c = within_width (list_of c.args.self.now.fields) NwTos c.args.self.now.within

pub add-requires-10 : goal.add-requires-10
add-requires-10 c = within_width (list_of c.args.self.now.fields) NwTtl c.args.self.now.within

pub add-requires-11 : goal.add-requires-11
add-requires-11 c = within_width (list_of c.args.self.now.fields) IpFrag c.args.self.now.within

pub add-requires-12 : goal.add-requires-12
add-requires-12 c = within_width (list_of c.args.self.now.fields) TpSrc c.args.self.now.within

pub add-requires-13 : goal.add-requires-13
add-requires-13 c = within_width (list_of c.args.self.now.fields) TpDst c.args.self.now.within

pub add-requires-14 : goal.add-requires-14
add-requires-14 c = within_width (list_of c.args.self.now.fields) VlanTpid c.args.self.now.within

pub returns : goal.returns
returns c =
    let f = c.args.self.now.fields in
    let with_in_port = add_one _ _ (bits c.args.mask.now) 0 f.in_port (lit< tt) refl c.add.ensures in
    let with_dl_src = add_one _ _ _ 18 f.dl_src (lit< tt) with_in_port c.add-2.ensures in
    let with_dl_dst = add_one _ _ _ 19 f.dl_dst (lit< tt) with_dl_src c.add-3.ensures in
    let with_dl_type = add_one _ _ _ 20 f.dl_type (lit< tt) with_dl_dst c.add-4.ensures in
    let with_vlan_tci = add_one _ _ _ 21 f.vlan_tci (lit< tt) with_dl_type c.add-5.ensures in
    let with_nw_src = add_one _ _ _ 22 f.nw_src (lit< tt) with_vlan_tci c.add-6.ensures in
    let with_nw_dst = add_one _ _ _ 23 f.nw_dst (lit< tt) with_nw_src c.add-7.ensures in
    let with_nw_proto = add_one _ _ _ 26 f.nw_proto (lit< tt) with_nw_dst c.add-8.ensures in
    let with_nw_tos = add_one _ _ _ 27 f.nw_tos (lit< tt) with_nw_proto c.add-9.ensures in
    let with_nw_ttl = add_one _ _ _ 28 f.nw_ttl (lit< tt) with_nw_tos c.add-10.ensures in
    let with_ip_frag = add_one _ _ _ 29 f.ip_frag (lit< tt) with_nw_ttl c.add-11.ensures in
    let with_tp_src = add_one _ _ _ 32 f.tp_src (lit< tt) with_ip_frag c.add-12.ensures in
    let with_tp_dst = add_one _ _ _ 33 f.tp_dst (lit< tt) with_tp_src c.add-13.ensures in
    let with_vlan_tpid = add_one _ _ _ 34 f.vlan_tpid (lit< tt) with_tp_dst c.add-14.ensures in
    with_vlan_tpid ∙ joined-compact c.args.mask.now.fields f
