-- Rows: what datapath actions make of the key of a frame.
use Rattle.std.proofs.Common.{◌≡◌, ℕ, true, false, List, [], ◌∷◌, refl}
use Rattle.spec_keys.specs.declared.field_id.FieldId.TheVariants as field
use Rattle.spec_keys.specs.Keys.{none}
use Rattle.spec_actions.specs.declared.action.DpAction.TheVariants.{Output, PopVlan, PushVlan, Set}
use Rattle.spec_tables.proofs.Packets.{Stated, is, key_of}
use Rattle.table_laws.specs.Applied.{applied, is_frame_field, is_proper}

-- a UDP packet from 10.0.0.1, with these further fields
abbrev udp : List Stated → List ℕ
udp more = key_of (is field.InPort 1 ∷ is field.DlType 0x0800 ∷ is field.NwSrc 0x0a000001 ∷ is field.NwProto 17 ∷ more)

a_set_writes_the_bits_of_its_mask :
    applied (Set field.NwSrc 8 8 ∷ Output 2 ∷ []) (udp []) ≡ key_of (is field.InPort 1 ∷ is field.DlType 0x0800 ∷ is field.NwSrc 0x0a000009 ∷ is field.NwProto 17 ∷ [])
unfolding none key_of
a_set_writes_the_bits_of_its_mask = refl

a_push_gives_a_tag_and_a_pop_takes_it :
    (applied (PushVlan 0x8100 0x7005 ∷ []) (udp []) ≡ udp (is field.VlanTci 0x7005 ∷ is field.VlanTpid 0x8100 ∷ []))
    × (applied (PopVlan ∷ []) (udp (is field.VlanTci 0x7005 ∷ is field.VlanTpid 0x8100 ∷ [])) ≡ udp [])
unfolding none key_of
a_push_gives_a_tag_and_a_pop_takes_it = (refl, refl)

a_second_push_goes_around_the_first_tag :
    applied (PushVlan 0x8100 0x1005 ∷ PushVlan 0x88a8 0x1064 ∷ []) (udp [])
    ≡ udp (is field.VlanTci 0x1064 ∷ is field.VlanTpid 0x88a8 ∷ is field.VlanTci2 0x1005 ∷ is field.VlanTpid2 0x8100 ∷ [])
unfolding none key_of
a_second_push_goes_around_the_first_tag = refl

actions_apply_in_order :
    applied (Set field.TpDst 1 0xff ∷ Set field.TpDst 2 0xff ∷ []) (udp (is field.TpDst 0x3535 ∷ [])) ≡ udp (is field.TpDst 0x3502 ∷ [])
unfolding none key_of
actions_apply_in_order = refl

what_decides_how_a_frame_is_parsed_is_never_written :
    (is_frame_field field.DlType ≡ false)
    × (is_frame_field field.NwProto ≡ false)
    × (is_frame_field field.IpFrag ≡ false)
    × (is_frame_field field.InPort ≡ false)
    × (is_frame_field field.Reg0 ≡ false)
what_decides_how_a_frame_is_parsed_is_never_written = (refl, refl, refl, refl, refl)

tags_addresses_and_ports_are_written :
    (is_frame_field field.VlanTci ≡ true)
    × (is_frame_field field.DlSrc ≡ true)
    × (is_frame_field field.Ipv6Dst ≡ true)
    × (is_frame_field field.ArpTha ≡ true)
    × (is_frame_field field.TpDst ≡ true)
tags_addresses_and_ports_are_written = (refl, refl, refl, refl, refl)

half_a_tag_is_not_proper :
    (is_proper (udp []) ≡ true)
    × (is_proper (udp (is field.VlanTci 0xb005 ∷ [])) ≡ true)
    × (is_proper (udp (is field.VlanTci 0xa005 ∷ [])) ≡ false)
    × (is_proper (udp (is field.VlanTci 0xb005 ∷ is field.VlanTci2 0x1005 ∷ [])) ≡ true)
    × (is_proper (udp (is field.VlanTci2 0x1005 ∷ [])) ≡ false)
    × (is_proper (udp (is field.VlanTpid 0x8100 ∷ [])) ≡ false)
unfolding none key_of
half_a_tag_is_not_proper = (refl, refl, refl, refl, refl, refl)
