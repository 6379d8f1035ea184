-- Worked rows: what the definitions say of chosen fields, keys and masks. Each row tells a wrong definition.
use Rattle.std.specs.Prelude.{◌≡◌, ℕ, true, false, not, List, [], ◌∷◌, length, map, filter, drop, slice_set, refl}
use Rattle.std.specs.List.{range_with_len}
use Rattle.std.proofs.Common.{lit<}
use Rattle.std.proofs.Math.Nat.{ne_of_lt}
use Rattle.spec_keys.specs.declared.field_id.FieldId.{FieldId}
use Rattle.spec_keys.specs.declared.field_id.FieldId.TheVariants.{InPort, Metadata, Reg0, Reg1, Reg2, Reg3, Reg4, Reg5, Reg6, Reg7, Reg8, Reg9, Reg10, Reg11, Reg12, Reg13, Reg14, Reg15, DlSrc, DlDst, DlType, VlanTci, NwSrc, NwDst, Ipv6Src, Ipv6Dst, NwProto, NwTos, NwTtl, IpFrag, ArpSha, ArpTha, TpSrc, TpDst, VlanTpid, VlanTci2, VlanTpid2}
use Rattle.spec_keys.specs.Fields.{Decimal, Hexadecimal, FourDigits, Mac, Ipv4, Ipv6, Fragment, field_of, place_of, width_of, stage_of, fields, register_fields, field_count, widths, stages}
use Rattle.spec_keys.specs.Keys.{value_of, none, masked, same, agree, joined, common_bits, covers, overlap, only_at, are_zero, IsKey, IsClean}
use Rattle.spec_keys.specs.Hash.{hash_bytes, field_bytes, key_hash}

-- The table of the fields.
ip_frag_has_two_bits : width_of IpFrag ≡ 2
ip_frag_has_two_bits = refl

ipv6_src_has_128_bits : width_of Ipv6Src ≡ 128
ipv6_src_has_128_bits = refl

arp_sha_is_of_stage_two : stage_of ArpSha ≡ 2
arp_sha_is_of_stage_two = refl

tp_dst_is_of_stage_three : stage_of TpDst ≡ 3
tp_dst_is_of_stage_three = refl

a_key_has_37_fields : field_count ≡ 37
a_key_has_37_fields = refl

fields_stand_in_their_places : map place_of fields ≡ range_with_len 0 field_count
fields_stand_in_their_places = refl

width_of_each_field : widths ≡
    16 ∷ 64 ∷ 32 ∷ 32 ∷ 32 ∷ 32 ∷ 32 ∷ 32 ∷ 32 ∷ 32 ∷ 32 ∷ 32 ∷ 32 ∷ 32 ∷ 32 ∷ 32 ∷ 32 ∷ 32 ∷
    48 ∷ 48 ∷ 16 ∷ 16 ∷ 32 ∷ 32 ∷ 128 ∷ 128 ∷ 8 ∷ 8 ∷ 8 ∷ 2 ∷ 48 ∷ 48 ∷ 16 ∷ 16 ∷ 16 ∷ 16 ∷ 16 ∷ []
unfolding widths
width_of_each_field = refl

stage_of_each_field : stages ≡
    0 ∷ 0 ∷ 0 ∷ 0 ∷ 0 ∷ 0 ∷ 0 ∷ 0 ∷ 0 ∷ 0 ∷ 0 ∷ 0 ∷ 0 ∷ 0 ∷ 0 ∷ 0 ∷ 0 ∷ 0 ∷
    1 ∷ 1 ∷ 1 ∷ 1 ∷ 2 ∷ 2 ∷ 2 ∷ 2 ∷ 2 ∷ 2 ∷ 2 ∷ 2 ∷ 2 ∷ 2 ∷ 3 ∷ 3 ∷ 1 ∷ 1 ∷ 1 ∷ []
unfolding stages
stage_of_each_field = refl

form_of_each_kind_of_field :
    map (λ f. (field_of f).form)
    (InPort ∷ Metadata ∷ Reg15 ∷ DlSrc ∷ DlDst ∷ DlType ∷ VlanTci ∷ NwSrc ∷ NwDst ∷ Ipv6Src ∷
    Ipv6Dst ∷ NwProto ∷ NwTos ∷ NwTtl ∷ IpFrag ∷ ArpSha ∷ ArpTha ∷ TpSrc ∷ TpDst ∷ VlanTpid ∷ VlanTci2 ∷ VlanTpid2 ∷ [])
    ≡ Decimal ∷ Hexadecimal ∷ Hexadecimal ∷ Mac ∷ Mac ∷ FourDigits ∷ FourDigits ∷ Ipv4 ∷ Ipv4 ∷ Ipv6 ∷
    Ipv6 ∷ Decimal ∷ Decimal ∷ Decimal ∷ Fragment ∷ Mac ∷ Mac ∷ Decimal ∷ Decimal ∷ FourDigits ∷ FourDigits ∷ FourDigits ∷ []
form_of_each_kind_of_field = refl

-- the list with a number for a field
abbrev with_field : List ℕ → FieldId → ℕ → List ℕ
with_field numbers f n = slice_set numbers (place_of f) n

-- masks: prefixes of nw_dst, by their lengths, and tp_dst whole
abbrev slash_16 : List ℕ
slash_16 = with_field none NwDst 0xffff0000

abbrev slash_24 : List ℕ
slash_24 = with_field none NwDst 0xffffff00

abbrev slash_30 : List ℕ
slash_30 = with_field none NwDst 0xfffffffc

abbrev slash_31 : List ℕ
slash_31 = with_field none NwDst 0xfffffffe

abbrev whole_tp_dst : List ℕ
whole_tp_dst = with_field none TpDst 0xffff

-- two keys: nw_dst=10.0.0.1,tp_dst=53 and nw_dst=10.0.0.2,tp_dst=80
abbrev one : List ℕ
one = with_field (with_field none NwDst 0x0a000001) TpDst 53

abbrev two : List ℕ
two = with_field (with_field none NwDst 0x0a000002) TpDst 80

-- Keys and masks.
none_has_a_number_for_each_field : length none ≡ field_count
unfolding none
none_has_a_number_for_each_field = refl

none_is_zero_in_the_last_field : value_of none TpDst ≡ 0
unfolding none
none_is_zero_in_the_last_field = refl

value_stands_in_its_field : value_of two NwDst ≡ 0x0a000002
unfolding none
value_stands_in_its_field = refl

keys_agree_on_a_prefix : agree one two slash_30 ≡ true
unfolding none same masked
keys_agree_on_a_prefix = refl

keys_differ_in_one_bit_more : agree one two slash_31 ≡ false
unfolding none same masked
keys_differ_in_one_bit_more = refl

keys_differ_in_the_last_field : agree one two (joined slash_30 whole_tp_dst) ≡ false
unfolding none same masked joined
keys_differ_in_the_last_field = refl

every_key_agrees_where_nothing_counts : agree one two none ≡ true
unfolding none same masked
every_key_agrees_where_nothing_counts = refl

a_mask_that_ends_early_has_no_more_bits : agree one two (only_at (place_of NwSrc) 0xffffffff) ≡ true
unfolding none same masked only_at
a_mask_that_ends_early_has_no_more_bits = refl

bits_of_either_mask : joined (only_at 1 5) (only_at 2 6) ≡ 0 ∷ 5 ∷ 6 ∷ []
unfolding joined only_at
bits_of_either_mask = refl

bits_of_both_masks : common_bits (0 ∷ 5 ∷ 6 ∷ []) (1 ∷ 6 ∷ 6 ∷ []) ≡ 0 ∷ 4 ∷ 6 ∷ []
unfolding masked
bits_of_both_masks = refl

a_longer_prefix_covers_a_shorter_one : covers slash_24 slash_16 ≡ true
unfolding none same joined
a_longer_prefix_covers_a_shorter_one = refl

a_shorter_prefix_covers_no_longer_one : covers slash_16 slash_24 ≡ false
unfolding none same joined
a_shorter_prefix_covers_no_longer_one = refl

a_mask_covers_itself : covers whole_tp_dst whole_tp_dst ≡ true
unfolding none same joined
a_mask_covers_itself = refl

a_list_is_no_longer_one : same (only_at 0 0) (only_at 1 0) ≡ false
unfolding same only_at
a_list_is_no_longer_one = refl

-- nw_dst=10.0.0.0/24 beside 10.0.1.0/16 and 10.0.1.0/24, and beside tp_dst=80
prefixes_overlap_where_the_shorter_agrees :
    overlap (with_field none NwDst 0x0a000000) slash_24 (with_field none NwDst 0x0a000100) slash_16
    ≡ true
unfolding none same masked
prefixes_overlap_where_the_shorter_agrees = refl

prefixes_that_differ_do_not_overlap :
    overlap (with_field none NwDst 0x0a000000) slash_24 (with_field none NwDst 0x0a000100) slash_24
    ≡ false
unfolding none same masked
prefixes_that_differ_do_not_overlap = refl

masks_with_nothing_in_common_overlap : overlap one slash_24 two whole_tp_dst ≡ true
unfolding none same masked
masks_with_nothing_in_common_overlap = refl

a_number_beyond_its_width_is_no_key : IsKey (with_field none IpFrag 4) → ⊥
unfolding none widths
a_number_beyond_its_width_is_no_key is_key = ne_of_lt (is_key.fit 29) refl

a_list_without_its_last_number_is_no_key : IsKey (drop 1 none) → ⊥
unfolding none
a_list_without_its_last_number_is_no_key is_key = ne_of_lt (lit< tt) is_key.fields

a_key_with_a_port_is_clean : IsClean (with_field none InPort 5)
unfolding none
a_key_with_a_port_is_clean = refl

-- the fields that are 0 in every clean key
metadata_and_the_registers_are_never_in_a_clean_key :
    filter (λ f. not (are_zero register_fields (with_field none f 1))) fields
    ≡ Metadata ∷ Reg0 ∷ Reg1 ∷ Reg2 ∷ Reg3 ∷ Reg4 ∷ Reg5 ∷ Reg6 ∷ Reg7 ∷ Reg8 ∷ Reg9 ∷ Reg10 ∷ Reg11 ∷ Reg12 ∷ Reg13 ∷ Reg14 ∷ Reg15 ∷ []
unfolding none
metadata_and_the_registers_are_never_in_a_clean_key = refl

-- The hash: numbers computed by an independent FNV-1a.
hash_of_the_zero_key : key_hash none ≡ 0xeb4f61260020abd5
unfolding none key_hash hash_bytes field_bytes
hash_of_the_zero_key = refl

hash_of_ip_frag : key_hash (with_field none IpFrag 3) ≡ 0x8041fc6a71947704
unfolding none key_hash hash_bytes field_bytes
hash_of_ip_frag = refl

-- a key with a number in every field
hash_of_a_full_key :
    key_hash
    (0x0102 ∷ 0x0304050607080910 ∷ 0x01010101 ∷ 0x02020202 ∷ 0x03030303 ∷ 0x04040404 ∷
    0x05050505 ∷ 0x06060606 ∷ 0x07070707 ∷ 0x08080808 ∷ 0x09090909 ∷ 0x0a0a0a0a ∷
    0x0b0b0b0b ∷ 0x0c0c0c0c ∷ 0x0d0d0d0d ∷ 0x0e0e0e0e ∷ 0x0f0f0f0f ∷ 0x10101010 ∷
    0x020000000001 ∷ 0x020000000002 ∷ 0x0800 ∷ 0x100a ∷ 0x0a000001 ∷ 0x0a000002 ∷
    0x20010db8000000000000000000000001 ∷ 0x20010db8000000000000000000000002 ∷ 17 ∷ 0xb8 ∷ 64 ∷ 1 ∷
    0x020000000003 ∷ 0x020000000004 ∷ 1000 ∷ 53 ∷ 0x88a8 ∷ 0x1014 ∷ 0x8100 ∷ [])
    ≡ 0xf1b9c7e0bb236e09
unfolding key_hash hash_bytes field_bytes
hash_of_a_full_key = refl
