-- What the numbers of a key or a mask feed to a hash function: words that neighbours share, and none for parts that are 0.
use Rattle.std.specs.Prelude.{ℕ, ◌+◌, ◌*◌, ◌/◌, ◌%◌, ◌^◌, List, [], ◌++◌, if◌then◌else◌}
use Rattle.std.specs.Hash as fed
use Rattle.spec_keys.specs.declared.field_id.FieldId.TheVariants.{InPort, Metadata, Reg0, Reg1, Reg2, Reg3, Reg4, Reg5, Reg6, Reg7, Reg8, Reg9, Reg10, Reg11, Reg12, Reg13, Reg14, Reg15, DlSrc, DlDst, DlType, VlanTci, NwSrc, NwDst, Ipv6Src, Ipv6Dst, NwProto, NwTos, NwTtl, IpFrag, ArpSha, ArpTha, TpSrc, TpDst, VlanTpid, VlanTci2, VlanTpid2}
use Rattle.spec_keys.specs.Fields.{register_fields}
use Rattle.spec_keys.specs.Keys.{value_of, are_zero}
use Rattle.ovs_fields.specs.Runs.{ipv6_addresses, arp_addresses, inner_tag}

-- two numbers of n bits in one, the first in its higher half
abbrev pub joined_words : ℕ → ℕ → ℕ → ℕ
joined_words n high low = high * 2 ^ n + low

abbrev pub header_writes : List ℕ → List (List ℕ)
header_writes l =
    fed.u128 (joined_words 64 (value_of l DlSrc) (value_of l DlDst))
    ++ (fed.u128 (joined_words 64 (joined_words 32 (joined_words 16 (value_of l VlanTpid) (value_of l VlanTci))
    (joined_words 16 (joined_words 8 (value_of l NwProto) (value_of l NwTos)) (joined_words 8 (value_of l NwTtl) (value_of l IpFrag))))
    (joined_words 32 (value_of l NwSrc) (value_of l NwDst)))
    ++ fed.u64 (joined_words 32 (joined_words 16 (value_of l InPort) (value_of l DlType)) (joined_words 16 (value_of l TpSrc) (value_of l TpDst))))

abbrev pub inner_tag_writes : List ℕ → List (List ℕ)
inner_tag_writes l = if are_zero inner_tag l then [] else fed.u32 (joined_words 16 (value_of l VlanTpid2) (value_of l VlanTci2))

-- a number of 128 bits as two words, its higher half first
abbrev pub halves_writes : ℕ → List (List ℕ)
halves_writes n = fed.u64 (n / 2 ^ 64) ++ fed.u64 (n % 2 ^ 64)

abbrev pub ipv6_writes : List ℕ → List (List ℕ)
ipv6_writes l = if are_zero ipv6_addresses l then [] else halves_writes (value_of l Ipv6Src) ++ halves_writes (value_of l Ipv6Dst)

abbrev pub arp_writes : List ℕ → List (List ℕ)
arp_writes l = if are_zero arp_addresses l then [] else fed.u128 (joined_words 64 (value_of l ArpSha) (value_of l ArpTha))

abbrev pub register_writes : List ℕ → List (List ℕ)
register_writes l =
    if are_zero register_fields l then [] else
    fed.u64 (value_of l Metadata)
    ++ (fed.u64 (joined_words 32 (value_of l Reg0) (value_of l Reg1))
    ++ (fed.u64 (joined_words 32 (value_of l Reg2) (value_of l Reg3))
    ++ (fed.u64 (joined_words 32 (value_of l Reg4) (value_of l Reg5))
    ++ (fed.u64 (joined_words 32 (value_of l Reg6) (value_of l Reg7))
    ++ (fed.u64 (joined_words 32 (value_of l Reg8) (value_of l Reg9))
    ++ (fed.u64 (joined_words 32 (value_of l Reg10) (value_of l Reg11))
    ++ (fed.u64 (joined_words 32 (value_of l Reg12) (value_of l Reg13))
    ++ fed.u64 (joined_words 32 (value_of l Reg14) (value_of l Reg15)))))))))

abbrev pub list_writes : List ℕ → List (List ℕ)
list_writes l = header_writes l ++ (inner_tag_writes l ++ (ipv6_writes l ++ (arp_writes l ++ register_writes l)))
