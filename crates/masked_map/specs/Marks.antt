-- The words of a key: its compact fields, in the words that they feed to a hash function. And its mark, which is made of them.
use Rattle.std.specs.Prelude.{◌≡◌, ℕ, ◌<◌, ◌+◌, ◌*◌, ◌%◌, ◌^◌, List}
use Rattle.spec_keys.specs.declared.field_id.FieldId.TheVariants.{InPort, DlSrc, DlDst, DlType, VlanTci, NwSrc, NwDst, NwProto, NwTos, NwTtl, IpFrag, TpSrc, TpDst, VlanTpid}
use Rattle.spec_keys.specs.Keys.{value_of}
use Rattle.ovs_fields.specs.Feeding.{joined_words}
use Rattle.masked_map.specs.declared.fields.CompactFields.{CompactFields}
use Rattle.masked_map.specs.declared.key_words.KeyWords.{KeyWords}

abbrev pub tag_of : List ℕ → ℕ
tag_of l = joined_words 16 (value_of l VlanTpid) (value_of l VlanTci)

abbrev pub ip_of : List ℕ → ℕ
ip_of l = joined_words 16 (joined_words 8 (value_of l NwProto) (value_of l NwTos)) (joined_words 8 (value_of l NwTtl) (value_of l IpFrag))

abbrev pub header_of : List ℕ → ℕ
header_of l = joined_words 32 (tag_of l) (ip_of l)

abbrev pub addresses_of : List ℕ → ℕ
addresses_of l = joined_words 32 (value_of l NwSrc) (value_of l NwDst)

abbrev pub ports_of : List ℕ → ℕ
ports_of l = joined_words 32 (joined_words 16 (value_of l InPort) (value_of l DlType)) (joined_words 16 (value_of l TpSrc) (value_of l TpDst))

-- they are those of a key with these numbers
pub record AreWordsOf (w : KeyWords) (l : List ℕ) : Type 0 where
  pub src : w.dl_src ≡ value_of l DlSrc
  pub dst : w.dl_dst ≡ value_of l DlDst
  pub header_is : w.header ≡ header_of l
  pub addresses_are : w.addresses ≡ addresses_of l
  pub ports_are : w.ports ≡ ports_of l

-- ---- each number in a word has room beside the others

pub record FitsHeader (f : CompactFields) : Type 0 where
  pub tci : f.vlan_tci < 2 ^ 16
  pub proto : f.nw_proto < 2 ^ 8
  pub tos : f.nw_tos < 2 ^ 8
  pub ttl : f.nw_ttl < 2 ^ 8
  pub frag : f.ip_frag < 2 ^ 8

pub record FitsAddresses (f : CompactFields) : Type 0 where
  pub dst : f.nw_dst < 2 ^ 32

pub record FitsPorts (f : CompactFields) : Type 0 where
  pub ether : f.dl_type < 2 ^ 16
  pub src : f.tp_src < 2 ^ 16
  pub dst : f.tp_dst < 2 ^ 16

pub record Fits (f : CompactFields) : Type 0 where
  pub header : FitsHeader f
  pub addresses : FitsAddresses f
  pub ports : FitsPorts f

-- a mark with one word more: a polynomial of the words modulo 2^64
abbrev pub mixed_in : ℕ → ℕ → ℕ
mixed_in mark word = (mark + word) % 2 ^ 64 * 11400714819323198485 % 2 ^ 64

unfoldable pub mark_of : List ℕ → ℕ
mark_of l =
    mixed_in (mixed_in (mixed_in (mixed_in (mixed_in 0 (value_of l DlSrc)) (value_of l DlDst)) (header_of l)) (addresses_of l)) (ports_of l)
