-- What a match states of a packet in a few bits.
use Rattle.std.specs.Prelude.{ℕ, ◌*◌, ◌/◌, ◌%◌, ◌^◌, ◌==◌, ◌&&◌, Bool, List, [], ◌∷◌, bit_and, bit_or, bit_xor}
use Rattle.std.specs.List.{fold}
use Rattle.spec_keys.specs.declared.field_id.FieldId.{FieldId}
use Rattle.spec_keys.specs.declared.field_id.FieldId.TheVariants.{InPort, Metadata, Reg0, Reg1, Reg2, Reg3, Reg4, Reg5, Reg6, Reg7, Reg8, Reg9, Reg10, Reg11, Reg12, Reg13, Reg14, Reg15, DlSrc, DlDst, DlType, VlanTci, NwSrc, NwDst, Ipv6Src, Ipv6Dst, NwProto, NwTos, NwTtl, IpFrag, ArpSha, ArpTha, TpSrc, TpDst, VlanTpid, VlanTci2, VlanTpid2}
use Rattle.spec_keys.specs.Fields.{fields}
use Rattle.spec_keys.specs.Keys.{value_of}
use Rattle.rule_tables.specs.declared.signatures.signature.Signature.{Signature}

-- how far a field is shifted
abbrev pub shift_of : FieldId → ℕ
shift_of InPort = 32
shift_of Metadata = 0
shift_of Reg0 = 0
shift_of Reg1 = 32
shift_of Reg2 = 0
shift_of Reg3 = 32
shift_of Reg4 = 0
shift_of Reg5 = 32
shift_of Reg6 = 0
shift_of Reg7 = 32
shift_of Reg8 = 0
shift_of Reg9 = 32
shift_of Reg10 = 0
shift_of Reg11 = 32
shift_of Reg12 = 0
shift_of Reg13 = 32
shift_of Reg14 = 0
shift_of Reg15 = 32
shift_of DlSrc = 0
shift_of DlDst = 16
shift_of DlType = 48
shift_of VlanTci = 32
shift_of NwSrc = 0
shift_of NwDst = 32
shift_of Ipv6Src = 0
shift_of Ipv6Dst = 0
shift_of NwProto = 24
shift_of NwTos = 16
shift_of NwTtl = 16
shift_of IpFrag = 24
shift_of ArpSha = 0
shift_of ArpTha = 16
shift_of TpSrc = 16
shift_of TpDst = 8
shift_of VlanTpid = 48
shift_of VlanTci2 = 0
shift_of VlanTpid2 = 16

-- the bits of a number of a field in a word of 128 bits
abbrev pub shifted : FieldId → ℕ → ℕ
shifted f n = n * 2 ^ shift_of f % 2 ^ 128

-- the bits that fields have, laid over those of a word
abbrev pub laid_on : ℕ → (FieldId → ℕ) → List FieldId → ℕ
laid_on before of fs = fold (λ (word : ℕ) (f : FieldId). bit_or word (shifted f (of f))) before fs

-- and over one another
abbrev pub superimposed : (FieldId → ℕ) → List FieldId → ℕ
superimposed of fs = laid_on 0 of fs

-- all fields, in four parts
abbrev pub in_port_to_reg6 : List FieldId
in_port_to_reg6 = InPort ∷ Metadata ∷ Reg0 ∷ Reg1 ∷ Reg2 ∷ Reg3 ∷ Reg4 ∷ Reg5 ∷ Reg6 ∷ []

abbrev pub reg7_to_reg15 : List FieldId
reg7_to_reg15 = Reg7 ∷ Reg8 ∷ Reg9 ∷ Reg10 ∷ Reg11 ∷ Reg12 ∷ Reg13 ∷ Reg14 ∷ Reg15 ∷ []

abbrev pub dl_src_to_nw_proto : List FieldId
dl_src_to_nw_proto = DlSrc ∷ DlDst ∷ DlType ∷ VlanTci ∷ NwSrc ∷ NwDst ∷ Ipv6Src ∷ Ipv6Dst ∷ NwProto ∷ []

abbrev pub nw_tos_to_vlan_tpid2 : List FieldId
nw_tos_to_vlan_tpid2 = NwTos ∷ NwTtl ∷ IpFrag ∷ ArpSha ∷ ArpTha ∷ TpSrc ∷ TpDst ∷ VlanTpid ∷ VlanTci2 ∷ VlanTpid2 ∷ []

-- both halves of a word laid over one another
abbrev pub halves : ℕ → ℕ
halves word = bit_or (word % 2 ^ 64) (word / 2 ^ 64)

-- the bits of a field that a match states to be 1
abbrev pub ones_of : List ℕ → FieldId → ℕ
ones_of key f = value_of key f

-- and those that it states to be 0
abbrev pub zeros_of : List ℕ → List ℕ → FieldId → ℕ
zeros_of key mask f = bit_xor (value_of mask f) (value_of key f)

abbrev pub signature_of : List ℕ → List ℕ → Signature
signature_of key mask = record { ones = halves (superimposed (ones_of key) fields); zeros = halves (superimposed (zeros_of key mask) fields) }

-- whether the second number has no bit that the first one hasn't
abbrev pub has_bits : ℕ → ℕ → Bool
has_bits a b = bit_and a b == b

-- whether the first signature has all bits of the second
abbrev pub includes : Signature → Signature → Bool
includes s t = has_bits s.ones t.ones && has_bits s.zeros t.zeros
