-- The fields of a key: ovs-fields(7) has the names, widths and meanings of all but the types of VLAN tags and the inner
-- tag, which are IEEE 802.1Q's. The stages, in which a lookup tests the
-- fields (NSDI 2015, section 5.3), are this profile's.
use Rattle.std.specs.Prelude.{ℕ, List, [], ◌∷◌, length, map}
use Rattle.spec_keys.specs.declared.field_id.FieldId.{FieldId}
use Rattle.spec_keys.specs.declared.field_id.FieldId.TheVariants.{InPort, Metadata, Reg0, Reg1, Reg2, Reg3, Reg4, Reg5, Reg6, Reg7, Reg8, Reg9, Reg10, Reg11, Reg12, Reg13, Reg14, Reg15, DlSrc, DlDst, DlType, VlanTci, NwSrc, NwDst, Ipv6Src, Ipv6Dst, NwProto, NwTos, NwTtl, IpFrag, ArpSha, ArpTha, TpSrc, TpDst, VlanTpid, VlanTci2, VlanTpid2}

-- how the value of a field is printed
pub data Form : Type 0 where
  Decimal : Form
  Hexadecimal : Form
  FourDigits : Form
  Mac : Form
  Ipv4 : Form
  Ipv6 : Form
  Fragment : Form

-- a field: its place in the key, its width in bits, the stage of a lookup that tests it, and its printed form
pub record Field : Type 0 where
  pub place : ℕ
  pub bits : ℕ
  pub stage : ℕ
  pub form : Form

abbrev pub field_of : FieldId → Field
field_of InPort = record { place = 0; bits = 16; stage = 0; form = Decimal }
field_of Metadata = record { place = 1; bits = 64; stage = 0; form = Hexadecimal }
field_of Reg0 = record { place = 2; bits = 32; stage = 0; form = Hexadecimal }
field_of Reg1 = record { place = 3; bits = 32; stage = 0; form = Hexadecimal }
field_of Reg2 = record { place = 4; bits = 32; stage = 0; form = Hexadecimal }
field_of Reg3 = record { place = 5; bits = 32; stage = 0; form = Hexadecimal }
field_of Reg4 = record { place = 6; bits = 32; stage = 0; form = Hexadecimal }
field_of Reg5 = record { place = 7; bits = 32; stage = 0; form = Hexadecimal }
field_of Reg6 = record { place = 8; bits = 32; stage = 0; form = Hexadecimal }
field_of Reg7 = record { place = 9; bits = 32; stage = 0; form = Hexadecimal }
field_of Reg8 = record { place = 10; bits = 32; stage = 0; form = Hexadecimal }
field_of Reg9 = record { place = 11; bits = 32; stage = 0; form = Hexadecimal }
field_of Reg10 = record { place = 12; bits = 32; stage = 0; form = Hexadecimal }
field_of Reg11 = record { place = 13; bits = 32; stage = 0; form = Hexadecimal }
field_of Reg12 = record { place = 14; bits = 32; stage = 0; form = Hexadecimal }
field_of Reg13 = record { place = 15; bits = 32; stage = 0; form = Hexadecimal }
field_of Reg14 = record { place = 16; bits = 32; stage = 0; form = Hexadecimal }
field_of Reg15 = record { place = 17; bits = 32; stage = 0; form = Hexadecimal }
field_of DlSrc = record { place = 18; bits = 48; stage = 1; form = Mac }
field_of DlDst = record { place = 19; bits = 48; stage = 1; form = Mac }
field_of DlType = record { place = 20; bits = 16; stage = 1; form = FourDigits }
field_of VlanTci = record { place = 21; bits = 16; stage = 1; form = FourDigits }
field_of NwSrc = record { place = 22; bits = 32; stage = 2; form = Ipv4 }
field_of NwDst = record { place = 23; bits = 32; stage = 2; form = Ipv4 }
field_of Ipv6Src = record { place = 24; bits = 128; stage = 2; form = Ipv6 }
field_of Ipv6Dst = record { place = 25; bits = 128; stage = 2; form = Ipv6 }
field_of NwProto = record { place = 26; bits = 8; stage = 2; form = Decimal }
field_of NwTos = record { place = 27; bits = 8; stage = 2; form = Decimal }
field_of NwTtl = record { place = 28; bits = 8; stage = 2; form = Decimal }
field_of IpFrag = record { place = 29; bits = 2; stage = 2; form = Fragment }
field_of ArpSha = record { place = 30; bits = 48; stage = 2; form = Mac }
field_of ArpTha = record { place = 31; bits = 48; stage = 2; form = Mac }
field_of TpSrc = record { place = 32; bits = 16; stage = 3; form = Decimal }
field_of TpDst = record { place = 33; bits = 16; stage = 3; form = Decimal }
field_of VlanTpid = record { place = 34; bits = 16; stage = 1; form = FourDigits }
field_of VlanTci2 = record { place = 35; bits = 16; stage = 1; form = FourDigits }
field_of VlanTpid2 = record { place = 36; bits = 16; stage = 1; form = FourDigits }

-- the place of a field in the key
abbrev pub place_of : FieldId → ℕ
place_of f = (field_of f).place

-- the width of a field in bits
abbrev pub width_of : FieldId → ℕ
width_of f = (field_of f).bits

-- the stage of a lookup that tests a field
abbrev pub stage_of : FieldId → ℕ
stage_of f = (field_of f).stage

-- the fields in their order in the key
abbrev pub fields : List FieldId
fields =
    InPort ∷ Metadata ∷ Reg0 ∷ Reg1 ∷ Reg2 ∷ Reg3 ∷ Reg4 ∷ Reg5 ∷
    Reg6 ∷ Reg7 ∷ Reg8 ∷ Reg9 ∷ Reg10 ∷ Reg11 ∷ Reg12 ∷ Reg13 ∷
    Reg14 ∷ Reg15 ∷ DlSrc ∷ DlDst ∷ DlType ∷ VlanTci ∷ NwSrc ∷ NwDst ∷
    Ipv6Src ∷ Ipv6Dst ∷ NwProto ∷ NwTos ∷ NwTtl ∷ IpFrag ∷ ArpSha ∷ ArpTha ∷
    TpSrc ∷ TpDst ∷ VlanTpid ∷ VlanTci2 ∷ VlanTpid2 ∷ []

-- metadata and the registers, which no frame carries
abbrev pub register_fields : List FieldId
register_fields =
    Metadata ∷ Reg0 ∷ Reg1 ∷ Reg2 ∷ Reg3 ∷ Reg4 ∷ Reg5 ∷ Reg6 ∷ Reg7 ∷ Reg8 ∷ Reg9 ∷ Reg10 ∷
    Reg11 ∷ Reg12 ∷ Reg13 ∷ Reg14 ∷ Reg15 ∷ []

-- how many fields a key has
abbrev pub field_count : ℕ
field_count = length fields

-- the width of each field, in the order of the key
unfoldable pub widths : List ℕ
widths = map width_of fields

-- the stage of each field, in the order of the key
unfoldable pub stages : List ℕ
stages = map stage_of fields
