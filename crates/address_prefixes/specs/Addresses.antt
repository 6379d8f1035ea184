-- The prefixes of the addresses that rules state, that a mask has, and what is known of them in a lookup.
use Rattle.std.specs.Prelude.{ℕ, List}
use Rattle.spec_keys.specs.declared.field_id.FieldId.TheVariants.{NwSrc, NwDst, Ipv6Src, Ipv6Dst}
use Rattle.spec_tables.specs.Rules.{Rule}
use Rattle.ovs_fields.specs.Packed.{numbers}
use Rattle.ovs_fields.specs.declared.key.Key.{Key}
use Rattle.address_prefixes.specs.declared.address_prefixes.AddressLookups.{AddressLookups}
use Rattle.address_prefixes.specs.declared.address_prefixes.AddressPrefixes.{AddressPrefixes}
use Rattle.address_prefixes.specs.declared.address_prefixes.MaskPrefixes.{MaskPrefixes}
use Rattle.address_prefixes.specs.Pairs as pair

-- they are those that a mask has
pub record AreOfMask (p : MaskPrefixes) (mask : List ℕ) : Type 0 where
  pub ipv4 : pair.ArePrefixesOf p.ipv4 NwSrc NwDst mask
  pub ipv6 : pair.ArePrefixesOf p.ipv6 Ipv6Src Ipv6Dst mask

-- they are those that these rules state, each as often as they state it
pub record AreOf (a : AddressPrefixes) (rs : List Rule) : Type 0 where
  pub ipv4 : pair.AreTriesOf a.ipv4 NwSrc NwDst rs
  pub ipv6 : pair.AreTriesOf a.ipv6 Ipv6Src Ipv6Dst rs

-- what is known so far is what the prefixes tell of a key that these rules state
pub record AreKnown (known : AddressLookups) (key : List ℕ) (rs : List Rule) : Type 0 where
  pub ipv4 : pair.AreKnown known.ipv4 NwSrc NwDst key rs
  pub ipv6 : pair.AreKnown known.ipv6 Ipv6Src Ipv6Dst key rs

-- what was known of the rules is known of them still
abbrev pub StayKnown : AddressPrefixes → AddressLookups → AddressLookups → Key → Type 0
StayKnown a old new key = (rs : List Rule) → AreOf a rs → AreKnown old (numbers key) rs → AreKnown new (numbers key) rs

-- it holds of all rules with these prefixes of which this is known, and of each mask with its own
abbrev pub ForMasks : AddressPrefixes → AddressLookups → MaskPrefixes → Key → (List Rule → List ℕ → Type 0) → Type 0
ForMasks a known p key Holds = (rs : List Rule) (mask : List ℕ) → AreOf a rs → AreKnown known (numbers key) rs → AreOfMask p mask → Holds rs mask
