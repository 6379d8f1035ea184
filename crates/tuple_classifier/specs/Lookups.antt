-- Of which rules a lookup speaks, and what it consults.
use Rattle.std.specs.Prelude.{◌≡◌, ℕ, List, [], ◌∷◌, Option}
use Rattle.spec_keys.specs.Stages.{network_stage}
use Rattle.spec_tables.specs.Rules.{Rule}
use Rattle.spec_xlate.specs.Lookup.{added, stage_test}
use Rattle.ovs_fields.specs.Packed.{numbers, bits}
use Rattle.masked_map.specs.Unions.{union_of}
use Rattle.masked_map.specs.declared.mask_union.MaskUnion.{MaskUnion}
use Rattle.masked_map.specs.declared.packet_key.PacketKey.{PacketKey}
use Rattle.address_prefixes.specs.declared.address_prefixes.AddressLookups.{AddressLookups}
use Rattle.address_prefixes.specs.declared.address_prefixes.AddressPrefixes.{AddressPrefixes}
use Rattle.address_prefixes.specs.Addresses.{AreOf, AreKnown}
use Rattle.staged_lookup.specs.Numbered.{AreDistinct}
use Rattle.staged_lookup.specs.Subtables as by_stages
use Rattle.staged_lookup.specs.declared.probe.Probe.{Probe}
use Rattle.staged_lookup.specs.declared.subtable.Subtable as staged
use Rattle.tuple_classifier.specs.declared.subtable.Subtable.{Subtable}
use Rattle.tuple_classifier.specs.Order.{AreRankedOf}
use Rattle.tuple_classifier.specs.Parts.{of_mask}
use Rattle.tuple_classifier.specs.Passes.{HasPassed}
use Rattle.tuple_classifier.specs.Subtables.{IsSubtableOf}

-- the numbers of a packet's key
abbrev pub key_of : PacketKey → List ℕ
key_of key = numbers key.key.now

-- those of the rules that are of a subtable's mask
abbrev pub own_rules : staged.Subtable → List Rule → List Rule
own_rules s rs = of_mask (bits s.mask) rs

-- these masks are consulted besides
abbrev pub Consults : MaskUnion → MaskUnion → List (List ℕ) → Type 0
Consults old new masks = union_of new ≡ added (union_of old) masks

-- what a mask consults from the stage of the network on, where those before it pass
abbrev pub late_tests : List Rule → List ℕ → List ℕ → List (List ℕ)
late_tests rs key mask = stage_test rs key mask network_stage (mask ∷ [])

-- it holds of the rules of the subtables and prefixes, if no two have the same number
abbrev pub ForTable : List Subtable → AddressPrefixes → (List Rule → Type 0) → Type 0
ForTable ss prefixes Holds = (rs : List Rule) → AreRankedOf ss rs → AreOf prefixes rs → AreDistinct rs → Holds rs

-- it holds of all rules with these prefixes of which this is known, where the subtable has those of its mask
abbrev pub ForSubtable : Subtable → AddressPrefixes → AddressLookups → PacketKey → (List Rule → Type 0) → Type 0
ForSubtable s prefixes known key Holds = (rs : List Rule) → IsSubtableOf s (own_rules s.staged rs) → AreOf prefixes rs → AreKnown known (key_of key) rs → Holds rs

-- it holds, if the subtable has these rules and the stages before that of the network pass the key
abbrev pub IfPassed : Option Probe → staged.Subtable → PacketKey → List Rule → Type 0 → Type 0
IfPassed early s key own Holds = by_stages.IsSubtableOf s own → HasPassed early (bits s.mask) (key_of key) own → Holds
