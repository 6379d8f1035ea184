-- What the table is seen as, and what holds of its parts.
use Rattle.std.specs.Prelude.{◌≡◌, ℕ, ◌<◌, nat_eq, false, List, Option, Some, vec_len, vec_capacity}
use Rattle.std.specs.List.{filter_map}
use Rattle.std.specs.Option.{option_map}
use Rattle.indexmap.specs.IndexMap.{get, spare}
use Rattle.spec_keys.specs.Keys.{masked}
use Rattle.ovs_fields.specs.Packed.{numbers, bits}
use Rattle.megaflow_table.specs.declared.entry.Entry.{Entry}
use Rattle.megaflow_table.specs.declared.placed.Placed.{Placed}
use Rattle.megaflow_table.specs.declared.megaflows.Megaflows.TheInside.{Inside}
use Rattle.megaflow_table.specs.Entries.{Flows, overlaps}
use Rattle.megaflow_table.specs.Live.{IsIn, IsRising}
use Rattle.megaflow_table.specs.Subtables.{HasRoomUnder, HasNumbers, AreUnderMasks, IsFresh, IsFreshUnder, IsRanked, number_under, order_of}

-- the key of an entry under its mask
abbrev pub masked_key : Entry → List ℕ
masked_key e = masked (numbers e.key) (bits e.mask)

-- The live numbers rise, and exactly they have entries (`look`), no two of which overlap. The subtables (`under`) have
-- the number of each entry at its masked key, and no others.
pub record IsConsistent (live : List ℕ) (look : ℕ → Option Entry) (under : List ℕ → List ℕ → Option ℕ) : Type 0 where
  pub rising : IsRising live
  pub found : (n : ℕ) → IsIn n live → (e : Entry) × (look n ≡ Some e) × (e.number ≡ n)
  pub within : (n : ℕ) (e : Entry) → look n ≡ Some e → IsIn n live
  pub disjoint : (a b : ℕ) (e f : Entry) → look a ≡ Some e → look b ≡ Some f → (a ≡ b → ⊥) → overlaps (numbers e.key) (bits e.mask) f ≡ false
  pub named : (mask key : List ℕ) (n : ℕ) → under mask key ≡ Some n → (e : Entry) × (look n ≡ Some e) × (bits e.mask ≡ mask) × (key ≡ masked_key e)
  pub indexed : (n : ℕ) (e : Entry) → look n ≡ Some e → under (bits e.mask) (masked_key e) ≡ Some n

-- the entries of the live numbers, in their order
abbrev pub entries_by : (ℕ → Option Entry) → List ℕ → List Entry
entries_by look live = filter_map look live

abbrev pub look_in : Inside → ℕ → Option Entry
look_in a n = option_map (λ (p : Placed). p.entry) (get nat_eq a.entries n)

abbrev pub flows_in : Inside → Flows
flows_in a = record { limit = a.limit; entries = entries_by (look_in a) a.live.items; room = option_map (λ m. bits m) a.room; order = order_of a.subtables }

-- An entry of this mask can be installed without memory.
pub record HasRoom (a : Inside) (mask : List ℕ) : Type 0 where
  pub entries : 0 < spare a.entries
  pub live : vec_len a.live < vec_capacity a.live
  pub subtables : 0 < spare a.subtables
  pub subtable : HasRoomUnder a.subtables mask
  pub fresh : IsFreshUnder a.fresh mask

-- The parts are consistent, each subtable is under its mask and none is empty, they stand by their hits, and there is the
-- room that the table says there is.
pub record IsTable (a : Inside) : Type 0 where
  pub consistent : IsConsistent a.live.items (look_in a) (number_under a.subtables)
  pub room : (mask : List ℕ) → option_map (λ m. bits m) a.room ≡ Some mask → HasRoom a mask
  pub fresh : IsFresh a.fresh
  pub masked : AreUnderMasks a.subtables
  pub used : HasNumbers a.subtables
  pub ranked : IsRanked a.subtables
