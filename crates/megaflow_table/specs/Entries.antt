-- What the megaflows of a port are seen as: entries in rising order of their numbers (NSDI 2015, section 4.2).
use Rattle.std.specs.Prelude.{◌≡◌, ℕ, ◌+◌, ◌-◌, ◌<◌, ◌^◌, ◌==◌, min, Bool, false, not, if◌then◌else◌, List, map, filter, Option, Some, slice_get}
use Rattle.std.specs.List.{find, list_any}
use Rattle.spec_keys.specs.Keys.{agree, overlap, same}
use Rattle.ovs_fields.specs.Packed.{numbers, bits}
use Rattle.megaflow_table.specs.declared.entry.Entry.{Entry}

-- The flow limit, the entries, the mask for which there is room, and the masks of the entries with their numbers of hits,
-- in the order in which lookups probe them.
pub record Flows : Type 0 where
  pub limit : ℕ
  pub entries : List Entry
  pub room : Option (List ℕ)
  pub order : List (List ℕ × ℕ)

-- whether an entry decides packets of this key
abbrev pub covers : List ℕ → Entry → Bool
covers key e = agree key (numbers e.key) (bits e.mask)

-- whether some key is covered by it and by an entry of this key and mask
abbrev pub overlaps : List ℕ → List ℕ → Entry → Bool
overlaps key mask e = overlap key mask (numbers e.key) (bits e.mask)

-- the entry of a number
abbrev pub entry_of : ℕ → List Entry → Option Entry
entry_of number entries = find (λ (e : Entry). e.number == number) entries

-- the first entry that covers a key, which is the only one where none overlap
abbrev pub covering : List ℕ → List Entry → Option Entry
covering key entries = find (covers key) entries

-- whether an entry has this mask
abbrev pub has_mask : List ℕ → List Entry → Bool
has_mask mask entries = list_any (λ (e : Entry). same mask (bits e.mask)) entries

abbrev pub numbers_of : List Entry → List ℕ
numbers_of entries = map (λ (e : Entry). e.number) entries

-- the entries with the one of a number changed
abbrev pub changed : ℕ → (Entry → Entry) → List Entry → List Entry
changed number change entries = map (λ (e : Entry). if e.number == number then change e else e) entries

-- the entries without the one of a number
abbrev pub without : ℕ → List Entry → List Entry
without number entries = filter (λ (e : Entry). not (e.number == number)) entries

-- a count of 64 bits with so many more; one that is full stays so
abbrev pub counted_on : ℕ → ℕ → ℕ
counted_on count more = min (count + more) (2 ^ 64 - 1)

-- an entry that decided one more packet, of this many bytes, at this time
abbrev pub hit_at : ℕ → ℕ → Entry → Entry
hit_at length time e = record e {
  packets = counted_on e.packets 1;
  bytes = counted_on e.bytes length;
  owed_packets = counted_on e.owed_packets 1;
  owed_bytes = counted_on e.owed_bytes length;
  used = time;
}

-- an entry with the actions and the visits of a version
abbrev pub changed_to : ℕ → ℕ → List ℕ → Entry → Entry
changed_to version actions visits e = record e { version = version; actions = actions; visits = visits }

-- an entry whose rules were credited with all that it decided
abbrev pub paid : Entry → Entry
paid e = record e { owed_packets = 0; owed_bytes = 0 }

-- the entry of a number is there and has a property
abbrev pub ForEntry : ℕ → List Entry → (Entry → Type 0) → Type 0
ForEntry number entries P = (e : Entry) × (entry_of number entries ≡ Some e) × P e

-- no two entries overlap
abbrev pub AreDisjoint : List Entry → Type 0
AreDisjoint entries = (i j : ℕ) (a b : Entry) → slice_get entries i ≡ Some a → slice_get entries j ≡ Some b → i < j
    → overlaps (numbers a.key) (bits a.mask) b ≡ false

-- the numbers of the entries rise
abbrev pub AreRising : List Entry → Type 0
AreRising entries = (i j : ℕ) (a b : Entry) → slice_get entries i ≡ Some a → slice_get entries j ≡ Some b → i < j → a.number < b.number
