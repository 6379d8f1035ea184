-- What the caches of a port are seen as, and which state of a board has these caches.
use Rattle.std.specs.Prelude.{◌≡◌, ℕ, List}
use Rattle.spec_board.specs.State.{Entry, Slot, State, Total}
use Rattle.ovs_fields.specs.Packed.{numbers, bits}
use Rattle.exact_cache.specs.SameSlots.{AreSameSlots}
use Rattle.port_caches.specs.Sums.{total_of}
use Rattle.megaflow_table.specs.declared.entry.Entry as flows
use Rattle.port_caches.specs.declared.lists.HeldList.{HeldList}
pub use Rattle.port_caches.specs.Lists.{actions_at, IsHeld, KeepsHeld}

-- an entry, whose actions stand among these lists
abbrev pub entry_view : List HeldList → flows.Entry → Entry
entry_view lists e = record {
  number = e.number;
  key = numbers e.key;
  mask = bits e.mask;
  version = e.version;
  actions = actions_at lists e.actions;
  visits = e.visits;
  packets = e.packets;
  bytes = e.bytes;
  owed_packets = e.owed_packets;
  owed_bytes = e.owed_bytes;
  used = e.used;
}

-- The most entries that there may be; the entries, and how many were made; the slots of the exact-match cache; how many
-- rules there are, and the total of each; the lists of actions, and how many more fit without memory.
pub record Caches : Type 0 where
  pub limit : ℕ
  pub entries : List Entry
  pub made : ℕ
  pub slots : List Slot
  pub rules : ℕ
  pub totals : List Total
  pub lists : List HeldList
  pub room : ℕ

-- The caches are those of a board in this state.
pub record AreCachesOf (c : Caches) (s : State) : Type 0 where
  pub entries : s.entries ≡ c.entries
  pub made : s.made ≡ c.made
  pub slots : AreSameSlots c.slots s.slots
  pub totals : (rule : ℕ) → s.totals rule ≡ total_of c.totals rule
