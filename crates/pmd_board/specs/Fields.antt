-- What a board's type keeps: its journal is legal, and its fields are those of the state that the journal leads to.
use Rattle.std.specs.Prelude.{◌≡◌, ℕ, ◌+◌, ◌-◌, ◌^◌, ◌<◌, ◌≤◌, Bool, if◌then◌else◌, List, All, length, map, slice_get, Some}
use Rattle.std.specs.Vec.{vec_len, vec_capacity}
use Rattle.spec_tables.specs.Bundles.{AreBundles}
use Rattle.spec_case.specs.Run.{Run, edit_count, last_version, frames_of}
use Rattle.spec_case.specs.Blocks.{AreInOrder, hi, last_block, last_place}
use Rattle.spec_board.specs.State as states
use Rattle.spec_board.specs.Journals.{IsLegal}
use Rattle.board_laws.specs.Entries.{HasKeys}
use Rattle.pcap_files.specs.Records.{IsShort}
use Rattle.run_case.specs.Places.{HasPort}
use Rattle.board_steps.specs.StepViews.{steps_view}
use Rattle.port_caches.specs.declared.lists.HeldList.{HeldList}
use Rattle.port_caches.specs.Views.{AreCachesOf, IsHeld, actions_at}
use Rattle.pmd_board.specs.BoardView.{BoardView, IsLawful, state_of}
use Rattle.pmd_board.specs.declared.place.Place.{Place}
use Rattle.pmd_board.specs.declared.place.Place.TheVariants.{Waiting, Pending, Decided}
use Rattle.pmd_board.specs.declared.place.BlockBounds.{BlockBounds}
use Rattle.pmd_board.specs.declared.board.Board.TheInside.{Inside}

abbrev pub view_of : {X : Type 0} → Inside X → BoardView
view_of b = record { port = b.port; flow_limit = b.caches.limit; journal = steps_view b.journal.items }

-- ---- parts of the state

-- The block and the versions are those of a state.
pub record AreVersionsOf {X : Type 0} (b : Inside X) (s : states.State) : Type 0 where
  pub block : s.block ≡ b.block
  pub newest : s.newest ≡ b.newest
  pub floor : s.floor ≡ b.floor
  pub done : s.done ≡ b.done
  pub is_sweeping : s.is_sweeping ≡ b.sweeping

-- a place, with its actions where it is decided
abbrev pub place_view : List HeldList → Place → states.Place
place_view lists Waiting = states.Waiting
place_view lists Pending = states.Pending
place_view lists (Decided v list) = states.Decided v (actions_at lists list)

-- The list that a decided place names is there, and stays.
abbrev pub NamesList : List HeldList → Place → Type 0
NamesList lists Waiting = Unit {0}
NamesList lists Pending = Unit {0}
NamesList lists (Decided v list) = IsHeld lists list (actions_at lists list)

-- The places are those of a state, and how many are pending.
pub record ArePlacesOf {X : Type 0} (b : Inside X) (s : states.State) : Type 0 where
  pub next : s.next ≡ b.next
  pub clock : s.clock ≡ b.clock
  pub pending : states.pending_count s ≡ b.pending
  pub views : s.places ≡ map (place_view b.caches.lists) b.places.items
  pub named : All (NamesList b.caches.lists) b.places.items

-- The caches, and what a sweep has yet to put, are those of a state. No more entries were made than frames decided.
pub record HasCachesOf {X : Type 0} (run : Run) (b : Inside X) (s : states.State) : Type 0 where
  pub caches : AreCachesOf b.caches s
  pub listed : s.listed ≡ b.listed
  pub rules : b.caches.rules ≡ edit_count run
  pub made : b.caches.made + b.pending + 1 ≤ b.next

-- ---- what the fields keep besides

-- The bounds of each block are there.
pub record AreBounds (run : Run) (port : ℕ) (blocks : List BlockBounds) : Type 0 where
  pub each : (block : ℕ) → block ≤ last_block run → slice_get blocks block ≡ Some (record { hi = hi run block; last_place = last_place run port block })
  pub count : length blocks ≡ last_block run + 1

-- the steps for which a board has room at any time: a look of each frame that is left, an opening of each block that
-- is left, and, where a sweep runs, a put of each entry that is listed and the end of the sweep
abbrev pub steps_left : ℕ → ℕ → ℕ → ℕ → Bool → ℕ → ℕ
steps_left frames next last block is_sweeping listed = (frames + 1 - next) + (last - block) + (if is_sweeping then listed + 1 else 0)

-- for how many steps there is room in a state, which are those that are left
abbrev pub steps_left_in : Run → ℕ → states.State → ℕ
steps_left_in run port s = steps_left (length (frames_of run port)) s.next (last_block run) s.block s.is_sweeping (length s.listed)

-- Places, blocks and entries have numbers of 32 bits, frames are short, and there is room for these steps in the journal,
-- and for a list of actions of each put.
pub record HasRoom {X : Type 0} (run : Run) (b : Inside X) : Type 0 where
  pub few_places : vec_len b.places + 1 < 2 ^ 32
  pub few_blocks : vec_len b.blocks < 2 ^ 32
  pub few_entries : b.caches.limit < 2 ^ 32
  pub few_listed : length b.listed ≤ b.caches.limit
  pub places : length b.places.items ≡ vec_len b.places
  pub short : All IsShort (frames_of run b.port)
  pub steps : vec_len b.journal + steps_left (vec_len b.places) b.next (last_block run) b.block b.sweeping (length b.listed) ≤ vec_capacity b.journal
  pub lists : length b.listed ≤ b.caches.room

-- ---- all of it

-- The board is of a port of the run, its journal is legal, and the frames that it looked up have keys within the widths
-- of the fields; its fields are those of the state that the journal leads to, part by part.
pub record IsKept {X : Type 0} (run : Run) (b : Inside X) : Type 0 where
  pub has_port : HasPort run.ports b.port
  pub bundled : AreBundles run.bundles (edit_count run)
  pub in_order : AreInOrder run.syncs (last_version run)
  pub legal : IsLegal run b.port b.caches.limit (steps_view b.journal.items)
  pub has_keys : HasKeys run b.port (state_of run (view_of b)).next
  pub lawful : IsLawful run (view_of b)
  pub versions : AreVersionsOf b (state_of run (view_of b))
  pub places : ArePlacesOf b (state_of run (view_of b))
  pub caches : HasCachesOf run b (state_of run (view_of b))
  pub bounds : AreBounds run b.port b.blocks.items
  pub room : HasRoom run b
