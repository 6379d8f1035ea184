-- A frame more is looked up.
use Rattle.std.proofs.Common.{if◌then◌else◌, ◌≡◌, ℕ, ◌+◌, ◌-◌, ◌^◌, ◌<◌, ◌≤◌, List, length, length-set, max, slice_set, vec_len, vec_capacity, Some, None, sym, ap, ◌∙◌, subst, arith}
use Rattle.std.proofs.lemmas.List.{length-map}
use Rattle.spec_pcap.specs.Pcap.{Frame}
use Rattle.spec_case.specs.Run.{Run, frames_of}
use Rattle.spec_case.specs.Blocks.{last_block}
use Rattle.spec_board.specs.declared.looked.Looked.{Looked}
use Rattle.spec_board.specs.State as states
use Rattle.spec_board.specs.Results.{entry_of, key_at, looked, numbers_of}
use Rattle.spec_board.specs.Effects.{advanced, decided_as, decided_by}
use Rattle.spec_board.specs.Refusals.{look_fault}
use Rattle.board_laws.proofs.PlaceLaws.{waiting_written}
use Rattle.board_laws.proofs.Refusals.{may_look}
use Rattle.run_case.specs.Places.{HasPlace}
use Rattle.port_caches.specs.Views.{IsHeld, KeepsHeld}
use Rattle.pmd_board.specs.declared.board.Board.TheInside.{Inside}
use Rattle.pmd_board.specs.declared.place.Place as rust_places
use Rattle.pmd_board.specs.declared.place.Place.TheVariants as rust_place
use Rattle.pmd_board.specs.BoardView.{BoardView, state_of}
use Rattle.pmd_board.specs.Fields.{view_of, place_view, ArePlacesOf, HasRoom, IsKept}
use Rattle.pmd_board.proofs.HeldLists.{views_decided, names_decided}

-- ---- how many frames and entries there are

pub places_counted : {X : Type 0} (run : Run) (b : Inside X) → IsKept run b → length (frames_of run b.port) ≡ vec_len b.places
places_counted run b k =
    sym k.lawful.places.all_places ∙ ap length k.places.views ∙ length-map b.places.items (place_view b.caches.lists) ∙ k.room.places

pub few_frames : {X : Type 0} (run : Run) (b : Inside X) → IsKept run b → length (frames_of run b.port) + 1 < 2 ^ 32
few_frames run b k = (let count = places_counted run b k in omega (arith, count, k.room.few_places))

few_by : (n m limit most : ℕ) → n ≡ m → m ≤ limit → limit < most → n < most
few_by n m limit most is few least = omega (arith, is, few, least)

pub numbers_few : {X : Type 0} (run : Run) (b : Inside X) (numbers : List ℕ) → IsKept run b → numbers ≡ numbers_of b.caches.entries
    → length numbers < 2 ^ 32
numbers_few run b numbers k is =
    let s : states.State = state_of run (view_of b) in
    let counted : length numbers ≡ length s.entries =
    ap length (is ∙ ap numbers_of (sym k.caches.caches.entries)) ∙ length-map s.entries (λ (e : states.Entry). e.number) in
    few_by (length numbers) (length s.entries) b.caches.limit (2 ^ 32) counted k.lawful.few k.room.few_entries

-- ---- whose turn it is

pub record IsTurn {X : Type 0} (run : Run) (b : Inside X) (place : ℕ) : Type 0 where
  pub turn : place ≡ (state_of run (view_of b)).next
  pub first : 1 ≤ place
  pub last : place ≤ length (state_of run (view_of b)).places
  pub waits : states.place_at place (state_of run (view_of b)) ≡ states.Waiting
  pub count : length (state_of run (view_of b)).places ≡ vec_len b.places

pub turn_of : {X : Type 0} (run : Run) (b : Inside X) (place : ℕ) → IsKept run b → look_fault run b.port (state_of run (view_of b)) place ≡ None
    → HasPlace run b.port place → IsTurn run b place
turn_of run b place k may there =
    let s : states.State = state_of run (view_of b) in
    let turn : place ≡ s.next = (may_look run b.port s place may).0 in
    record {
      turn = turn;
      first = there.0;
      last = rw k.lawful.places.all_places there.1;
      waits = k.lawful.places.waiting place (omega (arith, turn));
      count = k.lawful.places.all_places ∙ places_counted run b k;
    }

next_fits : (place next count most : ℕ) → place ≡ next → place ≤ count → count + 1 < most → next + 1 < most
next_fits place next count most turn last few = omega (arith, turn, last, few)

pending_fits : (place next count most made pending : ℕ) → place ≡ next → place ≤ count → count + 1 < most → made + pending + 1 ≤ next → pending + 1 < most
pending_fits place next count most made pending turn last few made_few = omega (arith, turn, last, few, made_few)

index_fits : (place count : ℕ) → 1 ≤ place → place ≤ count → place - 1 < count
index_fits place count first last = omega (arith, first, last)

look_left : (place next count opens puts len capacity : ℕ) → place ≡ next → place ≤ count → len + ((count + 1 - next) + opens + puts) ≤ capacity
    → len < capacity
look_left place next count opens puts len capacity turn last room = omega (arith, turn, last, room)

-- A frame more can be looked up: its place is there, what it adds to fits, and there is room for the step.
pub record IsReady {X : Type 0} (b : Inside X) (place : ℕ) : Type 0 where
  pub next : b.next + 1 < 2 ^ 32
  pub pending : b.pending + 1 < 2 ^ 32
  pub index : place - 1 < vec_len b.places
  pub room : vec_len b.journal < vec_capacity b.journal

ready_by : {X : Type 0} (b : Inside X) (place : ℕ) → place ≡ b.next → 1 ≤ place → place ≤ vec_len b.places → vec_len b.places + 1 < 2 ^ 32
    → b.caches.made + b.pending + 1 ≤ b.next → (opens puts : ℕ)
    → vec_len b.journal + ((vec_len b.places + 1 - b.next) + opens + puts) ≤ vec_capacity b.journal → IsReady b place
ready_by b place turn first last few made opens puts room = record {
  next = next_fits place b.next (vec_len b.places) (2 ^ 32) turn last few;
  pending = pending_fits place b.next (vec_len b.places) (2 ^ 32) b.caches.made b.pending turn last few made;
  index = index_fits place (vec_len b.places) first last;
  room = look_left place b.next (vec_len b.places) opens puts (vec_len b.journal) (vec_capacity b.journal) turn last room;
}

pub look_ready : {X : Type 0} (run : Run) (b : Inside X) (v : BoardView) (port place : ℕ) → IsKept run b → view_of b ≡ v → port ≡ v.port
    → look_fault run v.port (state_of run v) place ≡ None → HasPlace run port place → IsReady b place
look_ready run b v port place k view port_is may there =
    let own : port ≡ b.port = port_is ∙ ap (λ (x : BoardView). x.port) (sym view) in
    let t = turn_of run b place k (subst (λ (x : BoardView). look_fault run x.port (state_of run x) place ≡ None) (sym view) may)
    (subst (λ q. HasPlace run q place) own there) in
    ready_by b place (t.turn ∙ k.places.next) t.first (subst (λ count. place ≤ count) t.count t.last) k.room.few_places k.caches.made
    (last_block run - b.block) (if b.sweeping then length b.listed + 1 else 0) k.room.steps

-- a place of the board's port is among its places
pub place_there : {X : Type 0} (run : Run) (b : Inside X) (v : BoardView) (port place : ℕ) → IsKept run b → view_of b ≡ v → port ≡ v.port
    → HasPlace run port place → place - 1 < vec_len b.places
place_there run b v port place k view port_is there =
    let own : port ≡ b.port = port_is ∙ ap (λ (x : BoardView). x.port) (sym view) in
    let here : HasPlace run b.port place = subst (λ q. HasPlace run q place) own there in
    index_fits place (vec_len b.places) here.0 (subst (λ count. place ≤ count) (places_counted run b k) here.1)

-- what a look of this frame finds, as the board's state has it
pub found_there : {X : Type 0} (run : Run) (b : Inside X) (v : BoardView) (port place : ℕ) (key : List ℕ) (r : Looked) → view_of b ≡ v
    → key ≡ key_at run port place → port ≡ v.port → looked key (state_of run v) ≡ r → looked (key_at run b.port place) (state_of run (view_of b)) ≡ r
found_there run b v port place key r view key_is port_is found =
    subst (λ (x : BoardView). looked (key_at run x.port place) (state_of run x) ≡ r) (sym view)
    (subst (λ q. looked (key_at run q place) (state_of run v) ≡ r) port_is (subst (λ y. looked y (state_of run v) ≡ r) key_is found))

-- ---- the fields

-- A board c is b, but that this was written to the place that was looked up.
pub record IsLookedUp {X : Type 0} (b c : Inside X) (place : ℕ) (p : rust_places.Place) : Type 0 where
  pub next : c.next ≡ b.next + 1
  pub places : c.places.items ≡ slice_set b.places.items (place - 1) p
  pub count : vec_len c.places ≡ vec_len b.places
  pub blocks : c.blocks ≡ b.blocks
  pub block : c.block ≡ b.block
  pub sweeping : c.sweeping ≡ b.sweeping
  pub listed : c.listed ≡ b.listed
  pub limit : c.caches.limit ≡ b.caches.limit
  pub room : c.caches.room ≡ b.caches.room
  pub len : vec_len c.journal ≡ vec_len b.journal + 1
  pub capacity : vec_capacity c.journal ≡ vec_capacity b.journal
  pub port : c.port ≡ b.port

pub looked_room : {X : Type 0} (run : Run) (b c : Inside X) (place : ℕ) (p : rust_places.Place) → IsKept run b → IsTurn run b place
    → IsLookedUp b c place p → HasRoom run c
looked_room run b c place p k t l = record {
  few_places = rw l.count k.room.few_places;
  few_blocks = rw l.blocks k.room.few_blocks;
  few_entries = rw l.limit k.room.few_entries;
  few_listed = rw (l.limit, l.listed) k.room.few_listed;
  places = ap length l.places ∙ length-set b.places.items (place - 1) p ∙ k.room.places ∙ sym l.count;
  short = rw l.port k.room.short;
  lists = rw (l.room, l.listed) k.room.lists;
  steps = rw (l.next, l.count, l.block, l.sweeping, l.listed) (omega (arith, k.room.steps, t.last, t.turn, t.count, k.places.next, l.len, l.capacity));
}

-- The places, where an entry decided the frame, whatever the slots are then.
pub hit_places : {X : Type 0} (run : Run) (b c : Inside X) (place number version list : ℕ) (frame : Frame) (e : states.Entry) (slots : List states.Slot) → IsKept run b
    → IsTurn run b place → IsLookedUp b c place (rust_place.Decided version list)
    → entry_of number (state_of run (view_of b)).entries ≡ Some e → KeepsHeld b.caches.lists c.caches.lists → version ≡ e.version
    → IsHeld c.caches.lists list e.actions → c.clock ≡ max b.clock frame.time → c.pending ≡ b.pending
    → ArePlacesOf c (record (decided_by number place frame (advanced frame (state_of run (view_of b)))) { slots = slots })
hit_places run b c place number version list frame e slots k t l found keeps version_is held clock pending =
    let s : states.State = state_of run (view_of b) in
    let decided : decided_as (entry_of number s.entries) ≡ states.Decided version e.actions =
    ap decided_as found ∙ ap (λ v. states.Decided v e.actions) (sym version_is) in
    record {
      next = (let n = l.next in omega (arith, n, k.places.next));
      clock = ap (λ x. max x frame.time) k.places.clock ∙ sym clock;
      pending = rw decided (let n = waiting_written s.places place (states.Decided version e.actions) t.first t.last t.waits in omega (arith, n, k.places.pending, pending));
      views =
          rw (decided, k.places.views, l.places)
          (sym (views_decided b.caches.lists c.caches.lists e.actions b.places.items place version list keeps held k.places.named));
      named = rw l.places (names_decided b.caches.lists c.caches.lists e.actions b.places.items place version list keeps held k.places.named);
    }
