-- What calls need and do, as the definitions of a board's steps say it.
use Rattle.std.specs.Prelude.{◌≡◌, ℕ, ◌^◌, ◌+◌, ◌<◌, ◌≤◌, List, length, All, Some}
use Rattle.spec_pcap.specs.Pcap.{Frame}
use Rattle.spec_xlate.specs.Translation.{Translation}
use Rattle.spec_board.specs.Steps as steps
use Rattle.spec_board.specs.State.{Entry, State}
use Rattle.spec_board.specs.Results.{covering, entry_of, put_of, settled_beside}
use Rattle.spec_board.specs.Effects.{credited, decided_by, dropped, new_entry, paid, put_by, settled_by, with_entry, with_put}
use Rattle.spec_board.specs.declared.put_done.PutDone.{PutDone}
use Rattle.port_caches.specs.Sums.{total_of}
use Rattle.port_caches.specs.Views.{Caches, AreCachesOf}
use Rattle.port_caches.specs.Lists.{IsHeld, KeepsHeld}

-- A frame has this length and this time.
pub record IsFrameOf (length_ time : ℕ) (frame : Frame) : Type 0 where
  pub length_is : length_ ≡ length frame.bytes
  pub time_is : time ≡ frame.time

-- The visits are rules; they are counted from 1.
abbrev pub AreRules : ℕ → List ℕ → Type 0
AreRules rules visits = All (λ rule. (1 ≤ rule) × (rule ≤ rules)) visits

-- The totals of a state are numbers of 64 bits.
abbrev pub HasFewTotals : State → Type 0
HasFewTotals s = (rule : ℕ) → ((s.totals rule).packets < 2 ^ 64) × ((s.totals rule).bytes < 2 ^ 64)

-- what a settle of a frame does beside deciding it
abbrev pub settle_result : ℕ → List ℕ → List ℕ → State → steps.Settled
settle_result limit key mask s = settled_beside limit key mask s (covering key s.entries)

-- and what it leads to, where the translation of the key under version v is t
abbrev pub settle_effect : List ℕ → List ℕ → ℕ → ℕ → Translation → Frame → steps.Settled → State → State
settle_effect key mask place v t frame (steps.Present n) s = settled_by place v t frame s
settle_effect key mask place v t frame steps.Full s = settled_by place v t frame s
settle_effect key mask place v t frame (steps.Installed n numbers) s =
    with_entry (new_entry n key mask v t frame) (dropped numbers (paid numbers (settled_by place v t frame s)))

abbrev pub settle_state : ℕ → List ℕ → List ℕ → ℕ → ℕ → Translation → Frame → State → State
settle_state limit key mask place v t frame s = settle_effect key mask place v t frame (settle_result limit key mask s) s

-- what the put of an entry leads to
abbrev pub put_state : Entry → List ℕ → ℕ → Translation → State → State
put_state e mask v t s = with_put (put_of e t mask s) e.number v t (put_by e.number v s)

-- ---- what calls say of caches before and after them

-- Nothing changed but the room.
abbrev pub IsSame : Caches → Caches → Type 0
IsSame before after = (after ≡ record before { room = after.room }) × (before.room ≤ after.room)

-- The limit and the rules stay, and what decided frames name.
pub record IsSameCache (before after : Caches) : Type 0 where
  pub limit : after.limit ≡ before.limit
  pub rules : after.rules ≡ before.rules
  pub held : KeepsHeld before.lists after.lists

-- The frame of a place was settled.
pub record IsSettled (key mask : List ℕ) (v : ℕ) (t : Translation) (length_ time : ℕ) (before : Caches) (r : steps.Settled) (after : Caches) : Type 0 where
  pub same : IsSameCache before after
  pub result : (s : State) → AreCachesOf before s → r ≡ settle_result before.limit key mask s
  pub effect : (s : State) (place : ℕ) (frame : Frame) → IsFrameOf length_ time frame → AreCachesOf before s
      → AreCachesOf after (settle_state before.limit key mask place v t frame s)

-- The entry of a number was put.
pub record IsPut (number : ℕ) (mask : List ℕ) (v : ℕ) (t : Translation) (clock : ℕ) (before : Caches) (r : PutDone) (after : Caches) : Type 0 where
  pub same : IsSameCache before after
  pub room : before.room ≤ after.room + 1
  pub result : (s : State) (e : Entry) → AreCachesOf before s → s.clock ≡ clock → entry_of number s.entries ≡ Some e → r ≡ put_of e t mask s
  pub effect : (s : State) (e : Entry) → AreCachesOf before s → s.clock ≡ clock → entry_of number s.entries ≡ Some e
      → AreCachesOf after (put_state e mask v t s)

-- A frame was decided by the entry of a number, under this version and with the actions of this list.
pub record IsHit (number length_ time version list : ℕ) (before after : Caches) : Type 0 where
  pub same : IsSameCache before after
  pub slots : after.slots ≡ before.slots
  pub room : after.room ≡ before.room
  pub decided : (e : Entry) → entry_of number before.entries ≡ Some e → (version ≡ e.version) × IsHeld after.lists list e.actions
  pub effect : (s : State) (place : ℕ) (frame : Frame) → IsFrameOf length_ time frame → AreCachesOf before s
      → AreCachesOf after (decided_by number place frame s)

-- The counts of the entry of a number have room for one more frame of this length.
abbrev pub CanHit : ℕ → ℕ → Caches → Type 0
CanHit number length_ c =
    (e : Entry) × (entry_of number c.entries ≡ Some e)
    × (e.packets + 1 < 2 ^ 64) × (e.bytes + length_ < 2 ^ 64) × (e.owed_packets ≤ e.packets) × (e.owed_bytes ≤ e.bytes)

-- The totals have room for what the settle of a frame leads to,
abbrev pub CanSettle : List ℕ → List ℕ → ℕ → Translation → ℕ → ℕ → Caches → Type 0
CanSettle key mask v t length_ time c = (s : State) (frame : Frame) → AreCachesOf c s → IsFrameOf length_ time frame → HasFewTotals (settle_state c.limit key mask 1 v t frame s)

-- and for what the put of the entry of a number does.
abbrev pub CanPut : ℕ → List ℕ → ℕ → Translation → ℕ → Caches → Type 0
CanPut number mask v t clock c = (s : State) (e : Entry) → AreCachesOf c s → s.clock ≡ clock → entry_of number s.entries ≡ Some e → HasFewTotals (put_state e mask v t s)

-- A frame was decided by a translation: its rules are credited, and its actions are a list that stays.
pub record IsCredited (t : Translation) (length_ : ℕ) (before : Caches) (list : ℕ) (after : Caches) : Type 0 where
  pub same : IsSameCache before after
  pub rest : after ≡ record before { totals = after.totals; lists = after.lists; room = after.room }
  pub totals : (rule : ℕ) → total_of after.totals rule ≡ credited t.visits 1 length_ (total_of before.totals) rule
  pub named : IsHeld after.lists list t.actions
  pub room : before.room ≤ after.room + 1
