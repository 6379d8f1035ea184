-- What a board is.
use Rattle.std.specs.Prelude.{ℕ, ◌-◌, ◌==◌, Bool, true, false, if◌then◌else◌, List, [], replicate, slice_index_or, slice_set, count_by}
use Rattle.spec_actions.specs.declared.action.DpAction.{DpAction}

-- A megaflow: it stands for every key that agrees with its key on its mask. It has the actions and visits of a version
-- of the tables, how many frames it decided, which of them its rules are not credited with yet, and the time of the
-- last of them (that of the frame that it was made for, where it decided none).
pub record Entry : Type 0 where
  pub number : ℕ
  pub key : List ℕ
  pub mask : List ℕ
  pub version : ℕ
  pub actions : List DpAction
  pub visits : List ℕ
  pub packets : ℕ
  pub bytes : ℕ
  pub owed_packets : ℕ
  pub owed_bytes : ℕ
  pub used : ℕ

-- how far the frame of a place is: not looked up, pending, or decided, by a version and with these actions
pub data Place : Type 0 where
  Waiting : Place
  Pending : Place
  Decided : ℕ → List DpAction → Place

-- a slot of the exact-match cache, by its number, with a key and the number of an entry
pub record Slot : Type 0 where
  pub number : ℕ
  pub key : List ℕ
  pub entry : ℕ

-- the packets and bytes that a rule was credited with
pub record Total : Type 0 where
  pub packets : ℕ
  pub bytes : ℕ

-- The block; the newest version that a step carried; the version of the last sweep that began, and of the last that
-- ended; whether one runs, and the numbers of the entries that it has yet to put; the entries, and how many were made;
-- the slots that were written, the latest first; the next place to be looked up; the newest time of a frame that was;
-- each place of the trace; the total of each rule.
pub record State : Type 0 where
  pub block : ℕ
  pub newest : ℕ
  pub floor : ℕ
  pub done : ℕ
  pub is_sweeping : Bool
  pub listed : List ℕ
  pub entries : List Entry
  pub made : ℕ
  pub slots : List Slot
  pub next : ℕ
  pub clock : ℕ
  pub places : List Place
  pub totals : ℕ → Total

-- a new board for a trace of so many frames
abbrev pub opening : ℕ → State
opening frames = record {
  block = 0;
  newest = 0;
  floor = 0;
  done = 0;
  is_sweeping = false;
  listed = [];
  entries = [];
  made = 0;
  slots = [];
  next = 1;
  clock = 0;
  places = replicate frames Waiting;
  totals = λ rule. record { packets = 0; bytes = 0 };
}

-- the frame of a place; places are counted from 1
abbrev pub place_at : ℕ → State → Place
place_at place s = if place == 0 then Waiting else slice_index_or s.places (place - 1) Waiting

abbrev pub with_place : ℕ → Place → State → State
with_place place p s = record s { places = slice_set s.places (place - 1) p }

abbrev pub is_pending : Place → Bool
is_pending Waiting = false
is_pending Pending = true
is_pending (Decided version actions) = false

abbrev pub is_decided : Place → Bool
is_decided Waiting = false
is_decided Pending = false
is_decided (Decided version actions) = true

-- how many frames are pending
abbrev pub pending_count : State → ℕ
pending_count s = count_by is_pending s.places
