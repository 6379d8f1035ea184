-- What every legal journal of a board has.
use Rattle.std.proofs.Common.{◌≡◌, ℕ, zero, suc, ◌-◌, ◌<◌, ◌≤◌, true, List, [], ◌∷◌, length, slice_index_or, All, ◌⊎◌, inl, inr, sym, ap, ◌∙◌, arith}
use Rattle.std.proofs.lemmas.Bool.{cases_lt, false≢true}
use Rattle.spec_keys.specs.Keys.{IsKey, IsClean}
use Rattle.spec_pcap.specs.Pcap.{Frame}
use Rattle.spec_case.specs.Run.{Run, frames_of}
use Rattle.spec_board.specs.Steps.{Step}
use Rattle.spec_board.specs.State.{Entry, Slot, State, place_at, is_pending}
use Rattle.spec_board.specs.Results.{key_at}
use Rattle.spec_board.specs.Effects.{effect}
use Rattle.spec_board.specs.Journals.{Legal, IsLegal, opened, after}
use Rattle.table_laws.proofs.MemberLaws.{Among}
use Rattle.frame_laws.proofs.keys.KeyLaws.{key_of-IsClean, key_of-IsKey}
use Rattle.board_laws.specs.Entries.{AreOfBytes, HasKeys, IsMade}
use Rattle.board_laws.specs.Places.{ArePlaces}
use Rattle.board_laws.proofs.PlaceLaws.{pending_from}
use Rattle.board_laws.proofs.Journals.{kept_along, next_le}
use Rattle.board_laws.proofs.Origins.{origin}
use Rattle.board_laws.proofs.Apart.{AreEntriesApart, apart_opened, apart_keeps}
use Rattle.board_laws.proofs.Places.{places_opened, places_keep}
use Rattle.board_laws.proofs.Right.{made_by}
use Rattle.board_laws.proofs.Hits.{IsSlot}
use Rattle.board_laws.proofs.Slots.{slots_keep}
use Rattle.board_laws.proofs.Few.{few_keep}
use Rattle.board_laws.proofs.Listed.{AreListed, listed_keeps}

-- ---- keys of frames

bytes_at : (frames : List Frame) (i : ℕ) → All (λ (f : Frame). All (λ byte. byte < 256) f.bytes) frames
    → All (λ byte. byte < 256) (slice_index_or frames i (record { time = 0; bytes = [] })).bytes
bytes_at [] i h = λ k d l. absurd (omega (arith, l))
bytes_at (f ∷ fs) zero h = h 0 f (omega arith)
bytes_at (f ∷ fs) (suc i) h = bytes_at fs i (λ k d l. h (suc k) d (omega (arith, l)))

pub keys_of_bytes : (run : Run) (port : ℕ) → AreOfBytes run port → (next : ℕ) → HasKeys run port next
keys_of_bytes run port h next =
    λ place _ _. key_of-IsKey _ (bytes_at (frames_of run port) (place - 1) h.of_bytes) port h.of_16_bits

pub key_clean : (run : Run) (port : ℕ) (place : ℕ) → IsClean (key_at run port place)
key_clean run port place = key_of-IsClean port _

-- frames of which more were looked up have keys
pub keys_before : (run : Run) (port less more : ℕ) → less ≤ more → HasKeys run port more → HasKeys run port less
keys_before run port less more le keys place first last = keys place first (omega (arith, le, last))

-- a pending place was looked up
pending_before : (run : Run) (port : ℕ) (s : State) → ArePlaces run port s → (place : ℕ) → is_pending (place_at place s) ≡ true
    → (1 ≤ place) × (place < s.next)
pending_before run port s k place h = (pending_from s.places place h, at (cases_lt place s.next))
  where
    at : (place < s.next) ⊎ (s.next ≤ place) → place < s.next
    at (inl l) = l
    at (inr l) = absurd (false≢true (sym (ap is_pending (k.waiting place l)) ∙ h))

-- ---- what every step keeps

pub record IsKept (run : Run) (port limit : ℕ) (s : State) : Type 0 where
  pub places : ArePlaces run port s
  pub apart : AreEntriesApart s
  pub few : length s.entries ≤ limit
  pub listed : AreListed s
  pub slots : (x : Slot) → Among x s.slots → IsSlot s x
  pub made : HasKeys run port s.next → (e : Entry) → Among e s.entries → IsMade run e

pub kept_opened : (run : Run) (port limit : ℕ) → IsKept run port limit (opened run port)
kept_opened run port limit = record {
  places = places_opened run port;
  apart = apart_opened run port;
  few = omega arith;
  listed = record { rising = tt; live = λ n a. absurd a };
  slots = λ x m. absurd m;
  made = λ keys e m. absurd m;
}

pub kept_keeps : (run : Run) (port limit : ℕ) (s : State) → IsKept run port limit s → (step : Step) → Legal run port limit s step
    → IsKept run port limit (effect run port s step)
kept_keeps run port limit s k step legal = record {
  places = places_keep run port limit s k.places step legal;
  apart = apart_keeps run port limit s k.apart step legal;
  few = few_keep run port limit s k.few step legal;
  listed = listed_keeps run port limit s k.apart.rising k.listed step legal;
  slots = slots_keep run port limit s k.apart k.slots step legal;
  made = λ keys e m.
      let before = keys_before run port s.next (effect run port s step).next (next_le run port s step) keys in
      made_by run port s (effect run port s step) (pending_key before) (key_clean run port) (k.made before) e
      (origin run port limit s k.apart.rising step legal e m);
}
  where
    pending_key : HasKeys run port s.next → (place : ℕ) → is_pending (place_at place s) ≡ true → IsKey (key_at run port place)
    pending_key keys place h = let b = pending_before run port s k.places place h in keys place b.0 b.1

pub kept_after : (run : Run) (port limit : ℕ) (steps : List Step) → IsLegal run port limit steps → IsKept run port limit (after run port steps)
kept_after run port limit steps legal =
    kept_along run port limit (IsKept run port limit) (kept_keeps run port limit) (opened run port) (kept_opened run port limit) steps legal
