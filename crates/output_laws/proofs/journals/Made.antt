-- How many entries a board has made: together with the places that are pending no more than the places that were looked up.
use Rattle.std.proofs.Common.{◌≡◌, ℕ, ◌+◌, ◌-◌, ◌≤◌, true, false, if◌then◌else◌, length, slice_set, count_by, List, Option, Some, None, refl, arith}
use Rattle.spec_actions.specs.declared.action.DpAction.{DpAction}
use Rattle.spec_case.specs.Run.{Run, last_version, frames_of}
use Rattle.spec_case.specs.Blocks.{AreInOrder, block_of}
use Rattle.spec_board.specs.declared.looked.Looked.TheVariants.{Exact, Mega, Miss}
use Rattle.spec_board.specs.declared.put_done.PutDone.TheVariants.{Idle, Removed, Kept, Replaced}
use Rattle.spec_board.specs.Steps.{Step, Open, Look, Settle, Begin, Put, End, Present, Full, Installed}
use Rattle.spec_board.specs.State.{Entry, State, Place, Pending, Decided, is_pending, place_at, pending_count}
use Rattle.spec_board.specs.Results.{key_at, translated, entry_of}
use Rattle.spec_board.specs.Effects.{effect, decided_as}
use Rattle.spec_board.specs.Journals.{Legal, opened}
use Rattle.board_laws.proofs.PlaceLaws.{waiting_written, decided_written, none_pending_yet}
use Rattle.board_laws.proofs.Refusals.{may_look, may_settle}
use Rattle.board_laws.proofs.Origins.{installs}
use Rattle.board_laws.proofs.KeptInOrder.{IsKeptInOrder, ordered_opened, ordered_keeps}
use Rattle.board_laws.proofs.Told.{there, waits}

-- what every legal step keeps
pub record IsCounted (run : Run) (port limit : ℕ) (s : State) : Type 0 where
  pub kept : IsKeptInOrder run port limit s
  pub made : s.made + pending_count s + 1 ≤ s.next
  pub looked : s.next ≤ length (frames_of run port) + 1

pub counted_opened : (run : Run) (port limit : ℕ) → IsCounted run port limit (opened run port)
counted_opened run port limit =
    let none = none_pending_yet (length (frames_of run port)) in
    record { kept = ordered_opened run port limit; made = omega (arith, none); looked = omega arith }

module _ (run : Run) (port limit : ℕ) (s : State) (c : IsCounted run port limit s) where
  -- the place that is looked up is one of the trace
  pub place_within : (place : ℕ) → (place ≡ s.next) × (block_of run port place ≡ s.block) → place ≤ length (frames_of run port)
  place_within place may =
      let h = (there run port limit s c.kept place may).1 in omega (arith, h, c.kept.kept.places.all_places)

  next_within : (place : ℕ) → (place ≡ s.next) × (block_of run port place ≡ s.block) → s.next + 1 ≤ length (frames_of run port) + 1
  next_within place may = let turn = may.0 in omega (arith, turn, place_within place may)

  -- and after it as many are pending as before, with this one where it is
  written : (place : ℕ) (p : Place) → (place ≡ s.next) × (block_of run port place ≡ s.block)
      → count_by is_pending (slice_set s.places (place - 1) p) ≡ pending_count s + (if is_pending p then 1 else 0)
  written place p may =
      let h = there run port limit s c.kept place may in
      waiting_written s.places place p h.0 h.1 (waits run port limit s c.kept place may)

  -- what an entry decides isn't pending
  none_more : (o : Option Entry) → is_pending (decided_as o) ≡ false
  none_more (Some e) = refl
  none_more None = refl

  hit_written : (place n : ℕ) → (place ≡ s.next) × (block_of run port place ≡ s.block)
      → count_by is_pending (slice_set s.places (place - 1) (decided_as (entry_of n s.entries))) ≡ pending_count s
  hit_written place n may =
      let w = written place (decided_as (entry_of n s.entries)) may in
      let none = rw (none_more (entry_of n s.entries)) at w in omega (arith, none)

  -- one is pending less after a settle
  pub settled : (place v : ℕ) (actions : List DpAction) → is_pending (place_at place s) ≡ true
      → count_by is_pending (slice_set s.places (place - 1) (Decided v actions)) + 1 ≡ pending_count s
  settled place v actions pending = decided_written s.places place v actions pending

  made_keeps : (step : Step) → Legal run port limit s step
      → (effect run port s step).made + pending_count (effect run port s step) + 1 ≤ (effect run port s step).next
  made_keeps (Open block) legal = c.made
  made_keeps (Look place (Exact n)) legal =
      let w = hit_written place n (may_look run port s place legal.0) in omega (arith, w, c.made)
  made_keeps (Look place (Mega n)) legal =
      let w = hit_written place n (may_look run port s place legal.0) in omega (arith, w, c.made)
  made_keeps (Look place Miss) legal =
      let w = written place Pending (may_look run port s place legal.0) in omega (arith, w, c.made)
  made_keeps (Settle place v (Present n)) legal =
      let w = settled place v (translated run v (key_at run port place)).actions (may_settle run s place v legal.0).pending in
      omega (arith, w, c.made)
  made_keeps (Settle place v Full) legal =
      let w = settled place v (translated run v (key_at run port place)).actions (may_settle run s place v legal.0).pending in
      omega (arith, w, c.made)
  made_keeps (Settle place v (Installed n numbers)) legal =
      let w = settled place v (translated run v (key_at run port place)).actions (may_settle run s place v legal.0).pending in
      let number = (installs run port limit s place v n numbers legal).number in
      omega (arith, w, number, c.made)
  made_keeps (Begin v) legal = c.made
  made_keeps (Put n v Idle) legal = c.made
  made_keeps (Put n v Removed) legal = c.made
  made_keeps (Put n v Kept) legal = c.made
  made_keeps (Put n v Replaced) legal = c.made
  made_keeps End legal = c.made

  looked_keeps : (step : Step) → Legal run port limit s step → (effect run port s step).next ≤ length (frames_of run port) + 1
  looked_keeps (Open block) legal = c.looked
  looked_keeps (Look place (Exact n)) legal = next_within place (may_look run port s place legal.0)
  looked_keeps (Look place (Mega n)) legal = next_within place (may_look run port s place legal.0)
  looked_keeps (Look place Miss) legal = next_within place (may_look run port s place legal.0)
  looked_keeps (Settle place v (Present n)) legal = c.looked
  looked_keeps (Settle place v Full) legal = c.looked
  looked_keeps (Settle place v (Installed n numbers)) legal = c.looked
  looked_keeps (Begin v) legal = c.looked
  looked_keeps (Put n v Idle) legal = c.looked
  looked_keeps (Put n v Removed) legal = c.looked
  looked_keeps (Put n v Kept) legal = c.looked
  looked_keeps (Put n v Replaced) legal = c.looked
  looked_keeps End legal = c.looked

  pub counted_keeps : AreInOrder run.syncs (last_version run) → (step : Step) → Legal run port limit s step → IsCounted run port limit (effect run port s step)
  counted_keeps in_order step legal = record {
    kept = ordered_keeps run port limit in_order s c.kept step legal;
    made = made_keeps step legal;
    looked = looked_keeps step legal;
  }
