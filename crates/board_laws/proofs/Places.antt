-- The places of a board: what every step keeps.
use Rattle.std.proofs.Common.{◌≡◌, ℕ, ◌+◌, ◌-◌, ◌≤◌, true, List, [], ◌∷◌, length, slice_set, length-set, ◌⊎◌, inl, inr, refl, sym, ap, ◌∙◌, arith}
use Rattle.std.proofs.lemmas.Bool.{cases_eq, false≢true}
use Rattle.std.proofs.lemmas.List.{length-replicate}
use Rattle.spec_case.specs.Run.{Run, frames_of}
use Rattle.spec_case.specs.Blocks.{block_of}
use Rattle.spec_board.specs.declared.looked.Looked.TheVariants.{Exact, Mega, Miss}
use Rattle.spec_board.specs.declared.put_done.PutDone.TheVariants.{Idle, Removed, Kept, Replaced}
use Rattle.spec_board.specs.Steps.{Step, Open, Look, Settle, Begin, Put, End, Present, Full, Installed}
use Rattle.spec_board.specs.State.{State, Place, Waiting, Pending, place_at, is_pending}
use Rattle.spec_board.specs.Results.{entry_of}
use Rattle.spec_board.specs.Effects.{effect, decided_as}
use Rattle.spec_board.specs.Journals.{Legal, opened, after}
use Rattle.board_laws.specs.Places.{ArePlaces}
use Rattle.board_laws.proofs.Refusals.{MaySettle, may_settle, may_look, may_open}
use Rattle.board_laws.proofs.PlaceLaws.{at, at_others, pending_from, none_pending, waiting_at}
use Rattle.board_laws.proofs.Journals.{after_all}

pub places_opened : (run : Run) (port : ℕ) → ArePlaces run port (opened run port)
places_opened run port = let n = length (frames_of run port) in record {
  all_places = length-replicate n Waiting;
  from_one = omega arith;
  waiting = λ place _. waiting_at n place;
  in_block = λ place h. absurd (false≢true (ap is_pending (sym (waiting_at n place)) ∙ h));
}

module _ (run : Run) (port limit : ℕ) (s : State) (k : ArePlaces run port s) where
  -- one place is written
  written : (t : State) (place : ℕ) (p : Place) → t.places ≡ slice_set s.places (place - 1) p → t.block ≡ s.block → 1 ≤ place → 1 ≤ t.next
      → ((other : ℕ) → t.next ≤ other → (other ≡ place → ⊥) × (s.next ≤ other)) → block_of run port place ≡ s.block → ArePlaces run port t
  written t place p ps b first next later block = record {
    all_places = ap length ps ∙ length-set s.places (place - 1) p ∙ k.all_places;
    from_one = next;
    waiting = λ other h. ap (at other) ps ∙ at_others s.places place other p first (later other h).0 ∙ k.waiting other (later other h).1;
    in_block = λ other h. by_cases other (ap (λ qs. is_pending (at other qs)) (sym ps) ∙ h) (cases_eq other place) ∙ sym b;
  }
    where
      by_cases : (other : ℕ) → is_pending (at other (slice_set s.places (place - 1) p)) ≡ true → (other ≡ place) ⊎ (other ≡ place → ⊥) → block_of run port other ≡ s.block
      by_cases other h (inl e) = ap (block_of run port) e ∙ block
      by_cases other h (inr n) = k.in_block other (ap is_pending (sym (at_others s.places place other p first n)) ∙ h)

  looked_keeps : (t : State) (place : ℕ) (p : Place) → t.places ≡ slice_set s.places (place - 1) p → t.block ≡ s.block → t.next ≡ s.next + 1
      → (place ≡ s.next) × (block_of run port place ≡ s.block) → ArePlaces run port t
  looked_keeps t place p ps b n may =
      let turn = may.0 in
      written t place p ps b (omega (arith, turn, k.from_one)) (omega (arith, n)) (λ other h. (λ e. omega (arith, e, turn, n, h), omega (arith, n, h))) may.1

  settled_keeps : (t : State) (place v : ℕ) (p : Place) → t.places ≡ slice_set s.places (place - 1) p → t.block ≡ s.block → t.next ≡ s.next
      → MaySettle run s place v → ArePlaces run port t
  settled_keeps t place v p ps b n may =
      written t place p ps b (pending_from s.places place may.pending) (omega (arith, n, k.from_one))
      (λ other h. (λ e. differs other (omega (arith, n, h)) e, omega (arith, n, h))) (k.in_block place may.pending)
    where
      differs : (other : ℕ) → s.next ≤ other → other ≡ place → ⊥
      differs other h e = false≢true (sym (ap is_pending (k.waiting other h)) ∙ ap (λ i. is_pending (place_at i s)) e ∙ may.pending)

  same : (t : State) → t.places ≡ s.places → t.block ≡ s.block → t.next ≡ s.next → ArePlaces run port t
  same t ps b n = record {
    all_places = ap length ps ∙ k.all_places;
    from_one = omega (arith, n, k.from_one);
    waiting = λ place h. ap (at place) ps ∙ k.waiting place (omega (arith, n, h));
    in_block = λ place h. k.in_block place (ap (λ qs. is_pending (at place qs)) (sym ps) ∙ h) ∙ sym b;
  }

  open_keeps : (block : ℕ) → Legal run port limit s (Open block) → ArePlaces run port (effect run port s (Open block))
  open_keeps block legal = let m = may_open run port s block legal in record {
    all_places = k.all_places;
    from_one = k.from_one;
    waiting = k.waiting;
    in_block = λ place h. absurd (none_pending s.places place m.none_pending h);
  }

  pub places_keep : (step : Step) → Legal run port limit s step → ArePlaces run port (effect run port s step)
  places_keep (Open block) legal = open_keeps block legal
  places_keep (Look place (Exact n)) legal = looked_keeps _ place (decided_as (entry_of n s.entries)) refl refl refl (may_look run port s place legal.0)
  places_keep (Look place (Mega n)) legal = looked_keeps _ place (decided_as (entry_of n s.entries)) refl refl refl (may_look run port s place legal.0)
  places_keep (Look place Miss) legal = looked_keeps _ place Pending refl refl refl (may_look run port s place legal.0)
  places_keep (Settle place v (Present n)) legal = settled_keeps _ place v _ refl refl refl (may_settle run s place v legal.0)
  places_keep (Settle place v Full) legal = settled_keeps _ place v _ refl refl refl (may_settle run s place v legal.0)
  places_keep (Settle place v (Installed n numbers)) legal = settled_keeps _ place v _ refl refl refl (may_settle run s place v legal.0)
  places_keep (Begin v) legal = same _ refl refl refl
  places_keep (Put n v Idle) legal = same _ refl refl refl
  places_keep (Put n v Removed) legal = same _ refl refl refl
  places_keep (Put n v Kept) legal = same _ refl refl refl
  places_keep (Put n v Replaced) legal = same _ refl refl refl
  places_keep End legal = same _ refl refl refl

-- ---- how many places there are, legal or not

length-places : (run : Run) (port : ℕ) (s : State) (step : Step) → length (effect run port s step).places ≡ length s.places
length-places run port s (Open block) = refl
length-places run port s (Look place (Exact n)) = length-set s.places (place - 1) _
length-places run port s (Look place (Mega n)) = length-set s.places (place - 1) _
length-places run port s (Look place Miss) = length-set s.places (place - 1) _
length-places run port s (Settle place v (Present n)) = length-set s.places (place - 1) _
length-places run port s (Settle place v Full) = length-set s.places (place - 1) _
length-places run port s (Settle place v (Installed n numbers)) = length-set s.places (place - 1) _
length-places run port s (Begin v) = refl
length-places run port s (Put n v Idle) = refl
length-places run port s (Put n v Removed) = refl
length-places run port s (Put n v Kept) = refl
length-places run port s (Put n v Replaced) = refl
length-places run port s End = refl

length-places_all : (run : Run) (port : ℕ) (s : State) (steps : List Step) → length (after_all run port s steps).places ≡ length s.places
length-places_all run port s [] = refl
length-places_all run port s (step ∷ steps) = length-places_all run port (effect run port s step) steps ∙ length-places run port s step

pub all_places : (run : Run) (port : ℕ) (steps : List Step) → length (after run port steps).places ≡ length (frames_of run port)
all_places run port steps = length-places_all run port (opened run port) steps ∙ length-replicate (length (frames_of run port)) Waiting
