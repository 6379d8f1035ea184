-- What each step does to the frames: it decides one that wasn't decided, rightly, or none.
use Rattle.std.proofs.Common.{◌≡◌, ℕ, ◌+◌, ◌-◌, ◌≤◌, true, false, List, length, slice_set, Some, None, ◌⊎◌, inl, inr, refl, sym, ap, ◌∙◌, arith}
use Rattle.std.proofs.lemmas.Bool.{cases_eq, false≢true}
use Rattle.spec_actions.specs.declared.action.DpAction.{DpAction}
use Rattle.spec_keys.specs.Keys.{IsKey}
use Rattle.spec_case.specs.Run.{Run}
use Rattle.spec_case.specs.Blocks.{block_of}
use Rattle.spec_board.specs.declared.looked.Looked.TheVariants.{Exact, Mega, Miss}
use Rattle.spec_board.specs.declared.put_done.PutDone.TheVariants.{Idle, Removed, Kept, Replaced}
use Rattle.spec_board.specs.Steps.{Step, Open, Look, Settle, Begin, Put, End, Settled, Present, Full, Installed}
use Rattle.spec_board.specs.State.{State, Place, Waiting, Pending, Decided, place_at, is_pending, is_decided}
use Rattle.spec_board.specs.Results.{key_at, translated, entry_of}
use Rattle.spec_board.specs.Effects.{effect, decided_as}
use Rattle.spec_board.specs.Journals.{Legal}
use Rattle.spec_board.specs.Decisions.{decided_place, IsInWindow}
use Rattle.board_laws.specs.Entries.{HasKeys, IsMade}
use Rattle.board_laws.specs.Versions.{IsRecent}
use Rattle.board_laws.proofs.Refusals.{MaySettle, may_settle, may_look}
use Rattle.board_laws.proofs.PlaceLaws.{at, at_written, at_others, at_either, pending_from, pending_upto}
use Rattle.board_laws.proofs.BlockFacts.{place_there}
use Rattle.board_laws.proofs.Hits.{Hits, exact_hits, mega_hits}
use Rattle.board_laws.proofs.Right.{right_from-made}
use Rattle.board_laws.proofs.Kept.{key_clean, keys_before}
use Rattle.board_laws.proofs.KeptInOrder.{IsKeptInOrder, IsTaken}

-- The step decides no frame: one that is decided stays so, and one that isn't isn't yet.
pub record Silent (s t : State) (step : Step) : Type 0 where
  pub is : decided_place step ≡ None
  pub same : (place : ℕ) → is_decided (place_at place s) ≡ true → place_at place t ≡ place_at place s
  pub still : (place : ℕ) → is_decided (place_at place s) ≡ false → is_decided (place_at place t) ≡ false

-- The step decides a frame that wasn't decided, by a version and with these actions, as a plain scan does, within its
-- window; others stay.
pub record DecidesAs (run : Run) (port : ℕ) (s t : State) (step : Step) (place version : ℕ) (actions : List DpAction) : Type 0 where
  pub is : decided_place step ≡ Some place
  pub there : place_at place t ≡ Decided version actions
  pub undecided : is_decided (place_at place s) ≡ false
  pub others : (other : ℕ) → (other ≡ place → ⊥) → place_at other t ≡ place_at other s
  pub plain : actions ≡ (translated run version (key_at run port place)).actions
  pub window : IsInWindow run port (record { place = place; version = version; actions = actions; before = s; after = t })

-- The step decides a frame so.
pub record Deciding (run : Run) (port : ℕ) (s t : State) (step : Step) : Type 0 where
  pub place : ℕ
  pub version : ℕ
  pub actions : List DpAction
  pub decides : DecidesAs run port s t step place version actions

pub silent_same : (s t : State) (step : Step) → decided_place step ≡ None → t.places ≡ s.places → Silent s t step
silent_same s t step none e = record {
  is = none;
  same = λ place _. ap (at place) e;
  still = λ place h. ap (λ ps. is_decided (at place ps)) e ∙ h;
}

undecided_pending : (p : Place) → is_pending p ≡ true → is_decided p ≡ false
undecided_pending Waiting h = refl
undecided_pending Pending h = refl
undecided_pending (Decided w a) h = absurd (false≢true h)

module _ (run : Run) (port limit : ℕ) (s : State) (k : IsKeptInOrder run port limit s) where
  -- ---- looks

  -- a place that is next, in the block of the board, is one of its places
  pub there : (place : ℕ) → (place ≡ s.next) × (block_of run port place ≡ s.block) → (1 ≤ place) × (place ≤ length s.places)
  there place may =
      let turn = may.0 in
      let block = may.1 in
      let in_trace = place_there run port place (omega (arith, block, k.versions.block_there)) in
      (omega (arith, turn, k.kept.places.from_one), omega (arith, in_trace, k.kept.places.all_places))

  -- and waits
  pub waits : (place : ℕ) → (place ≡ s.next) × (block_of run port place ≡ s.block) → place_at place s ≡ Waiting
  waits place may = let turn = may.0 in k.kept.places.waiting place (omega (arith, turn))

  missed : (place : ℕ) → Legal run port limit s (Look place Miss) → Silent s (effect run port s (Look place Miss)) (Look place Miss)
  missed missing legal = record {
    is = refl;
    same = λ place h. (by_cases place (cases_eq place missing)).0 h;
    still = λ place h. (by_cases place (cases_eq place missing)).1 h;
  }
    where
      first : 1 ≤ missing
      first = (there missing (may_look run port s missing legal.0)).0

      written : List Place
      written = slice_set s.places (missing - 1) Pending

      undecided : (at missing written ≡ Pending) ⊎ (at missing written ≡ Waiting) → is_decided (at missing written) ≡ false
      undecided (inl e) = ap is_decided e
      undecided (inr e) = ap is_decided e

      not_yet : (place : ℕ) → place ≡ missing → is_decided (place_at place s) ≡ false
      not_yet place e = ap (λ i. is_decided (place_at i s)) e ∙ ap is_decided (waits missing (may_look run port s missing legal.0))

      by_cases : (place : ℕ) → (place ≡ missing) ⊎ (place ≡ missing → ⊥)
          → (is_decided (place_at place s) ≡ true → at place written ≡ place_at place s) × (is_decided (place_at place s) ≡ false → is_decided (at place written) ≡ false)
      by_cases place (inl e) = (
        λ h. absurd (false≢true (sym (not_yet place e) ∙ h)),
        λ _. ap (λ i. is_decided (at i written)) e ∙ undecided (at_either s.places missing Pending first),
      )
      by_cases place (inr n) = (
        λ _. at_others s.places missing place Pending first n,
        λ h. ap is_decided (at_others s.places missing place Pending first n) ∙ h,
      )

  -- the entry that a look found
  pub exact_hit : (place n : ℕ) → Legal run port limit s (Look place (Exact n)) → Hits s (key_at run port place) n
  exact_hit place n legal = exact_hits s k.kept.apart.rising k.kept.slots (key_at run port place) n legal.1

  pub mega_hit : (place n : ℕ) → Legal run port limit s (Look place (Mega n)) → Hits s (key_at run port place) n
  mega_hit place n legal = mega_hits s k.kept.apart.rising k.kept.slots (key_at run port place) n legal.1

  -- a look that hits
  hit_decides : (t : State) (step : Step) (place n : ℕ) → (place ≡ s.next) × (block_of run port place ≡ s.block) → HasKeys run port (s.next + 1)
      → (h : Hits s (key_at run port place) n) → t.places ≡ slice_set s.places (place - 1) (decided_as (entry_of n s.entries)) → t.newest ≡ s.newest
      → decided_place step ≡ Some place → DecidesAs run port s t step place h.entry.version h.entry.actions
  hit_decides t step place n may keys h ps newest is = record {
    is = is;
    there = ap (at place) ps ∙ ap (λ o. at place (slice_set s.places (place - 1) (decided_as o))) h.is ∙ at_written s.places place decided first last;
    undecided = ap is_decided (waits place may);
    others = λ other n'. ap (at other) ps ∙ at_others s.places place other _ first n';
    plain = (right_from-made run h.entry made).actions (key_at run port place) key_is (key_clean run port place) h.covers;
    window = record {
      not_older = r.not_older;
      not_newer = omega (arith, newest, r.not_newer);
      from_block = rw may.1 (omega (arith, k.versions.from_block, r.not_older));
      within_block = rw may.1 (omega (arith, k.versions.within_block, r.not_newer));
    };
  }
    where
      first : 1 ≤ place
      first = (there place may).0

      last : place ≤ length s.places
      last = (there place may).1

      decided : Place
      decided = Decided h.entry.version h.entry.actions

      r : IsRecent s h.entry
      r = k.recent h.entry h.live

      made : IsMade run h.entry
      made = k.kept.made (keys_before run port s.next (s.next + 1) (omega arith) keys) h.entry h.live

      key_is : IsKey (key_at run port place)
      key_is = keys place first (let turn = may.0 in omega (arith, turn))

  pub exact_decides : (place n : ℕ) (legal : Legal run port limit s (Look place (Exact n))) → HasKeys run port (effect run port s (Look place (Exact n))).next
      → let e = (exact_hit place n legal).entry in DecidesAs run port s (effect run port s (Look place (Exact n))) (Look place (Exact n)) place e.version e.actions
  exact_decides place n legal keys = hit_decides _ _ place n (may_look run port s place legal.0) keys (exact_hit place n legal) refl refl refl

  pub mega_decides : (place n : ℕ) (legal : Legal run port limit s (Look place (Mega n))) → HasKeys run port (effect run port s (Look place (Mega n))).next
      → let e = (mega_hit place n legal).entry in DecidesAs run port s (effect run port s (Look place (Mega n))) (Look place (Mega n)) place e.version e.actions
  mega_decides place n legal keys = hit_decides _ _ place n (may_look run port s place legal.0) keys (mega_hit place n legal) refl refl refl

  -- ---- settles

  settle_decides : (t : State) (step : Step) (place v : ℕ) → MaySettle run s place v
      → t.places ≡ slice_set s.places (place - 1) (Decided v (translated run v (key_at run port place)).actions) → v ≤ t.newest → decided_place step ≡ Some place
      → DecidesAs run port s t step place v (translated run v (key_at run port place)).actions
  settle_decides t step place v may ps newest is = record {
    is = is;
    there = ap (at place) ps ∙ at_written s.places place _ first (pending_upto s.places place may.pending);
    undecided = undecided_pending (place_at place s) may.pending;
    others = λ other n'. ap (at other) ps ∙ at_others s.places place other _ first n';
    plain = refl;
    window = record {
      not_older = omega (arith, k.versions.done_floor, may.not_stale);
      not_newer = newest;
      from_block = rw in_block (omega (arith, k.versions.from_block, k.versions.done_floor, may.not_stale));
      within_block = rw in_block may.not_ahead;
    };
  }
    where
      first : 1 ≤ place
      first = pending_from s.places place may.pending

      in_block : block_of run port place ≡ s.block
      in_block = k.kept.places.in_block place may.pending

  pub settled : (place v : ℕ) (r : Settled) → Legal run port limit s (Settle place v r)
      → DecidesAs run port s (effect run port s (Settle place v r)) (Settle place v r) place v (translated run v (key_at run port place)).actions
  settled place v (Present n) legal = settle_decides _ _ place v (may_settle run s place v legal.0) refl (omega arith) refl
  settled place v Full legal = settle_decides _ _ place v (may_settle run s place v legal.0) refl (omega arith) refl
  settled place v (Installed n numbers) legal = settle_decides _ _ place v (may_settle run s place v legal.0) refl (omega arith) refl

  -- ---- all steps

  told_by : (step : Step) → Legal run port limit s step → HasKeys run port (effect run port s step).next
      → Silent s (effect run port s step) step ⊎ Deciding run port s (effect run port s step) step
  told_by (Open block) legal keys = inl (silent_same _ _ _ refl refl)
  told_by (Look place (Exact n)) legal keys = inr (record { place = place; version = _; actions = _; decides = exact_decides place n legal keys })
  told_by (Look place (Mega n)) legal keys = inr (record { place = place; version = _; actions = _; decides = mega_decides place n legal keys })
  told_by (Look place Miss) legal keys = inl (missed place legal)
  told_by (Settle place v (Present n)) legal keys = inr (record { place = place; version = v; actions = _; decides = settled place v (Present n) legal })
  told_by (Settle place v Full) legal keys = inr (record { place = place; version = v; actions = _; decides = settled place v Full legal })
  told_by (Settle place v (Installed n numbers)) legal keys = inr (record { place = place; version = v; actions = _; decides = settled place v (Installed n numbers) legal })
  told_by (Begin v) legal keys = inl (silent_same _ _ _ refl refl)
  told_by (Put n v Idle) legal keys = inl (silent_same _ _ _ refl refl)
  told_by (Put n v Removed) legal keys = inl (silent_same _ _ _ refl refl)
  told_by (Put n v Kept) legal keys = inl (silent_same _ _ _ refl refl)
  told_by (Put n v Replaced) legal keys = inl (silent_same _ _ _ refl refl)
  told_by End legal keys = inl (silent_same _ _ _ refl refl)

pub told : (run : Run) (port limit : ℕ) (s : State) (step : Step) → IsTaken run port limit s step
    → Silent s (effect run port s step) step ⊎ Deciding run port s (effect run port s step) step
told run port limit s step taken = told_by run port limit s taken.kept step taken.legal taken.keys
