-- The next frame of a board is decided by an entry that a look finds, or by a settle.
use Rattle.std.proofs.Common.{◌≡◌, ◌⊎◌, inl, inr, ℕ, ◌≤◌, true, None, length, refl, sym, ap, ◌∙◌, subst, arith}
use Rattle.spec_keys.specs.Keys.{IsKey}
use Rattle.spec_case.specs.Run.{Run}
use Rattle.spec_case.specs.Blocks.{hi, last_block, block_of}
use Rattle.spec_board.specs.declared.looked.Looked.{Looked}
use Rattle.spec_board.specs.declared.looked.Looked.TheVariants.{Exact, Mega, Miss}
use Rattle.spec_board.specs.Steps as steps
use Rattle.spec_board.specs.State.{State, Waiting, Decided, place_at, is_pending}
use Rattle.spec_board.specs.Results.{key_at, entry_of}
use Rattle.spec_board.specs.Schedules as schedules
use Rattle.spec_board.specs.Refusals.{look_fault, settle_fault}
use Rattle.spec_board.specs.Effects.{effect, decided_as}
use Rattle.spec_board.specs.Journals.{IsLegal}
use Rattle.run_case.specs.Places.{HasPlace, IsInBlock}
use Rattle.run_case.proofs.blocks.Blocks.{block_of-from_in}
use Rattle.table_laws.proofs.MemberLaws.{All-Among}
use Rattle.board_laws.specs.Entries.{IsRight}
use Rattle.board_laws.specs.Versions.{IsRecent}
use Rattle.board_laws.proofs.Hits.{Hits, exact_hits, mega_hits}
use Rattle.board_laws.proofs.Kept.{kept_after, key_clean}
use Rattle.pmd_board.specs.BoardView.{BoardView, Appends, HasSettled, IsLawful, state_of}
use Rattle.run_boards.specs.Progress.{planned, IsSwept, SettlesAsPlanned}
use Rattle.run_boards.specs.Scheduled.{under_way}
use Rattle.step_runner.proofs.Progress.{Decides, may_look, may_settle, exact_decides, mega_decides, pending_then, settles_at, settled_decides, as_planned}
use Rattle.run_boards.proofs.Scheduled.{state_after, stepped, settled_step, decided_next}

-- The frame of a place is next at a board, whose sweep of the block's last version was completed.
pub record IsNext (run : Run) (b : BoardView) (block place : ℕ) : Type 0 where
  pub legal : IsLegal run b.port b.flow_limit b.journal
  pub lawful : IsLawful run b
  pub swept : IsSwept run (state_of run b) block
  pub turn : place ≡ (state_of run b).next
  pub first : 1 ≤ place
  pub last : place ≤ length (state_of run b).places
  pub waits : place_at place (state_of run b) ≡ Waiting
  pub in_block : block_of run b.port place ≡ block
  pub is_key : IsKey (key_at run b.port place)

-- as it is found by the key that the run has of the place
pub is_next : (run : Run) (b : BoardView) (block place at_port at_place : ℕ) → IsLegal run b.port b.flow_limit b.journal → IsLawful run b → IsSwept run (state_of run b) block → (state_of run b).next ≡ place
    → HasPlace run b.port place → IsInBlock run b.port block place → at_port ≡ b.port → at_place ≡ place → IsKey (key_at run at_port at_place) → IsNext run b block place
is_next run b block place at_port at_place legal lawful swept turn has_place in_block port is at_key =
    let places = lawful.places in
    let there : block ≤ last_block run = subst (λ k. k ≤ last_block run) swept.at_rest.in_block lawful.versions.block_there in record {
      legal = legal;
      lawful = lawful;
      swept = swept;
      turn = sym turn;
      first = has_place.0;
      last = (let upto = has_place.1 in let all = places.all_places in omega (arith, upto, all));
      waits = places.waiting place (omega (arith, turn));
      in_block = block_of-from_in run b.port block place there in_block;
      is_key = subst (λ p. IsKey (key_at run p place)) port (subst (λ i. IsKey (key_at run at_port i)) is at_key);
    }

-- An entry that a look finds after the block's sweep decides the frame as is planned: it was translated under the last
-- version of the block, and is right.
hit_planned : (run : Run) (b : BoardView) (block place n : ℕ) → IsNext run b block place
    → Hits (state_of run b) (key_at run b.port place) n → decided_as (entry_of n (state_of run b).entries) ≡ planned run b.port place
hit_planned run b block place n next hits =
    let s = state_of run b in
    let e = hits.entry in
    let recent = All-Among (IsRecent s) s.entries next.lawful.recent e hits.live in
    let right = All-Among (IsRight run) s.entries next.lawful.right e hits.live in
    let within = next.lawful.versions.within_block in
    let same = ap (hi run) next.swept.at_rest.in_block in
    let version : e.version ≡ hi run block = omega (arith, recent.not_older, recent.not_newer, within, same, next.swept.swept) in
    ap decided_as hits.is
    ∙ ap (Decided e.version) (right.actions (key_at run b.port place) next.is_key (key_clean run b.port place) hits.covers)
    ∙ as_planned run b.port place block e.version next.in_block version

module _ (run : Run) (b : BoardView) (block place : ℕ) (next : IsNext run b block place) where
  pub look_allowed : look_fault run b.port (state_of run b) place ≡ None
  look_allowed = may_look run b.port (state_of run b) place next.turn (next.in_block ∙ sym next.swept.at_rest.in_block)

  -- ---- an entry decides it

  exact_next : (n : ℕ) (new : BoardView) → Appends run b (steps.Look place (Exact n)) new → Decides run b.port (state_of run b) (state_of run new) place
  exact_next n new appends =
      let s = state_of run b in
      let k = kept_after run b.port b.flow_limit b.journal next.legal in
      let hits = exact_hits s k.apart.rising k.slots (key_at run b.port place) n appends.legal.1 in
      subst (λ (t : State). Decides run b.port s t place) (sym (state_after run b new (steps.Look place (Exact n)) appends))
      (exact_decides run b.port s place next.first next.last next.waits n (hit_planned run b block place n next hits))

  mega_next : (n : ℕ) (new : BoardView) → Appends run b (steps.Look place (Mega n)) new → Decides run b.port (state_of run b) (state_of run new) place
  mega_next n new appends =
      let s = state_of run b in
      let k = kept_after run b.port b.flow_limit b.journal next.legal in
      let hits = mega_hits s k.apart.rising k.slots (key_at run b.port place) n appends.legal.1 in
      subst (λ (t : State). Decides run b.port s t place) (sym (state_after run b new (steps.Look place (Mega n)) appends))
      (mega_decides run b.port s place next.first next.last next.waits n (hit_planned run b block place n next hits))

  module _ (r : Looked) (new : BoardView) (appends : Appends run b (steps.Look place r) new) (hit : ((n : ℕ) × (r ≡ Exact n)) ⊎ ((n : ℕ) × (r ≡ Mega n))) where
    pub hit_decides : Decides run b.port (state_of run b) (state_of run new) place
    hit_decides = by_cases hit
      where
        by_cases : ((n : ℕ) × (r ≡ Exact n)) ⊎ ((n : ℕ) × (r ≡ Mega n)) → Decides run b.port (state_of run b) (state_of run new) place
        by_cases (inl (n, is)) = exact_next n new (subst (λ (x : Looked). Appends run b (steps.Look place x) new) is appends)
        by_cases (inr (n, is)) = mega_next n new (subst (λ (x : Looked). Appends run b (steps.Look place x) new) is appends)

    pub hit_scheduled : (v : ℕ) → under_way run new ≡ schedules.decide_next run v (under_way run b) place
    hit_scheduled v =
        stepped run b new (steps.Look place r) appends ∙ sym (by_cases hit)
        ∙ sym (decided_next run v place r (under_way run b) next.turn appends.legal.1)
      where
        by_cases : ((n : ℕ) × (r ≡ Exact n)) ⊎ ((n : ℕ) × (r ≡ Mega n)) → schedules.settle_if_missed run v place r (schedules.with_step run (steps.Look place r) (under_way run b)) ≡ schedules.with_step run (steps.Look place r) (under_way run b)
        by_cases (inl (n, is)) = rw is refl
        by_cases (inr (n, is)) = rw is refl

  -- ---- none does

  module _ (missed : BoardView) (looked : Appends run b (steps.Look place Miss) missed) (v : ℕ) (is : v ≡ hi run block) where
    pub pends : is_pending (place_at place (state_of run missed)) ≡ true
    pends =
        subst (λ (t : State). is_pending (place_at place t) ≡ true) (sym (state_after run b missed (steps.Look place Miss) looked))
        (pending_then run b.port (state_of run b) place next.first next.last next.waits)

    pub settle_allowed : settle_fault run (state_of run missed) place v ≡ None
    settle_allowed =
        let s = state_of run b in
        let versions = next.lawful.versions in
        let hi_is : v ≡ hi run s.block = is ∙ ap (hi run) (sym next.swept.at_rest.in_block) in
        let above : s.floor ≤ v = (let a = versions.floor_newest in let n = versions.within_block in omega (arith, a, n, hi_is)) in
        let below : v ≤ hi run s.block = omega (arith, hi_is) in
        subst (λ (t : State). settle_fault run t place v ≡ None) (sym (state_after run b missed (steps.Look place Miss) looked))
        (may_settle run b.port (effect run b.port s (steps.Look place Miss)) place v (pending_then run b.port s place next.first next.last next.waits) above below)

    module _ (new : BoardView) (settles : HasSettled run missed place v new) where
      pub settled_decides_next : Decides run b.port (state_of run b) (state_of run new) place
      settled_decides_next =
          let s = state_of run b in
          let step : steps.Step = steps.Settle place v settles.result in
          let port : missed.port ≡ b.port = ap (λ (x : BoardView). x.port) looked.appended in
          let state : state_of run new ≡ effect run b.port (effect run b.port s (steps.Look place Miss)) step =
          state_after run missed new step settles.appends ∙ ap (λ p. effect run p (state_of run missed) step) port
          ∙ ap (λ (t : State). effect run b.port t step) (state_after run b missed (steps.Look place Miss) looked) in
          subst (λ (t : State). Decides run b.port s t place) (sym state)
          (settled_decides run b.port s place next.first next.last next.waits _
          (settles_at run b.port (effect run b.port s (steps.Look place Miss)) place v (pending_then run b.port s place next.first next.last next.waits)
          (as_planned run b.port place block v next.in_block is) settles.result))

      pub settled_scheduled : b.flow_limit ≡ run.flow_limit → under_way run new ≡ schedules.decide_next run v (under_way run b) place
      settled_scheduled limit =
          settled_step run missed new place v settles (ap (λ (x : BoardView). x.flow_limit) looked.appended ∙ limit)
          ∙ ap (schedules.settle_at run v place) (stepped run b missed (steps.Look place Miss) looked)
          ∙ sym (decided_next run v place Miss (under_way run b) next.turn looked.legal.1)

-- ---- a frame that is pending

-- A settle decides it as is planned, in the block of the board.
pub settled_as_planned : (run : Run) (b new : BoardView) (place v : ℕ) → IsLawful run b → is_pending (place_at place (state_of run b)) ≡ true → v ≡ hi run (state_of run b).block → HasSettled run b place v new
    → SettlesAsPlanned run b.port place (state_of run b) (state_of run new)
settled_as_planned run b new place v lawful pends is settles =
    let s = state_of run b in
    subst (λ (t : State). SettlesAsPlanned run b.port place s t) (sym (state_after run b new (steps.Settle place v settles.result) settles.appends))
    (settles_at run b.port s place v pends (as_planned run b.port place s.block v (lawful.places.in_block place pends) is) settles.result)

pub pending_allowed : (run : Run) (b : BoardView) (place v : ℕ) → IsLawful run b → is_pending (place_at place (state_of run b)) ≡ true → v ≡ hi run (state_of run b).block → settle_fault run (state_of run b) place v ≡ None
pending_allowed run b place v lawful pends is =
    let s = state_of run b in
    let versions = lawful.versions in
    may_settle run b.port s place v pends (let a = versions.floor_newest in let n = versions.within_block in omega (arith, a, n, is)) (omega (arith, is))
