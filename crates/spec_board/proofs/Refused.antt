-- Rows: what refuses a step, and journals, decisions and ends that are not those of a run.
use Rattle.std.proofs.Common.{ap, sym, ◌∙◌, arith}
use Rattle.std.specs.Option.{option_map_or}
use Rattle.std.proofs.lemmas.Option.{none-some}
use Rattle.std.specs.Prelude.{◌≡◌, ℕ, ◌≤◌, true, false, List, [], ◌∷◌, length, Option, Some, None, refl}
use Rattle.spec_actions.specs.declared.action.OfAction.TheVariants.{Output}
use Rattle.spec_case.specs.Run.{Run}
use Rattle.spec_board.specs.declared.looked.Looked.TheVariants.{Mega, Miss}
use Rattle.spec_board.specs.declared.put_done.PutDone.TheVariants.{Kept, Replaced}
use Rattle.spec_board.specs.declared.faults.OpenFault.TheVariants as open_faults
use Rattle.spec_board.specs.declared.faults.LookFault.TheVariants as look_faults
use Rattle.spec_board.specs.declared.faults.SettleFault.TheVariants as settle_faults
use Rattle.spec_board.specs.declared.faults.BeginFault.TheVariants as begin_faults
use Rattle.spec_board.specs.declared.faults.PutFault.TheVariants as put_faults
use Rattle.spec_board.specs.declared.faults.EndFault.TheVariants as end_faults
use Rattle.spec_board.specs.Steps.{Step, Open, Look, Settle, Begin, Put, End, Full, Installed}
use Rattle.spec_board.specs.State.{State, Pending}
use Rattle.spec_board.specs.Results.{key_at, translated}
use Rattle.spec_board.specs.Refusals.{open_fault, look_fault, settle_fault, begin_fault, put_fault, end_fault}
use Rattle.spec_board.specs.Journals.{Legal, IsFinished, after}
use Rattle.spec_board.specs.Decisions.{Decision, IsInWindow, IsDecided}
use Rattle.spec_board.proofs.Shown.{run_of, flow_limit, add, dl_dst, sync, frame, shown}
use Rattle.spec_board.proofs.Runs.{replaced, replaced_steps, two_blocks, led_to, one_settled}

-- ---- refusals

a_block_is_opened_when_nothing_of_the_one_before_is_left :
    (open_fault two_blocks 1 (led_to []) 1 ≡ Some (open_faults.LooksLeft 1))
    × ((open_fault two_blocks 1 (led_to (Look 1 Miss ∷ [])) 1 ≡ Some (open_faults.Pending 1))
    × ((open_fault two_blocks 1 (led_to one_settled) 1 ≡ Some (open_faults.Unswept 0 2))
    × ((open_fault two_blocks 1 (led_to (Begin 2 ∷ End ∷ one_settled)) 1 ≡ None)
    × (open_fault two_blocks 1 (led_to (Begin 2 ∷ End ∷ one_settled)) 2 ≡ Some (open_faults.Order 0 1)))))
unfolding shown
a_block_is_opened_when_nothing_of_the_one_before_is_left = (refl, (refl, (refl, (refl, refl))))

-- the second frame is of the same block, and the first one pending
looks_that_are_left_are_told_before_pending_frames :
    open_fault (record two_blocks { syncs = sync 9 2 ∷ [] }) 1 (led_to (Look 1 Miss ∷ [])) 1 ≡ Some (open_faults.LooksLeft 2)
unfolding shown
looks_that_are_left_are_told_before_pending_frames = refl

frames_are_looked_up_in_turn_and_in_their_block :
    (look_fault two_blocks 1 (led_to []) 2 ≡ Some (look_faults.OutOfTurn 1))
    × ((look_fault two_blocks 1 (led_to one_settled) 2 ≡ Some (look_faults.OtherBlock 0))
    × (look_fault two_blocks 1 (led_to []) 1 ≡ None))
unfolding shown
frames_are_looked_up_in_turn_and_in_their_block = (refl, (refl, refl))

a_frame_is_settled_under_a_version_from_the_sweep_to_the_end_of_the_block :
    (settle_fault two_blocks (led_to []) 1 1 ≡ Some settle_faults.NotPending)
    × ((settle_fault two_blocks (led_to (Look 1 Miss ∷ Begin 2 ∷ [])) 1 1 ≡ Some (settle_faults.Stale 2))
    × ((settle_fault two_blocks (led_to (Look 1 Miss ∷ Begin 2 ∷ [])) 1 3 ≡ Some (settle_faults.Ahead 2))
    × (settle_fault two_blocks (led_to (Look 1 Miss ∷ Begin 2 ∷ [])) 1 2 ≡ None)))
unfolding shown
a_frame_is_settled_under_a_version_from_the_sweep_to_the_end_of_the_block = (refl, (refl, (refl, refl)))

one_sweep_runs_at_a_time :
    (begin_fault two_blocks (led_to (Begin 1 ∷ [])) 1 ≡ Some (begin_faults.Sweeping 1))
    × ((begin_fault two_blocks (led_to []) 3 ≡ Some (begin_faults.Ahead 2))
    × ((begin_fault two_blocks (led_to []) 2 ≡ None)
    × (begin_fault two_blocks (led_to (Begin 2 ∷ End ∷ [])) 1 ≡ None)))
unfolding shown
one_sweep_runs_at_a_time = (refl, (refl, (refl, refl)))

abbrev one_listed : List Step
one_listed = Look 1 Miss ∷ Settle 1 2 (Installed 1 []) ∷ Begin 2 ∷ []

a_listed_entry_is_put_once_under_a_version_from_the_sweep_to_the_end_of_the_block :
    (put_fault two_blocks (led_to one_settled) 1 2 ≡ Some put_faults.NotListed)
    × ((put_fault two_blocks (led_to one_listed) 1 1 ≡ Some (put_faults.Stale 2))
    × ((put_fault two_blocks (led_to one_listed) 1 3 ≡ Some (put_faults.Ahead 2))
    × ((put_fault two_blocks (led_to one_listed) 1 2 ≡ None)
    × (put_fault two_blocks (led_to (Look 1 Miss ∷ Settle 1 2 (Installed 1 []) ∷ Begin 2 ∷ Put 1 2 Kept ∷ [])) 1 2 ≡ Some put_faults.NotListed))))
unfolding shown
a_listed_entry_is_put_once_under_a_version_from_the_sweep_to_the_end_of_the_block = (refl, (refl, (refl, (refl, refl))))

-- version 1 is below that of the sweep
a_frame_or_an_entry_that_does_not_wait_is_told_before_a_stale_version :
    (settle_fault two_blocks (led_to (Begin 2 ∷ [])) 1 1 ≡ Some settle_faults.NotPending)
    × (put_fault two_blocks (led_to (Begin 2 ∷ [])) 1 1 ≡ Some put_faults.NotListed)
unfolding shown
a_frame_or_an_entry_that_does_not_wait_is_told_before_a_stale_version = (refl, refl)

a_sweep_ends_when_no_entry_is_listed :
    (end_fault (led_to []) ≡ Some end_faults.NotSweeping)
    × ((end_fault (led_to one_listed) ≡ Some (end_faults.Left 1))
    × (end_fault (led_to (Begin 2 ∷ [])) ≡ None))
unfolding shown
a_sweep_ends_when_no_entry_is_listed = (refl, (refl, refl))

-- ---- journals that are not legal

-- a board of port 1 takes no such step after these
abbrev Refuses : List Step → Step → Type 0
Refuses steps step = Legal two_blocks 1 flow_limit (led_to steps) step → ⊥

a_refused_step_is_not_legal :
    Refuses [] (Open 1) × (Refuses [] (Look 2 Miss) × (Refuses [] (Settle 1 2 (Installed 1 [])) × (Refuses [] (Begin 3)
    × (Refuses one_settled (Put 1 2 Kept) × Refuses [] End))))
unfolding shown
a_refused_step_is_not_legal = (
  λ e. none-some _ (sym e),
  (
    λ l. none-some _ (sym l.0),
    (
      λ l. none-some _ (sym l.0),
      (
        λ e. none-some _ (sym e),
        (λ l. none-some _ (sym l.0), λ e. none-some _ (sym e)),
      ),
    ),
  ),
)

-- what a step gives is no free choice
a_step_with_another_result_is_not_legal :
    Refuses [] (Look 1 (Mega 1)) × (Refuses (Look 1 Miss ∷ []) (Settle 1 2 Full) × Refuses one_listed (Put 1 2 Replaced))
unfolding shown
a_step_with_another_result_is_not_legal = (
  λ l. let e : Mega 1 ≡ Miss = l.1 in grind (arith, e),
  (
    λ l. let e : Full ≡ Installed 1 [] = l.1 in grind (arith, e),
    λ l. let e : Some Kept ≡ Some Replaced = l.1 in grind (arith, e),
  ),
)

-- ---- ends that are none

-- the state at the end of a whole run
abbrev finished : State
finished = after replaced 1 replaced_steps

abbrev IsNoEnd : State → Type 0
IsNoEnd s = IsFinished replaced s → ⊥

a_board_with_something_left_is_not_finished :
    IsNoEnd (record finished { block = 1 }) × (IsNoEnd (record finished { places = Pending ∷ [] })
    × (IsNoEnd (record finished { is_sweeping = true }) × IsNoEnd (record finished { done = 1 })))
unfolding shown
a_board_with_something_left_is_not_finished = (
  λ f. let e : 1 ≡ 0 = f.in_last_block in omega (arith, e),
  (
    λ f. let e : false ≡ true = f.all_decided in grind (arith, e),
    (λ f. let e : true ≡ false = f.no_sweep in grind (arith, e), λ f. let e : 1 ≡ 2 = f.swept in omega (arith, e)),
  ),
)

-- ---- decisions that are none

-- the first frame, which is of block 0 of versions 0 to 2, decided under a version, with these versions around it
abbrev decided : ℕ → ℕ → ℕ → Decision
decided v done newest =
    record { place = 1; version = v; actions = []; before = record (led_to []) { done = done }; after = record (led_to []) { newest = newest } }

abbrev IsOutside : Decision → Type 0
IsOutside d = IsInWindow two_blocks 1 d → ⊥

a_version_outside_of_its_window_is_told :
    IsOutside (decided 1 2 2) × (IsOutside (decided 2 1 1) × (IsOutside (decided 3 0 3) × IsOutside (record (decided 1 0 2) { place = 2 })))
unfolding shown
a_version_outside_of_its_window_is_told = (
  λ w. let l : 2 ≤ 1 = w.not_older in omega (arith, l),
  (
    λ w. let l : 2 ≤ 1 = w.not_newer in omega (arith, l),
    (λ w. let l : 3 ≤ 2 = w.within_block in omega (arith, l), λ w. let l : 2 ≤ 1 = w.from_block in omega (arith, l)),
  ),
)

a_frame_that_is_decided_twice_is_not_decided :
    IsDecided replaced 1 (Look 1 Miss ∷ Settle 1 1 Full ∷ Settle 1 1 Full ∷ []) 1 → ⊥
unfolding shown
a_frame_that_is_decided_twice_is_not_decided d = let e : 2 ≡ 1 = d.once in omega (arith, e)

-- the second frame goes to an address that no rule has, and is given the actions of the entry of the first
abbrev to_one_address : Run
to_one_address = run_of flow_limit (2 ∷ []) (add 5 (dl_dst 2) (Output 2 ∷ []) ∷ []) [] (frame 1 2 ∷ frame 2 6 ∷ []) []

abbrev taken_for_the_first : List Step
taken_for_the_first = Look 1 Miss ∷ Settle 1 1 (Installed 1 []) ∷ Look 2 (Mega 1) ∷ []

a_frame_with_the_actions_of_another_is_not_decided : IsDecided to_one_address 1 taken_for_the_first 2 → ⊥
unfolding shown
a_frame_with_the_actions_of_another_is_not_decided d =
    let number : 1 ≡ length d.decision.actions = ap (λ (o : Option Decision). option_map_or (λ (c : Decision). length c.actions) o 0) d.is_decision in
    let version : 1 ≡ d.decision.version = ap (λ (o : Option Decision). option_map_or (λ (c : Decision). c.version) o 0) d.is_decision in
    let plain : 0 ≡ length d.decision.actions = ap (λ (v : ℕ). length (translated to_one_address v (key_at to_one_address 1 2)).actions) version ∙ sym (ap length d.plain) in
    omega (arith, number, plain)
