-- What given steps leave of a board as it was.
use Rattle.std.proofs.Common.{◌≡◌, ℕ, ◌+◌, ◌≤◌, Bool, true, false, List, [], ◌∷◌, ◌++◌, Option, Some, None, refl, ap, ◌∙◌, arith}
use Rattle.std.specs.Option.{is_none}
use Rattle.spec_case.specs.declared.run_step.RunStep.{RunStep}
use Rattle.spec_case.specs.declared.run_step.RunStep.TheVariants as given
use Rattle.spec_case.specs.Run.{Run}
use Rattle.spec_board.specs.declared.looked.Looked.{Looked}
use Rattle.spec_board.specs.declared.looked.Looked.TheVariants.{Exact, Mega, Miss}
use Rattle.spec_board.specs.declared.put_done.PutDone.{PutDone}
use Rattle.spec_board.specs.declared.put_done.PutDone.TheVariants.{Idle, Removed, Kept, Replaced}
use Rattle.spec_board.specs.Steps.{Settled, Present, Full, Installed, Open, Look, Settle, Begin, Put, End}
use Rattle.spec_board.specs.State.{Entry, State, place_at, is_pending}
use Rattle.spec_board.specs.Results.{key_at, looked, settled, entry_of, put_done}
use Rattle.spec_board.specs.Refusals.{open_fault, look_fault, settle_fault, begin_fault, put_fault, end_fault}
use Rattle.spec_board.specs.Effects.{effect, is_among}
use Rattle.spec_board.specs.Schedules.{Board, Schedule, with_step, look_next, settle_at, put_entry, put_at}
use Rattle.spec_board.specs.GivenSteps.{met_if, kept_version, given_up, keeping, settle_kept, put_kept, given_step, port_of, with_step_at, with_given_steps}

-- The second board is of the same port, and in no earlier block.
pub record GoesOn (a b : Board) : Type 0 where
  pub port : b.port ≡ a.port
  pub block : a.state.block ≤ b.state.block

same_block : (a b : Board) → b.port ≡ a.port → b.state.block ≡ a.state.block → GoesOn a b
same_block a b port block = record { port = port; block = omega (arith, block) }

goes_if : (a done other : Board) (t : Bool) → GoesOn a done → GoesOn a other → GoesOn a (met_if t done other).1
goes_if a done other true first second = first
goes_if a done other false first second = second

module _ (run : Run) (port : ℕ) (s : State) where
  look_block : (place : ℕ) (r : Looked) → (effect run port s (Look place r)).block ≡ s.block
  look_block place (Exact n) = refl
  look_block place (Mega n) = refl
  look_block place Miss = refl

  settle_block : (place v : ℕ) (r : Settled) → (effect run port s (Settle place v r)).block ≡ s.block
  settle_block place v (Present n) = refl
  settle_block place v Full = refl
  settle_block place v (Installed n numbers) = refl

  put_block : (number v : ℕ) (r : PutDone) → (effect run port s (Put number v r)).block ≡ s.block
  put_block number v Idle = refl
  put_block number v Removed = refl
  put_block number v Kept = refl
  put_block number v Replaced = refl

module _ (run : Run) where
  put_goes : (v : ℕ) (a b : Board) (o : Option Entry) → b.port ≡ a.port → b.state ≡ a.state → GoesOn a (put_entry run v o b)
  put_goes v a b None port state = same_block a b port (ap (λ (s : State). s.block) state)
  put_goes v a b (Some e) port state =
      same_block a (put_entry run v (Some e) b) port (put_block run b.port b.state e.number v (put_done run e v b.state) ∙ ap (λ (s : State). s.block) state)

  settle_kept_goes : (place : ℕ) (o : Option ℕ) (a b : Board) → b.port ≡ a.port → b.state ≡ a.state → GoesOn a (settle_kept run place o b).1
  settle_kept_goes place None a b port state = same_block a b port (ap (λ (s : State). s.block) state)
  settle_kept_goes place (Some v) a b port state =
      let block = ap (λ (s : State). s.block) state in
      goes_if a (settle_at run v place b) b (is_none (settle_fault run b.state place v))
      (same_block a (settle_at run v place b) port (settle_block run b.port b.state place v (settled run run.flow_limit (key_at run b.port place) v b.state) ∙ block))
      (same_block a b port block)

  put_kept_goes : (number : ℕ) (o : Option ℕ) (a b : Board) → b.port ≡ a.port → b.state ≡ a.state → GoesOn a (put_kept run number o b).1
  put_kept_goes number None a b port state = same_block a b port (ap (λ (s : State). s.block) state)
  put_kept_goes number (Some v) a b port state =
      goes_if a (put_at run v number b) b (is_none (put_fault run b.state number v))
      (put_goes v a b (entry_of number b.state.entries) port state)
      (same_block a b port (ap (λ (s : State). s.block) state))

  pub step_goes : (newest : ℕ) (step : RunStep) (b : Board) → GoesOn b (given_step run newest step b).1
  step_goes newest given.Edit b = same_block b b refl refl
  step_goes newest (given.Rx port) b =
      let r = looked (key_at run b.port b.state.next) b.state in
      goes_if b (look_next run b) b (is_none (look_fault run b.port b.state b.state.next))
      (same_block b (look_next run b) refl (look_block run b.port b.state b.state.next r)) (same_block b b refl refl)
  step_goes newest (given.Snap port place) b =
      let kept = record b { snaps = keeping place newest b.snaps } in
      goes_if b kept b (is_pending (place_at place b.state)) (same_block b kept refl refl) (same_block b b refl refl)
  step_goes newest (given.Settle port place) b =
      settle_kept_goes place (kept_version place b.snaps) b (record b { snaps = given_up place b.snaps }) refl refl
  step_goes newest (given.Sweep port) b =
      goes_if b (with_step run (Begin newest) b) b (is_none (begin_fault run b.state newest))
      (same_block b (with_step run (Begin newest) b) refl refl) (same_block b b refl refl)
  step_goes newest (given.Check port number) b =
      let kept = record b { checks = keeping number newest b.checks } in
      goes_if b kept b (is_among b.state.listed number) (same_block b kept refl refl) (same_block b b refl refl)
  step_goes newest (given.Put port number) b =
      put_kept_goes number (kept_version number b.checks) b (record b { checks = given_up number b.checks }) refl refl
  step_goes newest (given.Swept port) b =
      goes_if b (with_step run End b) b (is_none (end_fault b.state))
      (same_block b (with_step run End b) refl refl) (same_block b b refl refl)
  step_goes newest (given.Open port) b =
      let opened = with_step run (Open (b.state.block + 1)) b in
      goes_if b opened b (is_none (open_fault run b.port b.state (b.state.block + 1)))
      (record { port = refl; block = omega arith }) (same_block b b refl refl)

-- ---- all steps

-- one more step
pub steps_more : (run : Run) (steps : List RunStep) (step : RunStep) (s : Schedule)
    → with_given_steps run (steps ++ step ∷ []) s ≡ with_step_at run step (port_of step) (with_given_steps run steps s)
unfolding with_given_steps
steps_more run [] step s = refl
steps_more run (first ∷ steps) step s = steps_more run steps step (with_step_at run first (port_of first) s)

pub steps_none : (run : Run) (s : Schedule) → with_given_steps run [] s ≡ s
unfolding with_given_steps
steps_none run s = refl
