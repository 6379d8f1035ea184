-- What boards are after the turn of a block, and after all of them.
use Rattle.std.proofs.Common.{◌≡◌, ◌⊎◌, inl, inr, ℕ, zero, suc, ◌+◌, ◌≤◌, ◌<◌, ◌==◌, max, List, [], length, map, slice_index_or, All, refl, sym, ap, ◌∙◌, subst, arith}
use Rattle.std.specs.Fn.{iterate}
use Rattle.std.proofs.lemmas.Bool.{cases_eq, cond-false, ne_eqb}
use Rattle.std.proofs.lemmas.Simd.{map-map}
use Rattle.spec_case.specs.Run.{Run, last_version}
use Rattle.spec_case.specs.Blocks.{AreInOrder, hi, last_block}
use Rattle.spec_board.specs.State.{State}
use Rattle.spec_board.specs.Journals.{IsFinished}
use Rattle.spec_board.specs.Schedules.{Board, Schedule, finish_board, finish_block, finish, new_schedule}
use Rattle.spec_board.specs.GivenSteps.{with_given_steps}
use Rattle.spec_board.specs.Scheduled.{scheduled}
use Rattle.pmd_board.specs.BoardView.{BoardView, state_of}
use Rattle.run_boards.specs.Progress.{OnlyPlans, IsPast}
use Rattle.run_boards.specs.Scheduled.{under_way, schedule_of, block_to_finish, finished_in, HasDone, TookTurn, TookTurns, AreOnlyPlanned}
use Rattle.run_boards.proofs.Places.{hi-le}
use Rattle.step_runner.proofs.Progress.{plans_then}
use Rattle.run_boards.proofs.Scheduled.{mapped, least_le, least_above, least_there}

-- ---- one board

module _ (run : Run) (block v : ℕ) (a b : BoardView) (took : TookTurn run block v a b) where
  -- a board of another block is as it was
  other_stays : ((state_of run a).block ≡ block → ⊥) → state_of run b ≡ state_of run a
  other_stays differ =
      ap (λ (x : Board). x.state) took.scheduled
      ∙ ap (λ (x : Board). x.state) (cond-false ((state_of run a).block == block) (finish_board run v (under_way run a)) (under_way run a) (ne_eqb (state_of run a).block block differ))

  -- it finished the block
  past_reached : IsPast run (state_of run b) block → block ≤ last_block run → (more : ℕ) → more ≤ last_block run → more ≤ block + 1 → more ≤ (state_of run b).block
  past_reached past there more within upto = by_cases (cases_eq block (last_block run))
    where
      by_cases : (block ≡ last_block run) ⊎ (block ≡ last_block run → ⊥) → more ≤ (state_of run b).block
      by_cases (inl last) = let e = (past.finished last).in_last_block in omega (arith, within, e)
      by_cases (inr differ) = let e = past.next (omega (arith, differ, there)) in omega (arith, e, upto)

  -- so many blocks are finished, and then one more
  done_more : (blocks : ℕ) → blocks ≤ block → block ≤ last_block run → block ≤ (state_of run a).block → HasDone run (blocks + 1) b
  done_more blocks order there from = by_cases (cases_eq (state_of run a).block block)
    where
      by_cases : ((state_of run a).block ≡ block) ⊎ ((state_of run a).block ≡ block → ⊥) → HasDone run (blocks + 1) b
      by_cases (inl is) = record {
        reached = λ within. past_reached (took.past is) there (blocks + 1) within (omega (arith, order));
        finished = λ after. (took.past is).finished (omega (arith, after, order, there));
      }
      by_cases (inr differ) =
          let same = ap (λ (s : State). s.block) (other_stays differ) in
          let inside = took.there in record {
            reached = λ within. omega (arith, same, differ, from, order);
            finished = λ after. absurd (omega (arith, after, order, from, differ, inside));
          }

  -- no board goes back
  turn_le : block ≤ last_block run → block ≤ (state_of run a).block → block ≤ (state_of run b).block
  turn_le there from = by_cases (cases_eq (state_of run a).block block) (cases_eq block (last_block run))
    where
      by_cases : ((state_of run a).block ≡ block) ⊎ ((state_of run a).block ≡ block → ⊥) → (block ≡ last_block run) ⊎ (block ≡ last_block run → ⊥) → block ≤ (state_of run b).block
      by_cases (inl is) (inl last) = let e = ((took.past is).finished last).in_last_block in omega (arith, e, last)
      by_cases (inl is) (inr more) = let e = (took.past is).next (omega (arith, more, there)) in omega (arith, e)
      by_cases (inr differ) either = let same = ap (λ (s : State). s.block) (other_stays differ) in omega (arith, same, from)

-- ---- all boards

module _ (run : Run) (block v : ℕ) (old new : List BoardView) (took : TookTurns run block v old new) where
  pub turns_ports : map (λ (b : BoardView). b.port) new ≡ map (λ (b : BoardView). b.port) old
  turns_ports = mapped (λ (b : BoardView). b.port) (λ (b : BoardView). b.port) old new took.count (λ k d within. (took.each k d within).port)

  pub turns_limits : All (λ (b : BoardView). b.flow_limit ≡ run.flow_limit) old → All (λ (b : BoardView). b.flow_limit ≡ run.flow_limit) new
  turns_limits limits = λ k d within. let n = took.count in let inside : k < length old = omega (arith, within, n) in (took.each k d inside).limit ∙ limits k d inside

  pub turns_planned : AreOnlyPlanned run old new
  turns_planned = record {
    count = took.count;
    ports = λ k d within. (took.each k d within).port;
    each = λ k d within. (took.each k d within).only_plans;
  }

  pub turns_done : block ≡ block_to_finish run old → (blocks : ℕ) → blocks ≤ last_block run → All (HasDone run blocks) old → All (HasDone run (blocks + 1)) new
  turns_done is blocks within done = λ k d inside.
      let n = took.count in
      let there = least_there run old in
      let order = least_above run (last_block run) blocks old within (λ i e less. (done i e less).reached within) in
      let here : k < length old = omega (arith, inside, n) in
      done_more run block v (slice_index_or old k d) (slice_index_or new k d) (took.each k d here) blocks (omega (arith, is, order)) (omega (arith, is, there))
      (let l = least_le run (last_block run) old k d here in omega (arith, is, l))

  -- the boards are not before the block afterwards
  pub turns_version : AreInOrder run.syncs (last_version run) → block ≡ block_to_finish run old → v ≡ hi run block → v ≤ hi run (block_to_finish run new)
  turns_version in_order is at =
      let n = took.count in
      let there : block ≤ last_block run = (let l = least_there run old in omega (arith, is, l)) in
      let later = least_above run (last_block run) block new there
      (λ k d inside.
      let here : k < length old = omega (arith, inside, n) in
      turn_le run block v (slice_index_or old k d) (slice_index_or new k d) (took.each k d here) there
      (let l = least_le run (last_block run) old k d here in omega (arith, is, l))) in
      let l = hi-le run block (block_to_finish run new) in_order later in omega (arith, at, l)

  -- the turn is the definition's
  pub turns_made : (newest : ℕ) → block ≡ block_to_finish run old → v ≡ max newest (hi run block) → schedule_of run v new ≡ finish_block run (schedule_of run newest old)
  turns_made newest least is =
      let boards = map (under_way run) old in
      let made = mapped (under_way run) (λ (b : BoardView). finished_in run block v (under_way run b)) old new took.count (λ k d within. (took.each k d within).scheduled) in
      let at : ℕ → ℕ → Schedule = λ k w. record { newest = w; boards = map (finished_in run k w) boards; unmet = 0 } in
      ap (λ bs. record { newest = v; boards = bs; unmet = 0 }) (made ∙ sym (map-map (finished_in run block v) (under_way run) old))
      ∙ ap (at block) is ∙ ap (λ k. at k (max newest (hi run k))) least

-- ---- all turns

-- at first no block is finished
pub none_done : (run : Run) (boards : List BoardView) → All (HasDone run 0) boards
none_done run boards = λ k d within. record { reached = λ there. omega arith; finished = λ after. absurd (omega (arith, after)) }

pub all_done : (run : Run) (blocks : ℕ) (boards : List BoardView) → last_block run < blocks → All (HasDone run blocks) boards → All (λ (b : BoardView). IsFinished run (state_of run b)) boards
all_done run blocks boards after done = λ k d within. (done k d within).finished after

pub planned_none : (run : Run) (boards : List BoardView) → AreOnlyPlanned run boards boards
planned_none run boards = record { count = refl; ports = λ k d within. refl; each = λ k d within place. inl refl }

pub planned_then : (run : Run) (a b c : List BoardView) → AreOnlyPlanned run a b → AreOnlyPlanned run b c → AreOnlyPlanned run a c
planned_then run a b c first second = record {
  count = second.count ∙ first.count;
  ports = λ k d within. second.ports k d (inside k within) ∙ first.ports k d within;
  each = λ k d within.
      let port = first.ports k d within in
      plans_then run (slice_index_or a k d).port (state_of run (slice_index_or a k d)) (state_of run (slice_index_or b k d)) (state_of run (slice_index_or c k d))
      (first.each k d within)
      (subst (λ p. OnlyPlans run p (state_of run (slice_index_or b k d)) (state_of run (slice_index_or c k d))) port (second.each k d (inside k within)));
}
  where
    inside : (k : ℕ) → k < length a → k < length b
    inside k within = let n = first.count in omega (arith, within, n)

iterate_suc : {A : Type 0} (h : A → A) (n : ℕ) (x : A) → iterate h (suc n) x ≡ h (iterate h n x)
iterate_suc h zero x = refl
iterate_suc h (suc n) x = iterate_suc h n (h x)

pub iterate_more : {A : Type 0} (h : A → A) (n : ℕ) (x : A) → iterate h (n + 1) x ≡ h (iterate h n x)
iterate_more h n x = let e : n + 1 ≡ suc n = omega arith in ap (λ k. iterate h k x) e ∙ iterate_suc h n x

-- all rounds are made
pub all_rounds : (run : Run) (n : ℕ) (s t : Schedule) → n ≡ last_block run + 1 → t ≡ iterate (finish_block run) n s → t ≡ finish run s
unfolding finish
all_rounds run n s t is made = made ∙ ap (λ k. iterate (finish_block run) k s) is

-- and they are the whole schedule where no step is given
pub all_made : (run : Run) (s : Schedule) → run.steps ≡ [] → s ≡ finish run (new_schedule run) → s.boards ≡ (scheduled run).boards
unfolding with_given_steps
all_made run s none made = ap (λ (x : Schedule). x.boards) (made ∙ ap (λ steps. finish run (with_given_steps run steps (new_schedule run))) (sym none))
