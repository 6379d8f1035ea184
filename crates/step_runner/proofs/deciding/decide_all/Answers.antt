use Rattle.std.proofs.Common.{arith, ◌≡◌, ◌⊎◌, inl, inr, ℕ, ◌+◌, ◌-◌, ◌<◌, ◌≤◌, sym, ap, ◌∙◌, subst}
use Rattle.std.specs.List.{fold, range_with_len}
use Rattle.std.proofs.lemmas.Bool.{cases_lt}
use Rattle.spec_case.specs.Run.{Run}
use Rattle.spec_case.specs.Blocks.{last_place}
use Rattle.run_case.specs.Places.{place_before}
use Rattle.spec_board.specs.Schedules as schedules
use Rattle.pmd_board.specs.BoardView.{BoardView, state_of}
use Rattle.run_boards.specs.Progress.{OnlyPlans}
use Rattle.run_boards.specs.Scheduled.{under_way}
use Rattle.step_runner.proofs.LookedUp.{looked_up}
use Rattle.step_runner.proofs.Progress.{plans_then}
use Rattle.run_boards.proofs.Scheduled.{fold_more}
use Rattle.step_runner.proofs.deciding.decide_all.Goals as goal

-- how many places a loop went over
counted : (next place end from last : ℕ) → next ≤ place → end + 1 ≤ place → (next < place → place ≤ end + 1) → next ≡ from → end ≡ last → place - next ≡ last + 1 - from
counted next place end from last start stop upto same is = by_cases (cases_lt next place)
  where
    by_cases : (next < place) ⊎ (place ≤ next) → place - next ≡ last + 1 - from
    by_cases (inl less) = let u = upto less in omega (arith, stop, u, same, is)
    by_cases (inr none) = omega (arith, start, none, stop, same, is)

-- the place that is next is in the block of the board
pub decide_next-requires-clause-in_block : goal.decide_next-requires-clause-in_block
decide_next-requires-clause-in_block g c _ _ =
    let run : Run = g.C.Case.run in
    let b : BoardView = c.args.board.now in
    let past = (looked_up run b.port b.flow_limit b.journal c.journal.ensures.legal).past in
    let block = ap (place_before run b.port) c.requires.swept.at_rest.in_block in
    let from = c.places.auto.place in
    let upto = c.places-test.true in
    let next = c.next-next.ensures.same in
    let here : c.last_place-end.result ≡ last_place run b.port c.args.block = c.last_place-end.ensures.place ∙ ap (λ p. last_place run p c.args.block) c.port-2.ensures.same in
    let port = c.places.invariant.same.port in record {
      after = rw port (omega (arith, past, block, from, next));
      within = rw port (omega (arith, upto, here));
    }

pub places-preserved : goal.places-preserved
places-preserved g c =
    let run : Run = g.C.Case.run in
    let v = c.args.tables.now in
    let first = c.next-next.result in
    let from = c.places.auto.place in
    let same = c.places.invariant.same in
    let a = state_of run c.args.board.now in
    let s = state_of run c.places.board in
    let t = state_of run c.decide_next.new.board in record {
      swept = c.in_ok-decide_next.ensures.swept;
      turn = c.in_ok-decide_next.ensures.next;
      upto = λ _. (let t = c.places-test.true in omega (arith, t));
      same = record { port = c.in_ok-decide_next.ensures.port.port ∙ same.port; limit = c.in_ok-decide_next.ensures.port.limit ∙ same.limit };
      only_plans = plans_then run c.args.board.now.port a s t c.places.invariant.only_plans (subst (λ p. OnlyPlans run p s t) same.port c.in_ok-decide_next.ensures.only_plans);
      scheduled = c.in_ok-decide_next.ensures.scheduled
          ∙ ap (λ b. schedules.decide_next run v b c.places.place) c.places.invariant.scheduled
          ∙ sym (fold_more (schedules.decide_next run v) (under_way run c.args.board.now) first (c.places.place - first) (c.places.place + 1 - first) c.places.place (omega (arith, from)) (omega (arith, from)));
    }

pub returns-clause-all : goal.returns-clause-all
returns-clause-all g c =
    let run : Run = g.C.Case.run in
    let port = c.args.board.now.port in
    let here : c.last_place-end.result ≡ last_place run port c.args.block = c.last_place-end.ensures.place ∙ ap (λ p. last_place run p c.args.block) c.port-2.ensures.same in
    let stop = c.places-test.false in
    let turn = c.places.invariant.turn in omega (arith, here, stop, turn)

pub returns-clause-scheduled : goal.returns-clause-scheduled
returns-clause-scheduled g c =
    let run : Run = g.C.Case.run in
    let b : BoardView = c.args.board.now in
    let s = state_of run b in
    let same = c.next-next.ensures.same in
    let here : c.last_place-end.result ≡ last_place run b.port c.args.block = c.last_place-end.ensures.place ∙ ap (λ p. last_place run p c.args.block) c.port-2.ensures.same in
    let end : c.last_place-end.result ≡ last_place run b.port s.block = here ∙ ap (last_place run b.port) (sym c.requires.swept.at_rest.in_block) in
    let left : c.places.place - c.next-next.result ≡ last_place run b.port s.block + 1 - s.next =
    counted c.next-next.result c.places.place c.last_place-end.result s.next (last_place run b.port s.block) c.places.auto.place c.places-test.false c.places.invariant.upto same end in
    c.places.invariant.scheduled
    ∙ ap (λ n. fold (schedules.decide_next run c.args.tables.now) (under_way run b) (range_with_len c.next-next.result n)) left
    ∙ ap (λ i. fold (schedules.decide_next run c.args.tables.now) (under_way run b) (range_with_len i (last_place run b.port s.block + 1 - s.next))) same
